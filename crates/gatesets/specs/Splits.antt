-- What a split is: pairs of functions, parts of a table, the order of checks, and what a set of gates shows.
use Rattle.std.specs.Prelude.{◌≡◌, ℕ, ◌*◌, ◌^◌, ◌<◌, ◌≤◌, Bool, not, ◌&&◌, ◌⊎◌, List, [], ◌∷◌, ◌++◌, length, take, drop, Some, None, Option, Result, MatchResult, nat_le, nat_lt, slice_index}
use Rattle.std.specs.Option.{option_map}
use Rattle.std.specs.Bool.{then_some}
use Rattle.tables.specs.Checks.{first, lowest}
use Rattle.tables.specs.Gates.{joined}
use Rattle.tables.specs.Groups.{Ignores, lawful_groups}
use Rattle.tables.specs.Tables.{Admits, Allows, lawful_size}
use Rattle.gatesets.specs.declared.refusal.SplitRefusal.{SplitRefusal}
use Rattle.gatesets.specs.declared.refusal.SplitRefusal.TheVariants.{Variables, TooShort, Code, Gate, Groups, NoPair}
use Rattle.gatesets.specs.declared.request.Request.{Request}

-- the code of a row at an assignment
abbrev pub code : List ℕ → ℕ → ℕ
code row i = slice_index row i

-- a pair of functions for a table, joined by a gate: the first ignores the right group, the second the left, and the table admits what the gate makes of them
pub record Pair (gate : List Bool) (ask : Request) (table : List ℕ) : Type 0 where
  pub first : ℕ → Bool
  pub second : ℕ → Bool
  pub first_ignores : Ignores ask.variables ask.right first
  pub second_ignores : Ignores ask.variables ask.left second
  pub admitted : Admits ask.variables table (λ i. joined gate (first i) (second i))

-- what two parts of a table show
pub record Parts (gate : List Bool) (ask : Request) (table left right : List ℕ) : Type 0 where
  -- each has a code 0, 1 or 2 for every assignment
  pub left_long : length left ≡ 2 ^ ask.variables
  pub right_long : length right ≡ 2 ^ ask.variables
  pub left_codes : (i : ℕ) → i < 2 ^ ask.variables → code left i ≤ 2
  pub right_codes : (i : ℕ) → i < 2 ^ ask.variables → code right i ≤ 2
  -- the left part ignores the right group, the right part the left
  pub left_ignores : Ignores ask.variables ask.right (code left)
  pub right_ignores : Ignores ask.variables ask.left (code right)
  -- at every assignment, each pair of values that the two parts allow joins to a value that the table allows
  pub joins : (i : ℕ) → i < 2 ^ ask.variables → (u v : Bool) → Allows (code left i) u → Allows (code right i) v → Allows (code table i) (joined gate u v)
  -- neither depends on a variable on which the table does not
  pub left_needs : (k : ℕ) → k < ask.variables → Ignores ask.variables (2 ^ k) (code table) → Ignores ask.variables (2 ^ k) (code left)
  pub right_needs : (k : ℕ) → k < ask.variables → Ignores ask.variables (2 ^ k) (code table) → Ignores ask.variables (2 ^ k) (code right)

-- the rows lent to a split: the table, two rows for the parts, and two work rows of 16-bit numbers
pub record Rows : Type 0 where
  pub table : List ℕ
  pub left : List ℕ
  pub right : List ℕ
  pub first : List ℕ
  pub second : List ℕ

abbrev pub rows : List ℕ → List ℕ → List ℕ → List ℕ → List ℕ → Rows
rows t a b v w = record { table = t; left = a; right = b; first = v; second = w }

-- the table and the part rows have 2 ^ n codes, the work rows 2 × 2 ^ n numbers
abbrev pub roomy : ℕ → Rows → Bool
roomy n lent =
    nat_le (2 ^ n) (length lent.table) && (nat_le (2 ^ n) (length lent.left) && (nat_le (2 ^ n) (length lent.right)
    && (nat_le (2 * 2 ^ n) (length lent.first) && nat_le (2 * 2 ^ n) (length lent.second))))

-- the checks before the last, in their order
abbrev pub checks : ℕ → Request → Rows → List (Option SplitRefusal)
checks count ask lent =
    then_some (not (lawful_size ask.variables)) Variables
    ∷ then_some (not (roomy ask.variables lent)) TooShort
    ∷ option_map Code (lowest (2 ^ ask.variables) (λ i. nat_lt 2 (code lent.table i)))
    ∷ then_some (nat_le count ask.gate) Gate
    ∷ then_some (not (lawful_groups ask.variables ask.left ask.right)) Groups
    ∷ []

-- the refusal of the first of them that refuses
abbrev pub early : ℕ → Request → Rows → Option SplitRefusal
early count ask lent = first (checks count ask lent)

-- the table at the front of its row
abbrev pub table_in : Request → List ℕ → List ℕ
table_in ask row = take (2 ^ ask.variables) row

-- a part at the front of a row, beyond which the row is as it was
abbrev pub laid : List ℕ → List ℕ → List ℕ
laid part row = part ++ drop (length part) row

-- which parts a set may give: for a request and a table, a left and a right part
abbrev pub Giving : Type 1
Giving = Request → List ℕ → List ℕ → List ℕ → Type 0

-- a split that is answered with parts: the set may give them, the part rows then hold them, and the table admits a pair
pub record Parted (count : ℕ) (gate : List Bool) (gives : Giving) (ask : Request) (lent : Rows) (left_row right_row : List ℕ) : Type 0 where
  pub passed : early count ask lent ≡ None
  pub left : List ℕ
  pub right : List ℕ
  pub given : gives ask (table_in ask lent.table) left right
  pub parts : Parts gate ask (table_in ask lent.table) left right
  pub pair : Pair gate ask (table_in ask lent.table)
  pub left_holds : left_row ≡ laid left lent.left
  pub right_holds : right_row ≡ laid right lent.right

-- a split that is refused: by the first check that refuses, or else because the table admits no pair; the part rows are as they were
pub record Refused (count : ℕ) (gate : List Bool) (ask : Request) (lent : Rows) (left_row right_row : List ℕ) (refusal : SplitRefusal) : Type 0 where
  pub reason : (early count ask lent ≡ Some refusal) ⊎ ((early count ask lent ≡ None) × (refusal ≡ NoPair) × (Pair gate ask (table_in ask lent.table) → ⊥))
  pub left_same : left_row ≡ lent.left
  pub right_same : right_row ≡ lent.right

-- what a split has done that was answered r
abbrev pub Split : ℕ → List Bool → Giving → Request → Rows → List ℕ → List ℕ → Result (Unit {0}) SplitRefusal → Type 0
Split count gate gives ask lent left_row right_row r =
    MatchResult r (λ _. Parted count gate gives ask lent left_row right_row) (λ refusal. Refused count gate ask lent left_row right_row refusal)
