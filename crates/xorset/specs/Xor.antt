-- The rule of XOR: the classes of linked cells are joined one link after another.
use Rattle.std.specs.Prelude.{◌≡◌, ℕ, zero, suc, ◌^◌, Bool, true, false, ◌||◌, if◌then◌else◌, List, ◌==◌, nat_lt}
use Rattle.tables.specs.Gates.{gate_of}
use Rattle.tables.specs.Groups.{within}
use Rattle.gatesets.specs.declared.request.Request.{Request}
use Rattle.gatesets.specs.Splits.{code}
use Rattle.gatesets.specs.Rules.{Rule, two_parts, codes, ruled}
use Rattle.xorset.specs.Cells.{Values, is_one, left_cell, right_cell, xor}

-- the gate that answers 1 where its inputs differ
abbrev pub xor_gate : List Bool
xor_gate = gate_of xor

-- the label of a cell: the lowest cell of its class, and whether the two differ
pub record Label : Type 0 where
  pub root : ℕ
  pub odd : Bool

-- how far the joining came: the label of every cell, and whether a link failed
pub record Links : Type 0 where
  pub label : ℕ → Label
  pub bad : Bool

-- the class of `from` goes over to the class of `to`, where the two lowest cells differ by d
abbrev pub moved : (ℕ → Label) → ℕ → ℕ → Bool → ℕ → Label
moved f from to d c = if (f c).root == from then record { root = to; odd = xor d (f c).odd } else f c

-- two cells of one class must differ as the link says; two classes become one, whose lowest cell is the lower of the two
abbrev pub join_at : Bool → Bool → (ℕ → Label) → Label → Label → Bool → Bool → Links
join_at true lt f a b d w = record { label = f; bad = w || d }
join_at false true f a b d w = record { label = moved f b.root a.root d; bad = w }
join_at false false f a b d w = record { label = moved f a.root b.root d; bad = w }

-- one link between the cells a and b, whose values must differ by v
abbrev pub join : ℕ → ℕ → Bool → Links → Links
join a b v s =
    join_at ((s.label a).root == (s.label b).root) (nat_lt (s.label a).root (s.label b).root) s.label (s.label a) (s.label b)
    (xor v (xor (s.label a).odd (s.label b).odd)) s.bad

abbrev pub join_if : Bool → ℕ → ℕ → Bool → Links → Links
join_if true a b v s = join a b v s
join_if false a b v s = s

-- the links of the assignments below m, of which each with code 0 or 1 has one
abbrev pub links : ℕ → (ℕ → ℕ) → ℕ → ℕ → ℕ → Links
links n t l r zero = record { label = λ c. record { root = c; odd = false }; bad = false }
links n t l r (suc i) = join_if (nat_lt (t i) 2) (left_cell r i) (right_cell n l i) (is_one (t i)) (links n t l r i)

-- the cells cannot be given values
abbrev pub xor_none : ℕ → (ℕ → ℕ) → ℕ → ℕ → Bool
xor_none n t l r = (links n t l r (2 ^ n)).bad

-- the value of a cell: 0 for the lowest of its class
abbrev pub xor_value : ℕ → (ℕ → ℕ) → ℕ → ℕ → ℕ → Bool
xor_value n t l r c = ((links n t l r (2 ^ n)).label c).odd

-- the cell of i, cleared of the group g, has a link
abbrev pub linked : ℕ → (ℕ → ℕ) → ℕ → ℕ → Bool
linked n t g i = within (2 ^ n) g (λ j. nat_lt (t j) 2) i

-- the code that a cell gives: its value, or free where it has no link
abbrev pub value_code : Bool → Bool → ℕ
value_code linked v = if linked then (if v then 1 else 0) else 2

abbrev pub xor_left_code : ℕ → (ℕ → ℕ) → ℕ → ℕ → ℕ → ℕ
xor_left_code n t l r i = value_code (linked n t r i) (xor_value n t l r (left_cell r i))

abbrev pub xor_right_code : ℕ → (ℕ → ℕ) → ℕ → ℕ → ℕ → ℕ
xor_right_code n t l r i = value_code (linked n t l i) (xor_value n t l r (right_cell n l i))

-- the rule
abbrev pub xor_rule : Rule
xor_rule ask table =
    ruled (xor_none ask.variables (code table) ask.left ask.right)
    (codes ask.variables (xor_left_code ask.variables (code table) ask.left ask.right))
    (codes ask.variables (xor_right_code ask.variables (code table) ask.left ask.right))

-- the parts that XOR gives: those of the rule, whose values are the only ones that meet the links with the lowest cell of each class 0
pub record XorGives (ask : Request) (table left right : List ℕ) : Type 0 where
  pub rule : xor_rule ask table ≡ two_parts left right
  pub values : Values ask.variables (code table) ask.left ask.right (xor_value ask.variables (code table) ask.left ask.right)
  pub only : (f : ℕ → Bool) → Values ask.variables (code table) ask.left ask.right f → (c : ℕ) → f c ≡ xor_value ask.variables (code table) ask.left ask.right c
