-- The rule of OR. A table is a function t from the m assignments to codes, l and r are the groups.
use Rattle.std.specs.Prelude.{◌≡◌, ℕ, ◌^◌, ◌<◌, Bool, if◌then◌else◌, not, ◌&&◌, ◌||◌, List, IsTrue, ◌↔◌, ◌==◌}
use Rattle.tables.specs.Gates.{gate_of}
use Rattle.tables.specs.Groups.{Agree, agree, some, within}
use Rattle.gatesets.specs.declared.request.Request.{Request}
use Rattle.gatesets.specs.Splits.{code}
use Rattle.gatesets.specs.Rules.{Rule, codes, ruled, two_parts}

-- the gate that answers 1 where one of its inputs is 1
abbrev pub or_gate : List Bool
or_gate = gate_of ◌||◌

-- where a part may be 1: no assignment that agrees with i outside the group g has code 0
abbrev pub upper : ℕ → (ℕ → ℕ) → ℕ → ℕ → Bool
upper m t g i = not (within m g (λ j. t j == 0) i)

-- where the left part must be 1: some j that agrees with i outside the right group has code 1, and the right part must be 0 at j
abbrev pub lower_left : ℕ → (ℕ → ℕ) → ℕ → ℕ → ℕ → Bool
lower_left m t l r i = within m r (λ j. (t j == 1) && not (upper m t l j)) i

-- where the right part must then be 1: some j that agrees with i outside the left group has code 1, and the left part need not be 1 at j
abbrev pub lower_right : ℕ → (ℕ → ℕ) → ℕ → ℕ → ℕ → Bool
lower_right m t l r i = within m l (λ j. (t j == 1) && not (lower_left m t l r j)) i

-- there is no pair: some assignment has code 1 where neither part may be 1
abbrev pub or_none : ℕ → (ℕ → ℕ) → ℕ → ℕ → Bool
or_none m t l r = some m (λ i. (t i == 1) && (not (upper m t r i) && not (upper m t l i)))

-- the code of a part: 1 where it must be 1, 0 where it may not be 1, else free
abbrev pub code_by : Bool → Bool → ℕ
code_by lower upper = if lower then 1 else (if upper then 2 else 0)

abbrev pub or_left_code : ℕ → (ℕ → ℕ) → ℕ → ℕ → ℕ → ℕ
or_left_code m t l r i = code_by (lower_left m t l r i) (upper m t r i)

abbrev pub or_right_code : ℕ → (ℕ → ℕ) → ℕ → ℕ → ℕ → ℕ
or_right_code m t l r i = code_by (lower_right m t l r i) (upper m t l i)

-- the rule
abbrev pub or_rule : Rule
or_rule ask table =
    ruled (or_none (2 ^ ask.variables) (code table) ask.left ask.right)
    (codes ask.variables (or_left_code (2 ^ ask.variables) (code table) ask.left ask.right))
    (codes ask.variables (or_right_code (2 ^ ask.variables) (code table) ask.left ask.right))

-- the parts that OR gives: those of the rule, whose test of agreement outside a group tells exactly that
pub record OrGives (ask : Request) (table left right : List ℕ) : Type 0 where
  pub rule : or_rule ask table ≡ two_parts left right
  pub agrees : (g i j : ℕ) → i < 2 ^ ask.variables → j < 2 ^ ask.variables → IsTrue (agree g i j) ↔ Agree g i j
