-- Rules that fix the parts of a split.
use Rattle.std.specs.Prelude.{ℕ, ◌^◌, Bool, true, false, if◌then◌else◌, List, map, ◌==◌}
use Rattle.std.specs.List.{range_with_len}
use Rattle.tables.specs.Gates.{complement, no_answers}
use Rattle.gatesets.specs.declared.request.Request.{Request}

-- what a rule says of a table: its two parts, or that there is no pair
pub data Ruling : Type 0 where
  no_pair : Ruling
  two_parts : List ℕ → List ℕ → Ruling

-- a rule says so for every request and table
abbrev pub Rule : Type 0
Rule = Request → List ℕ → Ruling

-- a row over n variables, from a code for each assignment
abbrev pub codes : ℕ → (ℕ → ℕ) → List ℕ
codes n f = map f (range_with_len 0 (2 ^ n))

-- what is said where there is no pair, or else two parts
abbrev pub ruled : Bool → List ℕ → List ℕ → Ruling
ruled true left right = no_pair
ruled false left right = two_parts left right

-- the answers of a set whose only gate, number 0, is this one
abbrev pub only_gate : List Bool → ℕ → List Bool
only_gate gate k = if k == 0 then gate else no_answers

abbrev pub both_complemented : Ruling → Ruling
both_complemented no_pair = no_pair
both_complemented (two_parts left right) = two_parts (map complement left) (map complement right)

abbrev pub left_complemented : Ruling → Ruling
left_complemented no_pair = no_pair
left_complemented (two_parts left right) = two_parts (map complement left) right

-- the rule of the opposite set: it complements the table, and then both parts
abbrev pub opposite_rule : Rule → Rule
opposite_rule rule ask table = both_complemented (rule ask (map complement table))

-- the rule of the left-inverted set: it complements the left part
abbrev pub left_inverted_rule : Rule → Rule
left_inverted_rule rule ask table = left_complemented (rule ask table)
