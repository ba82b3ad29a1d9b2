-- Sets of gates derived from any set below: the opposite set, the left-inverted set, and the pair of two sets.
use Rattle.std.specs.Prelude.{ℕ, ◌+◌, ◌-◌, ◌<◌, ◌≤◌, min, Bool, if◌then◌else◌, not, ◌⊎◌, List, ◌++◌, map, take, drop, nat_lt}
use Rattle.tables.specs.Gates.{complement, gate_of, joined, no_answers}
use Rattle.gatesets.specs.Splits.{Giving}
use Rattle.gatesets.specs.declared.request.Request.{Request}

-- the opposite of a gate answers the complement of what the gate answers on complemented inputs
abbrev pub opposed : List Bool → List Bool
opposed gate = gate_of (λ a b. not (joined gate (not a) (not b)))

-- the gates of the opposite of a set of so many gates
abbrev pub opposite_answering : ℕ → (ℕ → List Bool) → ℕ → List Bool
opposite_answering count answering k = if nat_lt k count then opposed (answering k) else no_answers

-- its parts are the complements of those that the set below may give for the complemented table
abbrev pub OppositeGives : Giving → Giving
OppositeGives gives ask table left right = gives ask (map complement table) (map complement left) (map complement right)

-- a left-inverted gate answers what the gate answers where its first input is complemented
abbrev pub inverted_left : List Bool → List Bool
inverted_left gate = gate_of (λ a b. joined gate (not a) b)

-- its left parts are the complements of those that the set below may give
abbrev pub LeftInvertedGives : Giving → Giving
LeftInvertedGives gives ask table left right = gives ask table (map complement left) right

-- a pair of sets has the gates of the first, then those of the second, sixteen at most
abbrev pub pair_count : ℕ → ℕ → ℕ
pair_count first second = min 16 (first + second)

abbrev pub pair_answering : ℕ → (ℕ → List Bool) → (ℕ → List Bool) → ℕ → List Bool
pair_answering first answering answering' k =
    if nat_lt k first then answering k else (if nat_lt k 16 then answering' (k - first) else no_answers)

-- the same request for another gate number
abbrev pub renumbered : ℕ → Request → Request
renumbered k ask = record { variables = ask.variables; gate = k; left = ask.left; right = ask.right }

-- it may give what the set may give to which the gate belongs
abbrev pub PairGives : ℕ → Giving → Giving → Giving
PairGives first gives gives' ask table left right =
    ((ask.gate < first) × gives ask table left right)
    ⊎ ((first ≤ ask.gate) × (ask.gate < 16) × gives' (renumbered (ask.gate - first) ask) table left right)

-- a row whose first m codes are complemented
abbrev pub complemented_to : ℕ → List ℕ → List ℕ
complemented_to m row = map complement (take m row) ++ drop m row
