-- Gates of two inputs, and complements.
-- A gate is its four answers, for the input pairs (0,0), (0,1), (1,0), (1,1).
use Rattle.std.specs.Prelude.{ℕ, zero, suc, ◌+◌, ◌*◌, ◌^◌, Bool, true, false, if◌then◌else◌, List, [], ◌∷◌, slice_index_or}

-- a truth value as a number
abbrev pub bit : Bool → ℕ
bit b = if b then 1 else 0

-- what a gate answers for the inputs a and b
abbrev pub joined : List Bool → Bool → Bool → Bool
joined gate a b = slice_index_or gate (2 * bit a + bit b) false

-- the gate whose answers are those of a function
abbrev pub gate_of : (Bool → Bool → Bool) → List Bool
gate_of op = op false false ∷ op false true ∷ op true false ∷ op true true ∷ []

-- four answers 0: those of a gate number that a set does not have
abbrev pub no_answers : List Bool
no_answers = gate_of (λ _ _. false)

-- what the input pair (a, b) adds to the gate code: 2 ^ (2 a + b) where it is answered 1
abbrev pub weight : List Bool → Bool → Bool → ℕ
weight gate a b = if joined gate a b then 2 ^ (2 * bit a + bit b) else 0

-- the gate code
abbrev pub gate_code : List Bool → ℕ
gate_code gate = weight gate false false + weight gate false true + weight gate true false + weight gate true true

-- the complement of a code: 0 and 1 change, free remains
abbrev pub complement : ℕ → ℕ
complement zero = 1
complement (suc zero) = 0
complement (suc (suc c)) = suc (suc c)
