-- Orders of checks: a call makes each of its checks over the whole input before the next begins.
-- A check is an optional refusal: none where it passes. One without a spot is `then_some test refusal`.
use Rattle.std.specs.Prelude.{ℕ, zero, suc, Bool, List, [], ◌∷◌, Some, None, Ok, Err, Option, Result}
use Rattle.std.specs.Option.{option_or}
use Rattle.std.specs.Bool.{then_some}

-- the refusal of the first check that refuses
abbrev pub first : {F : Type 0} → List (Option F) → Option F
first [] = None
first (check ∷ checks) = option_or check (first checks)

-- the lowest number below m that passes a test
abbrev pub lowest : ℕ → (ℕ → Bool) → Option ℕ
lowest zero p = None
lowest (suc m) p = option_or (lowest m p) (then_some (p m) m)

-- what a call answers: the refusal of its checks, or else its answer
abbrev pub answered : {A F : Type 0} → Option F → A → Result A F
answered (Some refusal) answer = Err refusal
answered None answer = Ok answer
