-- Fronts of lists.
use Rattle.std.specs.List.{slice_get}
use Rattle.std.proofs.Common.{◌≡◌, ℕ, zero, suc, ◌<◌, List, [], ◌∷◌, take, refl, arith}

-- an element of a front is the list's own
pub slice_get-take : {X : Type 0} (m : ℕ) (xs : List X) (i : ℕ) → i < m → slice_get (take m xs) i ≡ slice_get xs i
slice_get-take zero xs i h = absurd (let z : ⊥ = omega arith in z)
slice_get-take (suc m) [] i h = refl
slice_get-take (suc m) (x ∷ xs) zero h = refl
slice_get-take (suc m) (x ∷ xs) (suc i) h = slice_get-take m xs i (omega arith)
