-- Rows that are compared with themselves cleared of a group.
use Rattle.std.proofs.Common.{◌≡◌, ℕ, ◌^◌, ◌<◌, ◌≤◌, take, Bool, List, length, IsTrue, ◌↔◌, sym, ap, ◌∙◌, arith}
use Rattle.std.specs.List.{slice_get}
use Rattle.std.proofs.lemmas.List.{length-take-le}
use Rattle.tables.specs.Groups.{Ignores, clear}
use Rattle.tables.proofs.Parts.{slice_get-take}
use Rattle.tables.proofs.Clearing.{clear-agree, clear_again, clear_le, cleared_ignores}

-- a row ignores a group exactly when each entry is equal to the one at its cleared assignment
pub alike_ignores : {A : Type 0} (n g : ℕ) (f : ℕ → A) → ((i : ℕ) → i < 2 ^ n → f i ≡ f (clear g i)) → Ignores n g f
alike_ignores n g f h = cleared_ignores n g f (λ i j hi hj e. h i hi ∙ ap f e ∙ sym (h j hj))

-- and back
pub ignores_alike : {A : Type 0} (n g : ℕ) (f : ℕ → A) → Ignores n g f → (i : ℕ) → i < 2 ^ n → f i ≡ f (clear g i)
ignores_alike n g f h i hi = h i (clear g i) hi (omega (arith, clear_le g i)) (clear-agree g i (clear g i) (sym (clear_again g i)))

-- so a comparison of the front of a row tells exactly whether the row ignores the group
pub alike_front : {A : Type 0} (n g m : ℕ) (row : List A) (b : Bool) → m ≡ 2 ^ n → 2 ^ n ≤ length row
    → (IsTrue b ↔ ((i : ℕ) → i < length (take m row) → slice_get (take m row) i ≡ slice_get (take m row) (clear g i)))
    → IsTrue b ↔ Ignores n g (slice_get row)
alike_front n g m row b e room h =
    let long : length (take m row) ≡ m = length-take-le m row (omega arith) in
    let at : (i : ℕ) → i < 2 ^ n → slice_get (take m row) i ≡ slice_get row i = λ i hi. slice_get-take m row i (omega arith) in
    let cleared : (i : ℕ) → i < 2 ^ n → slice_get (take m row) (clear g i) ≡ slice_get row (clear g i) = λ i hi. at (clear g i) (omega (arith, clear_le g i)) in (
      λ t. alike_ignores n g (slice_get row) (λ i hi. sym (at i hi) ∙ h.0 t i (omega arith) ∙ cleared i hi),
      λ q. h.1 (λ i hi.
          let inside : i < 2 ^ n = omega arith in
          at i inside ∙ ignores_alike n g (slice_get row) q i inside ∙ sym (cleared i inside)),
    )
