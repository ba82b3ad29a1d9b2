-- The position of the first element of a list that passes a test, as the lowest number that passes one.
use Rattle.std.proofs.Common.{◌≡◌, ℕ, ◌+◌, ◌-◌, ◌<◌, ◌≤◌, Bool, true, false, ltb, ◌⊎◌, List, length, get_or, take, is_some, Some, None, position, sym, cond, ap, ◌∙◌, subst, inl, inr, arith}
use Rattle.std.specs.List.{position_or_len, list_any}
use Rattle.std.specs.Option.{option_map}
use Rattle.std.proofs.lemmas.List.{get_or-take, length-take-le}
use Rattle.std.proofs.lemmas.List.Elements.{All-from_get_or}
use Rattle.std.proofs.lemmas.List.Folds.{list_any_at, list_any_none}
use Rattle.std.proofs.lemmas.List.Sums.{fails_before_first, passes_at_first}
use Rattle.std.proofs.lemmas.Bool.{cases_Bool, cases_lt, ltb-true, ltb-false}
use Rattle.tables.specs.Checks.{lowest}
use Rattle.tables.proofs.Passing.{clash, lowest-none, lowest_at, lowest_same}

module _ {X : Type 0} (p : X → Bool) (xs : List X) (d : X) where
  -- no element passes, or there is a first that does
  position_cases : ((position p xs ≡ None) × ((k : ℕ) → k < length xs → p (get_or xs k d) ≡ false))
      ⊎ ((i : ℕ) × (position p xs ≡ Some i) × (i < length xs) × (p (get_or xs i d) ≡ true) × ((k : ℕ) → k < i → p (get_or xs k d) ≡ false))
  position_cases =
      let at : ℕ = position_or_len p xs in
      elim (cases_Bool (ltb at (length xs))) [
        | inl e ↦ inr (at, ap (λ b. cond b (Some at) None) e, ltb-true at (length xs) e, passes_at_first p xs d (ltb-true at (length xs) e), λ k l. fails_before_first p xs k d l)
        | inr e ↦
            let end : length xs ≤ at = ltb-false at (length xs) e in
            inl (ap (λ b. cond b (Some at) None) e, λ k l. fails_before_first p xs k d (omega arith))
      ]

  -- where there is none
  pub position-None : position p xs ≡ None → (k : ℕ) → k < length xs → p (get_or xs k d) ≡ false
  position-None e = elim position_cases [ inl (is, fails) ↦ fails | inr (i, is, l, passes, before) ↦ clash (cc) ]

  -- said of the indices
  pub position_index : position p xs ≡ lowest (length xs) (λ i. p (get_or xs i d))
  position_index =
      elim position_cases [
        | inl (is, fails) ↦ is ∙ sym (lowest-none (λ i. p (get_or xs i d)) (length xs) fails)
        | inr (i, is, l, passes, before) ↦ is ∙ sym (lowest_at (λ i. p (get_or xs i d)) (length xs) i (lowest-none (λ i. p (get_or xs i d)) i before) passes l)
      ]

  -- whether there is one
  pub any_index : list_any p xs ≡ is_some (lowest (length xs) (λ i. p (get_or xs i d)))
  any_index =
      elim position_cases [
        | inl (is, fails) ↦
            list_any_none p xs (All-from_get_or (λ x. p x ≡ false) xs d fails) ∙ sym (ap is_some (lowest-none (λ i. p (get_or xs i d)) (length xs) fails))
        | inr (i, is, l, passes, before) ↦ list_any_at p xs i d l passes ∙ ap is_some (sym is ∙ position_index)
      ]

  -- a test of numbers that passes where the list's element does, behind so many numbers at which it does not
  module _ (q : ℕ → Bool) (start : ℕ) (none : (k : ℕ) → k < start → q k ≡ false) (same : (k : ℕ) → k < length xs → q (start + k) ≡ p (get_or xs k d)) where
    -- it passes at no number before an element, where no element before passes
    none_before : (i : ℕ) → i ≤ length xs → ((k : ℕ) → k < i → p (get_or xs k d) ≡ false) → (k : ℕ) → k < start + i → q k ≡ false
    none_before i l fails k h =
        elim (cases_lt k start) [
          | inl below ↦ none k below
          | inr from ↦
              let place : start + (k - start) ≡ k = omega arith in
              subst (λ x. q x ≡ false) place (same (k - start) (omega arith) ∙ fails (k - start) (omega arith))
        ]

    -- so the lowest such number is that of the first element
    pub position_lowest : (m : ℕ) → start + length xs ≡ m → option_map (λ k. start + k) (position p xs) ≡ lowest m q
    position_lowest m e =
        elim position_cases [
          | inl (is, fails) ↦
              ap (option_map (λ k. start + k)) is ∙ sym (lowest-none q m (λ k l. none_before (length xs) (omega arith) fails k (omega arith)))
          | inr (i, is, l, passes, before) ↦
              ap (option_map (λ k. start + k)) is
              ∙ sym (lowest_at q m (start + i) (lowest-none q (start + i) (none_before i (omega arith) before)) (same i l ∙ passes) (omega arith))
        ]

-- the first element of a front is the lowest of the list's own indices below its end
pub position_front : {X : Type 0} (p : X → Bool) (xs : List X) (d : X) (m : ℕ) → m ≤ length xs → position p (take m xs) ≡ lowest m (λ i. p (get_or xs i d))
position_front p xs d m room =
    position_index p (take m xs) d ∙ ap (λ k. lowest k (λ i. p (get_or (take m xs) i d))) (length-take-le m xs room)
    ∙ lowest_same (λ i. p (get_or (take m xs) i d)) (λ i. p (get_or xs i d)) m (λ k h. ap p (get_or-take m xs k d h))
