-- Checks that all pass, and the lowest number that passes a test, as a loop that goes up finds it.
use Rattle.std.proofs.Common.{◌≡◌, ℕ, zero, suc, ◌<◌, Bool, true, false, ◌⊎◌, List, [], ◌∷◌, Some, None, Ok, Err, Option, sym, refl, ap, ◌∙◌, ap₂, inl, inr, arith}
use Rattle.std.specs.Option.{option_map, option_or}
use Rattle.std.specs.Bool.{then_some}
use Rattle.std.specs.List.{AllByRecursion}
use Rattle.std.proofs.lemmas.Bool.{cases_eq}
use Rattle.tables.specs.Checks.{first, lowest, answered}

-- two answers of different kinds are not one: `cc` then shows 0 ≡ 1
pub clash : {X : Type 0} → ◌≡◌ {A = ℕ} 0 1 → X
clash e = absurd (let z : ⊥ = omega arith in z)

-- checks that do not refuse, one by one
pub option_or-none : {F : Type 0} (check later : Option F) → option_or check later ≡ None → (check ≡ None) × (later ≡ None)
option_or-none (Some r) later e = clash (cc)
option_or-none None later e = (refl, e)

-- and all of a list
pub all_pass : {F : Type 0} (checks : List (Option F)) → first checks ≡ None → AllByRecursion (λ check. check ≡ None) checks
all_pass [] e = tt
all_pass (check ∷ checks) e = ((option_or-none check (first checks) e).0, all_pass checks (option_or-none check (first checks) e).1)

-- a list of checks of which none refuses
pub first_none : {F : Type 0} (checks : List (Option F)) → AllByRecursion (λ check. check ≡ None) checks → first checks ≡ None
first_none [] h = refl
first_none (check ∷ checks) h = ap (λ o. option_or o (first checks)) h.0 ∙ first_none checks h.1

-- a check without a spot that does not refuse
pub then_some-none : {F : Type 0} (b : Bool) (r : F) → then_some b r ≡ None → b ≡ false
then_some-none true r e = clash (cc)
then_some-none false r e = refl

-- a check with a spot that does not refuse
pub option_map-none : {X F : Type 0} (f : X → F) (o : Option X) → option_map f o ≡ None → o ≡ None
option_map-none f (Some x) e = clash (cc)
option_map-none f None e = refl

-- an answer that is no refusal
pub answered_ok : {X F : Type 0} (o : Option F) (x y : X) → answered o x ≡ Ok y → (o ≡ None) × (x ≡ y)
answered_ok (Some r) x y e = clash (cc)
answered_ok None x y e = (refl, cc)

-- an answer that is one
pub answered_err : {X F : Type 0} (o : Option F) (x : X) (r : F) → answered o x ≡ Err r → o ≡ Some r
answered_err (Some q) x r e = cc
answered_err None x r e = clash (cc)

-- tests that agree below a number have one lowest
pub lowest_same : (p q : ℕ → Bool) (m : ℕ) → ((k : ℕ) → k < m → p k ≡ q k) → lowest m p ≡ lowest m q
lowest_same p q zero h = refl
lowest_same p q (suc m) h = ap₂ (λ o b. option_or o (then_some b m)) (lowest_same p q m (λ k l. h k (omega arith))) (h m (omega arith))

module _ (p : ℕ → Bool) where
  -- one number more
  pub lowest-suc : (m : ℕ) (o : Option ℕ) (b : Bool) → lowest m p ≡ o → p m ≡ b → lowest (suc m) p ≡ option_or o (then_some b m)
  lowest-suc m o b e h = ap₂ (λ x y. option_or x (then_some y m)) e h

  -- none is found where none passes
  pub lowest-none : (m : ℕ) → ((k : ℕ) → k < m → p k ≡ false) → lowest m p ≡ None
  lowest-none zero h = refl
  lowest-none (suc m) h = lowest-suc m None false (lowest-none m (λ k l. h k (omega arith))) (h m (omega arith))

  -- the turn that stops has found the lowest
  pub lowest_at : (m i : ℕ) → lowest i p ≡ None → p i ≡ true → i < m → lowest m p ≡ Some i
  lowest_at zero i e h l = absurd (let z : ⊥ = omega arith in z)
  lowest_at (suc m) i e h l = at (cases_eq i m) (lowest_at m i e h)
    where
      at : (i ≡ m) ⊎ (i ≡ m → ⊥) → (i < m → lowest m p ≡ Some i) → lowest (suc m) p ≡ Some i
      at (inl s) below = lowest-suc m None true (rw s at e) (rw s at h) ∙ ap Some (sym s)
      at (inr s) below = lowest-suc m (Some i) (p m) (below (omega arith)) refl

  -- where none is found, none passes
  pub none_below : (m : ℕ) → lowest m p ≡ None → (k : ℕ) → k < m → p k ≡ false
  none_below zero e k l = absurd (let z : ⊥ = omega arith in z)
  none_below (suc m) e k l = at (cases_eq k m) (option_or-none (lowest m p) (then_some (p m) m) e) (λ h. none_below m h k)
    where
      at : (k ≡ m) ⊎ (k ≡ m → ⊥) → (lowest m p ≡ None) × (then_some (p m) m ≡ None) → (lowest m p ≡ None → k < m → p k ≡ false) → p k ≡ false
      at (inl s) h below = ap p s ∙ then_some-none (p m) m h.1
      at (inr s) h below = below h.0 (omega arith)
