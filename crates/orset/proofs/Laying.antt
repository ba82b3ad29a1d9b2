-- What the codes of the cells say, while the ones are laid over the zeros.
use Rattle.std.proofs.Common.{◌≡◌, ℕ, ◌+◌, ◌<◌, Bool, true, false, cond, not, ◌&&◌, eqb, ◌⊎◌, Decides, refl, ap, ◌∙◌, set, inl, inr, add-one, arith}
use Rattle.std.proofs.lemmas.Bool.{and_right, both_ways, eq-eqb, false_from_ne_true, ne_eqb}
use Rattle.tables.specs.Groups.{clear, some, within}
use Rattle.tables.proofs.Bounded.{itself, some_decides}
use Rattle.tables.proofs.Within.{within_decides, within_same}
use Rattle.orset.specs.declared.cells.Cells.{Cells}
use Rattle.orset.specs.Cells.{zero_code}
use Rattle.orset.specs.Or.{code_by, or_left_code, or_none, upper}
use Rattle.orset.proofs.Marks.{Marked, fails_at, left_one_at, mark_kept, mark_more, right_one_at, zero_at}

-- a test finds some number below m exactly where one passes
pub some_is : (p : ℕ → Bool) (m : ℕ) → Decides (some m p) ((k : ℕ) × (k < m) × (p k ≡ true))
some_is p m = some_decides p (λ k. p k ≡ true) (λ k. itself (p k)) m

-- a code 0 before any 1 is laid: the part may not be 1
zero_from : (u : Bool) → ◌≡◌ {A = ℕ} (cond u 2 0) 0 → u ≡ false
zero_from true e = absurd (omega arith)
zero_from false e = refl

-- any other code there: it may
free_from : (u : Bool) → (◌≡◌ {A = ℕ} (cond u 2 0) 0 → ⊥) → u ≡ true
free_from true e = refl
free_from false e = absurd (e refl)

-- a code 1 of a part: it must be 1
one_from : (a u : Bool) → code_by a u ≡ 1 → a ≡ true
one_from true u e = refl
one_from false true e = absurd (omega arith)
one_from false false e = absurd (omega arith)

-- any other code: it need not
other_from : (a u : Bool) → (code_by a u ≡ 1 → ⊥) → a ≡ false
other_from true u e = absurd (e refl)
other_from false u e = refl

-- a code 0 of a part: it may not be 1
under_from : (a u : Bool) → code_by a u ≡ 0 → u ≡ false
under_from true u e = absurd (omega arith)
under_from false u e = zero_from u e

-- any other code: it must be 1, or it may
over_from : (a u : Bool) → (code_by a u ≡ 0 → ⊥) → (a ≡ true) ⊎ (u ≡ true)
over_from true u e = inl refl
over_from false u e = inr (free_from u e)

-- where the outer two of three tests fail together, all three do
inner_false : (a b c : Bool) → a && c ≡ false → a && (b && c) ≡ false
inner_false true true c e = e
inner_false true false c e = refl
inner_false false b c e = refl

module _ (m : ℕ) (t : ℕ → ℕ) (l r : ℕ) where
  -- neither part may be 1 at a code 1: there is no pair
  none_at : (i : ℕ) → i < m → t i ≡ 1 → upper m t r i ≡ false → upper m t l i ≡ false → or_none m t l r ≡ true
  none_at i below one no_r no_l = (some_is (fails_at m t l r) m).1 (i, below, rw (one, no_r, no_l) refl)

  -- where the left part must be 1 by the first k assignments, none of which fails, it may be 1
  pub may_where_must : (k i : ℕ) → some k (fails_at m t l r) ≡ false → within k r (left_one_at m t l) i ≡ true → upper m t r i ≡ true
  may_where_must k i none must = found ((within_decides k r (left_one_at m t l) i).0 must)
    where
      stands : (a b c : Bool) → a && c ≡ true → a && (not b && c) ≡ false → b ≡ true
      stands true true c e f = refl
      stands true false true e f = absurd (both_ways true f refl)
      stands true false false e f = absurd (both_ways false refl e)
      stands false b c e f = absurd (both_ways false refl e)

      passed : (j : ℕ) → j < k → fails_at m t l r j ≡ false
      passed j before = false_from_ne_true _ (λ fails. both_ways _ none ((some_is (fails_at m t l r) k).1 (j, before, fails)))

      found : (j : ℕ) × (j < k) × ((clear r i ≡ clear r j) × (left_one_at m t l j ≡ true)) → upper m t r i ≡ true
      found (j, before, (same, one)) =
          ap not (within_same m r (zero_at t) i j same) ∙ stands (eqb (t j) 1) (upper m t r j) (not (upper m t l j)) one (passed j before)

  -- what the left cells hold after the first k assignments, none of which fails
  pub record LeftsTo (k : ℕ) (lefts : Cells) : Type 0 where
    pub laid : Marked m r (left_one_at m t l) 1 (zero_code m t r) k lefts
    pub none : some k (fails_at m t l r) ≡ false

  -- the assignment k lays nothing
  left_kept : (k : ℕ) (lefts : Cells) → left_one_at m t l k ≡ false → LeftsTo k lefts → LeftsTo (k + 1) lefts
  left_kept k lefts e h =
      record {
        laid = mark_kept m r (left_one_at m t l) 1 (zero_code m t r) k lefts e h.laid;
        none = rw (add-one, inner_false (eqb (t k) 1) (not (upper m t r k)) (not (upper m t l k)) e) h.none;
      }

  -- so where its code is not 1
  pub left_passed : (k : ℕ) (lefts : Cells) → (t k ≡ 1 → ⊥) → LeftsTo k lefts → LeftsTo (k + 1) lefts
  left_passed k lefts other = left_kept k lefts (rw (ne_eqb (t k) 1 other) refl)

  -- so where the right part may be 1
  pub left_free : (k : ℕ) (lefts : Cells) → (zero_code m t l k ≡ 0 → ⊥) → LeftsTo k lefts → LeftsTo (k + 1) lefts
  left_free k lefts other = left_kept k lefts (and_right (eqb (t k) 1) _ (ap not (free_from _ other)))

  -- the left cell is 0 where the right part must be 0 at a code 1: there is no pair
  pub left_fails : (k : ℕ) → k < m → t k ≡ 1 → zero_code m t l k ≡ 0 → code_by (within k r (left_one_at m t l) k) (upper m t r k) ≡ 0
      → or_none m t l r ≡ true
  left_fails k below one zero left_zero = none_at k below one (under_from _ _ left_zero) (zero_from _ zero)

  -- any other code there: a 1 is laid, and the assignment does not fail
  pub left_laid : (k : ℕ) (lefts lefts' : Cells) → k < m → t k ≡ 1 → zero_code m t l k ≡ 0 → (code_by (within k r (left_one_at m t l) k) (upper m t r k) ≡ 0 → ⊥)
      → lefts'.ignored ≡ lefts.ignored → lefts'.codes.now ≡ set lefts.codes.now (clear lefts.ignored k) 1 → LeftsTo k lefts → LeftsTo (k + 1) lefts'
  left_laid k lefts lefts' below one zero other kept laid h =
      let may : upper m t r k ≡ true = elim (over_from _ _ other) [ inl must ↦ may_where_must k k h.none must | inr u ↦ u ] in
      record {
        laid = mark_more m r (left_one_at m t l) 1 (zero_code m t r) k lefts lefts' kept laid (rw (one, zero_from _ zero) refl) below h.laid;
        none = rw (add-one, one, may) h.none;
      }

  -- what the right cells hold after the first k assignments
  abbrev pub RightsTo : ℕ → Cells → Type 0
  RightsTo k rights = Marked m l (right_one_at m t l r) 1 (zero_code m t l) k rights

  -- the assignment k lays nothing where its code is not 1
  pub right_passed : (k : ℕ) (rights : Cells) → (t k ≡ 1 → ⊥) → RightsTo k rights → RightsTo (k + 1) rights
  right_passed k rights other = mark_kept m l (right_one_at m t l r) 1 (zero_code m t l) k rights (rw (ne_eqb (t k) 1 other) refl)

  -- nor where the left part must be 1
  pub right_free : (k : ℕ) (rights : Cells) → or_left_code m t l r k ≡ 1 → RightsTo k rights → RightsTo (k + 1) rights
  right_free k rights e = mark_kept m l (right_one_at m t l r) 1 (zero_code m t l) k rights (and_right (eqb (t k) 1) _ (ap not (one_from _ _ e)))

  -- a 1 is laid where it need not be 1 at a code 1
  pub right_laid : (k : ℕ) (rights rights' : Cells) → k < m → t k ≡ 1 → (or_left_code m t l r k ≡ 1 → ⊥)
      → rights'.ignored ≡ rights.ignored → rights'.codes.now ≡ set rights.codes.now (clear rights.ignored k) 1 → RightsTo k rights → RightsTo (k + 1) rights'
  right_laid k rights rights' below one other kept laid =
      mark_more m l (right_one_at m t l r) 1 (zero_code m t l) k rights rights' kept laid (rw (one, other_from _ _ other) refl) below

module _ (m : ℕ) (t : ℕ → ℕ) (g : ℕ) where
  -- what the cells of a part hold once the zeros among the first k assignments are laid
  abbrev pub ZerosTo : ℕ → Cells → Type 0
  ZerosTo k cells = Marked m g (zero_at t) 0 (λ _. 2) k cells

  -- a code other than 0 lays nothing
  pub zero_passed : (k : ℕ) (cells : Cells) → (t k ≡ 0 → ⊥) → ZerosTo k cells → ZerosTo (k + 1) cells
  zero_passed k cells other = mark_kept m g (zero_at t) 0 (λ _. 2) k cells (ne_eqb (t k) 0 other)

  -- a code 0 lays a 0
  pub zero_laid : (k : ℕ) (cells cells' : Cells) → k < m → t k ≡ 0 → cells'.ignored ≡ cells.ignored → cells'.codes.now ≡ set cells.codes.now (clear cells.ignored k) 0
      → ZerosTo k cells → ZerosTo (k + 1) cells'
  zero_laid k cells cells' below zero kept laid = mark_more m g (zero_at t) 0 (λ _. 2) k cells cells' kept laid (eq-eqb (t k) 0 zero) below
