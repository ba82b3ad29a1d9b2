-- The values of the cells that the rule of XOR gives: the lowest cell of each class is 0, and that leaves no choice.
use Rattle.std.proofs.Common.{◌≡◌, ℕ, zero, suc, ◌^◌, ◌≤◌, Bool, true, false, cond, eqb, ltb, sym, refl, ap, ◌∙◌, subst, le_refl, arith}
use Rattle.std.proofs.lemmas.Bool.{eqb-true, eq-eqb, ltb-true, ltb-false}
use Rattle.xorset.specs.Cells.{Meets, Together, Values, is_one, left_cell, right_cell, xor}
use Rattle.xorset.specs.Xor.{Label, Links, moved, join_at, join, join_if, links, xor_none, xor_value}
use Rattle.xorset.proofs.Parities.{xor_cancel, xor_own, xor_mixed, xor_zero}
use Rattle.xorset.proofs.Labels.{Follows, valued, consistent}

-- a cell's root is not above it
abbrev Down : (ℕ → Label) → Type 0
Down m = (c : ℕ) → (m c).root ≤ c

-- nor is it after a class has moved to a lower root
moved_down : (m : ℕ → Label) (from to : ℕ) (d : Bool) → to ≤ from → Down m → Down (moved m from to d)
moved_down m from to d le h c = go (eqb (m c).root from) refl
  where
    go : (b : Bool) → eqb (m c).root from ≡ b → (cond b (record { root = to; odd = xor d (m c).odd }) (m c)).root ≤ c
    go true e = omega (arith, eqb-true _ _ e, h c)
    go false e = h c

-- after a link
join_down : (a b : ℕ) (v : Bool) (s : Links) → Down s.label → Down (join a b v s).label
join_down a b v s h = go (eqb (s.label a).root (s.label b).root) (ltb (s.label a).root (s.label b).root) refl
  where
    go : (p q : Bool) → ltb (s.label a).root (s.label b).root ≡ q
        → Down (join_at p q s.label (s.label a) (s.label b) (xor v (xor (s.label a).odd (s.label b).odd)) s.bad).label
    go true q e = h
    go false true e = moved_down s.label _ _ _ (omega (arith, ltb-true _ _ e)) h
    go false false e = moved_down s.label _ _ _ (ltb-false _ _ e) h

-- and after all links
down : (n : ℕ) (t : ℕ → ℕ) (l r k : ℕ) → Down (links n t l r k).label
down n t l r zero = le_refl
down n t l r (suc k) = go (ltb (t k) 2) (down n t l r k)
  where
    go : (b : Bool) → Down (links n t l r k).label → Down (join_if b (left_cell r k) (right_cell n l k) (is_one (t k)) (links n t l r k)).label
    go true h = join_down _ _ _ (links n t l r k) h
    go false h = h

module _ (n : ℕ) (t : ℕ → ℕ) (l r : ℕ) (w : xor_none n t l r ≡ false) where
  -- the lowest cell of the class of c
  abbrev root : ℕ → ℕ
  root c = ((links n t l r (2 ^ n)).label c).root

  -- the rule's values meet the links
  pub value_met : Meets n t l r (xor_value n t l r) (2 ^ n)
  value_met i hi h = (consistent n t l r (2 ^ n) w i hi h).1

  -- and all values that meet them follow the labels
  follows : (f : ℕ → Bool) → Meets n t l r f (2 ^ n) → Follows f (links n t l r (2 ^ n)).label
  follows f g = (valued n t l r f (2 ^ n) g).0

  -- the value of a root is 0
  root_zero : (c : ℕ) → xor_value n t l r (root c) ≡ false
  root_zero c = xor_own _ _ (follows (xor_value n t l r) value_met c)

  -- a cell is in one class with its root: values that differ from the rule's by a set that no link leaves meet the links too
  to_root : (c : ℕ) → Together n t l r c (root c)
  to_root c s closed =
      let v : ℕ → Bool = xor_value n t l r in
      xor_cancel (v c) (v (root c)) (s c) (s (root c)) (root_zero c)
      (follows (λ x. xor (v x) (s x)) (λ i hi h. xor_mixed _ _ _ _ _ (value_met i hi h) (closed i hi h)) c)

  -- cells of one class have one root: no link leaves the cells of a root
  root_same : (c d : ℕ) → Together n t l r c d → root c ≡ root d
  root_same c d h =
      sym (eqb-true _ _ (sym (h (λ x. eqb (root x) (root c)) (λ i hi k. ap (λ x. eqb x (root c)) (consistent n t l r (2 ^ n) w i hi k).0)) ∙ eq-eqb _ _ refl))

  -- so the root is the lowest cell of its class
  root_lowest : (c d : ℕ) → Together n t l r (root c) d → root c ≤ d
  root_lowest c d h =
      let e : root c ≡ root d = root_same c d (λ s k. to_root c s k ∙ h s k) in
      omega (arith, e, down n t l r (2 ^ n) d)

  -- the rule's values are values of the cells
  pub values : Values n t l r (xor_value n t l r)
  values =
      record {
        met = value_met;
        lowest = λ c h.
            let e : root c ≡ c = omega (arith, h (root c) (to_root c), down n t l r (2 ^ n) c) in
            subst (λ x. xor_value n t l r x ≡ false) e (root_zero c);
      }

  -- and there are no others
  pub only : (f : ℕ → Bool) → Values n t l r f → (c : ℕ) → f c ≡ xor_value n t l r c
  only f h c = follows f h.met c ∙ xor_zero _ _ (h.lowest (root c) (root_lowest c))
