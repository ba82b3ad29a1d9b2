-- The labels of the cells: any values that meet the links follow them, and they meet every link while none failed.
use Rattle.std.proofs.Common.{◌≡◌, ℕ, zero, suc, ◌^◌, ◌<◌, Bool, true, false, cond, eqb, ltb, ◌⊎◌, Decides, sym, refl, ap, ◌∙◌, subst, ap₂, inl, inr, arith}
use Rattle.std.proofs.lemmas.Bool.Decides.{Decides-eqb, Decides-ltb, Decides-and}
use Rattle.std.proofs.lemmas.Bool.{or_parts, or_from, eqb-true, eqb-false, eq-eqb, ne_eqb, cases_eq, ltb-true, ltb-false, cond-true, cond-false}
use Rattle.tables.specs.Groups.{clear}
use Rattle.tables.proofs.Bounded.{some_decides}
use Rattle.tables.proofs.Within.{within_same}
use Rattle.tables.proofs.Clearing.{SameCleared}
use Rattle.xorset.specs.Cells.{Meets, is_one, left_cell, right_cell, xor}
use Rattle.xorset.specs.Xor.{Label, Links, moved, join_at, join, join_if, links, linked}
use Rattle.xorset.proofs.Parities.{xor_regroup, xor_roots, xor_same, xor_back, xor_met, xor_right, xor_left, xor_both}

-- the values f follow the labels: each cell differs from its root by its parity
abbrev pub Follows : (ℕ → Bool) → (ℕ → Label) → Type 0
Follows f m = (c : ℕ) → f c ≡ xor (m c).odd (f (m c).root)

-- they follow also where a class has moved, by the difference of the two roots
moved_follows : (f : ℕ → Bool) (m : ℕ → Label) (from to : ℕ) (d : Bool) → Follows f m → f from ≡ xor d (f to) → Follows f (moved m from to d)
moved_follows f m from to d h e c = go (eqb (m c).root from) refl
  where
    go : (b : Bool) → eqb (m c).root from ≡ b
        → f c ≡ xor (cond b (record { root = to; odd = xor d (m c).odd }) (m c)).odd (f (cond b (record { root = to; odd = xor d (m c).odd }) (m c)).root)
    go true k = h c ∙ ap (λ x. xor (m c).odd (f x)) (eqb-true _ _ k) ∙ ap (xor (m c).odd) e ∙ xor_regroup (m c).odd d (f to)
    go false k = h c

-- the difference of the roots of two cells that a link with value v asks for
abbrev gap : ℕ → ℕ → Bool → Links → Bool
gap a b v s = xor v (xor (s.label a).odd (s.label b).odd)

-- values that follow the labels and meet a new link
module _ (f : ℕ → Bool) (a b : ℕ) (v : Bool) (s : Links) (met : xor (f a) (f b) ≡ v) (h : Follows f s.label) where
  -- they differ at the two roots as the link asks
  differ : f (s.label b).root ≡ xor (gap a b v s) (f (s.label a).root)
  differ = xor_roots (s.label a).odd (s.label b).odd (f (s.label a).root) (f (s.label b).root) v (f a) (f b) met (h a) (h b)

  -- they follow the new labels
  join_follows : Follows f (join a b v s).label
  join_follows = go (eqb (s.label a).root (s.label b).root) (ltb (s.label a).root (s.label b).root)
    where
      go : (x y : Bool) → Follows f (join_at x y s.label (s.label a) (s.label b) (gap a b v s) s.bad).label
      go true y = h
      go false true = moved_follows f s.label (s.label b).root (s.label a).root (gap a b v s) h differ
      go false false = moved_follows f s.label (s.label a).root (s.label b).root (gap a b v s) h (xor_back (gap a b v s) _ _ differ)

  -- the link is no failure
  join_fine : s.bad ≡ false → (join a b v s).bad ≡ false
  join_fine w = go (eqb (s.label a).root (s.label b).root) (ltb (s.label a).root (s.label b).root) refl
    where
      go : (x y : Bool) → eqb (s.label a).root (s.label b).root ≡ x → (join_at x y s.label (s.label a) (s.label b) (gap a b v s) s.bad).bad ≡ false
      go true y e = or_from _ _ w (xor_same (gap a b v s) _ _ differ (ap f (eqb-true _ _ e)))
      go false true e = w
      go false false e = w

-- the labels meet a link: the two cells are in one class, and differ by its value
abbrev pub Holds : (ℕ → Label) → ℕ → ℕ → Bool → Type 0
Holds m a b v = ((m a).root ≡ (m b).root) × (xor (m a).odd (m b).odd ≡ v)

-- the root of a label, and the difference of two
abbrev root_of : Label → ℕ
root_of p = p.root

abbrev odd_of : Label → Label → Bool
odd_of p q = xor p.odd q.odd

-- the class of `from` moves to `to`
module _ (m : ℕ → Label) (from to : ℕ) (d : Bool) where
  -- the label of a cell that moves
  abbrev anew : ℕ → Label
  anew c = record { root = to; odd = xor d (m c).odd }

  -- a cell of the class has it
  moved_at : (c : ℕ) → (m c).root ≡ from → moved m from to d c ≡ anew c
  moved_at c e = cond-true _ (anew c) (m c) (eq-eqb _ _ e)

  -- another cell keeps its label
  moved_off : (c : ℕ) → ((m c).root ≡ from → ⊥) → moved m from to d c ≡ m c
  moved_off c e = cond-false _ (anew c) (m c) (ne_eqb _ _ e)

  -- a link that is met remains so
  moved_keeps : (x y : ℕ) (w : Bool) → Holds m x y w → Holds (moved m from to d) x y w
  moved_keeps x y w (e, o) = go (cases_eq (m x).root from)
    where
      go : ((m x).root ≡ from) ⊎ ((m x).root ≡ from → ⊥) → Holds (moved m from to d) x y w
      go (inl k) =
          let p = moved_at x k in
          let q = moved_at y (sym e ∙ k) in
          (ap root_of p ∙ sym (ap root_of q), ap₂ odd_of p q ∙ xor_both d (m x).odd (m y).odd ∙ o)
      go (inr k) =
          let p = moved_off x k in
          let q = moved_off y (λ z. k (e ∙ z)) in
          (ap root_of p ∙ e ∙ sym (ap root_of q), ap₂ odd_of p q ∙ o)

-- a new link
module _ (a b : ℕ) (v : Bool) (s : Links) where
  -- the links that were met remain so
  join_keeps : (x y : ℕ) (w : Bool) → Holds s.label x y w → Holds (join a b v s).label x y w
  join_keeps x y w h = go (eqb (s.label a).root (s.label b).root) (ltb (s.label a).root (s.label b).root)
    where
      go : (p q : Bool) → Holds (join_at p q s.label (s.label a) (s.label b) (gap a b v s) s.bad).label x y w
      go true q = h
      go false true = moved_keeps s.label (s.label b).root (s.label a).root (gap a b v s) x y w h
      go false false = moved_keeps s.label (s.label a).root (s.label b).root (gap a b v s) x y w h

  -- nothing failed before where nothing has failed after
  join_back : (join a b v s).bad ≡ false → s.bad ≡ false
  join_back = go (eqb (s.label a).root (s.label b).root) (ltb (s.label a).root (s.label b).root)
    where
      go : (p q : Bool) → (join_at p q s.label (s.label a) (s.label b) (gap a b v s) s.bad).bad ≡ false → s.bad ≡ false
      go true q e = (or_parts _ _ e).0
      go false true e = e
      go false false e = e

  -- and the new link is then met
  join_holds : (join a b v s).bad ≡ false → Holds (join a b v s).label a b v
  join_holds = go (eqb (s.label a).root (s.label b).root) (ltb (s.label a).root (s.label b).root) refl
    where
      go : (p q : Bool) → eqb (s.label a).root (s.label b).root ≡ p → (join_at p q s.label (s.label a) (s.label b) (gap a b v s) s.bad).bad ≡ false
          → Holds (join_at p q s.label (s.label a) (s.label b) (gap a b v s) s.bad).label a b v
      go true q e w = (eqb-true _ _ e, xor_met v (s.label a).odd (s.label b).odd (or_parts s.bad (gap a b v s) w).1)
      go false true e w =
          let p = moved_off s.label (s.label b).root (s.label a).root (gap a b v s) a (eqb-false _ _ e) in
          let q = moved_at s.label (s.label b).root (s.label a).root (gap a b v s) b refl in
          (ap root_of p ∙ sym (ap root_of q), ap₂ odd_of p q ∙ xor_right v (s.label a).odd (s.label b).odd)
      go false false e w =
          let p = moved_at s.label (s.label a).root (s.label b).root (gap a b v s) a refl in
          let q = moved_off s.label (s.label a).root (s.label b).root (gap a b v s) b (λ z. eqb-false _ _ e (sym z)) in
          (ap root_of p ∙ sym (ap root_of q), ap₂ odd_of p q ∙ xor_left v (s.label a).odd (s.label b).odd)

module _ (n : ℕ) (t : ℕ → ℕ) (l r : ℕ) where
  -- values that meet the links below k follow the labels, and no link below k fails
  pub valued : (f : ℕ → Bool) (k : ℕ) → Meets n t l r f k → Follows f (links n t l r k).label × ((links n t l r k).bad ≡ false)
  valued f zero g = (λ c. refl, refl)
  valued f (suc k) g = go (ltb (t k) 2) refl (valued f k (λ i hi. g i (omega arith)))
    where
      go : (b : Bool) → ltb (t k) 2 ≡ b → Follows f (links n t l r k).label × ((links n t l r k).bad ≡ false)
          → Follows f (join_if b (left_cell r k) (right_cell n l k) (is_one (t k)) (links n t l r k)).label
          × ((join_if b (left_cell r k) (right_cell n l k) (is_one (t k)) (links n t l r k)).bad ≡ false)
      go true e (h, w) =
          let met = g k (omega arith) (ltb-true _ _ e) in
          (join_follows f _ _ _ (links n t l r k) met h, join_fine f _ _ _ (links n t l r k) met h w)
      go false e h = h

  -- while no link failed, the labels meet every link
  pub consistent : (k : ℕ) → (links n t l r k).bad ≡ false → (i : ℕ) → i < k → t i < 2
      → Holds (links n t l r k).label (left_cell r i) (right_cell n l i) (is_one (t i))
  consistent zero w i hi h = absurd (omega arith)
  consistent (suc k) w i hi h = go (ltb (t k) 2) refl w (consistent k) (cases_eq k i)
    where
      go : (b : Bool) → ltb (t k) 2 ≡ b → (join_if b (left_cell r k) (right_cell n l k) (is_one (t k)) (links n t l r k)).bad ≡ false
          → ((links n t l r k).bad ≡ false → (j : ℕ) → j < k → t j < 2 → Holds (links n t l r k).label (left_cell r j) (right_cell n l j) (is_one (t j)))
          → (k ≡ i) ⊎ (k ≡ i → ⊥)
          → Holds (join_if b (left_cell r k) (right_cell n l k) (is_one (t k)) (links n t l r k)).label (left_cell r i) (right_cell n l i) (is_one (t i))
      go true e w ih (inl z) =
          subst (λ j. Holds (join (left_cell r k) (right_cell n l k) (is_one (t k)) (links n t l r k)).label (left_cell r j) (right_cell n l j) (is_one (t j))) z
          (join_holds _ _ _ (links n t l r k) w)
      go true e w ih (inr z) = join_keeps _ _ _ (links n t l r k) _ _ _ (ih (join_back _ _ _ (links n t l r k) w) i (omega arith) h)
      go false e w ih (inl z) = absurd (omega (arith, ltb-false _ _ e, ap t z))
      go false e w ih (inr z) = ih w i (omega arith) h

-- the cell of i, cleared of the group g, has a link
abbrev pub IsLinked : ℕ → (ℕ → ℕ) → ℕ → ℕ → Type 0
IsLinked n t g i = (j : ℕ) × (j < 2 ^ n) × ((clear g i ≡ clear g j) × (t j < 2))

-- the test for it
pub linked_decides : (n : ℕ) (t : ℕ → ℕ) (g i : ℕ) → Decides (linked n t g i) (IsLinked n t g i)
linked_decides n t g i = some_decides _ _ (λ j. Decides-and _ _ (Decides-eqb _ _) (Decides-ltb (t j) 2)) (2 ^ n)

-- which is the same for all assignments of one cell
pub linked_cell : (n : ℕ) (t : ℕ → ℕ) (g : ℕ) → SameCleared n g (linked n t g)
linked_cell n t g i j hi hj e = within_same (2 ^ n) g (λ k. ltb (t k) 2) i j e
