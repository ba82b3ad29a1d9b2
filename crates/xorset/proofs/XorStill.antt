-- The parts of XOR depend on no variable on which the table does not.
use Rattle.std.proofs.Common.{◌≡◌, ℕ, ◌+◌, ◌^◌, ◌<◌, ◌≤◌, Bool, true, false, eqb, ltb, ◌⊎◌, sym, refl, ap, ◌∙◌, subst, ap₂, inl, inr, arith}
use Rattle.std.proofs.lemmas.Bool.{cases_eq, eqb-true, eq-eqb}
use Rattle.tables.specs.Tables.{digit}
use Rattle.tables.specs.Groups.{clear}
use Rattle.tables.proofs.Clearing.{SameCleared, clear_again, clear-agree, diamond}
use Rattle.tables.proofs.Within.{within_still}
use Rattle.xorset.specs.Cells.{Closed, Together, Values, is_one, left_cell, right_cell, xor}
use Rattle.xorset.specs.Xor.{linked, value_code, xor_left_code, xor_none, xor_right_code, xor_value}
use Rattle.xorset.proofs.Parities.{xor_left_same, xor_right_same}
use Rattle.xorset.proofs.Turning.{turn, turn-turn, turn_below, turn_high, digit_high, turn-clear, turn_lt, same_wider, same_turn, turn_same}
use Rattle.xorset.proofs.Labels.{IsLinked, linked_decides}
use Rattle.xorset.proofs.XorValues.{value_met, values, only}

-- a digit that is not 0 is 1
one_from : (k g : ℕ) → (digit k g ≡ 0 → ⊥) → digit k g ≡ 1
one_from k g h = omega arith

-- two cells give one code where both have links or neither has, and the values are equal where they have
code_same : (b c x y : Bool) → b ≡ c → (b ≡ true → x ≡ y) → value_code b x ≡ value_code c y
code_same true c x y e h = ap₂ value_code e (h refl)
code_same false c x y e h = ap (λ z. value_code z y) e

module _ (n : ℕ) (t : ℕ → ℕ) (l r k : ℕ) (kn : k < n) (w : xor_none n t l r ≡ false) (ig : SameCleared n (2 ^ k) t) where
  -- the values of the rule
  abbrev val : ℕ → Bool
  val = xor_value n t l r

  -- whether a cell has links does not depend on the variable
  linked_still : (h : ℕ) → SameCleared n (2 ^ k) (linked n t h)
  linked_still h = within_still n h (2 ^ k) (λ m. ltb (t m) 2) (λ i j hi hj e. ap (λ c. ltb c 2) (ig i j hi hj e))

  -- a variable of the left group: two left cells that it alone tells apart have a neighbour in common
  left_joined : digit k l ≡ 1 → (i j : ℕ) → i < 2 ^ n → j < 2 ^ n → clear (2 ^ k) i ≡ clear (2 ^ k) j → IsLinked n t r i → val (left_cell r i) ≡ val (left_cell r j)
  left_joined o i j hi hj e (m, hm, (a, lt)) =
      let (x, hx, c, d) = diamond n (2 ^ k) r i j m hi hj hm e a in
      let q : t m ≡ t x = ig m x hm hx c in
      ap val a
      ∙ xor_left_same _ _ _ _ (is_one (t m)) (value_met n t l r w m hm lt) (value_met n t l r w x hx (subst (λ v. v < 2) q lt) ∙ ap is_one (sym q))
      (ap (λ y. val (2 ^ n + y)) (same_wider k l m x o c))
      ∙ ap val (sym d)

  -- and a variable of the right group likewise
  right_joined : digit k r ≡ 1 → (i j : ℕ) → i < 2 ^ n → j < 2 ^ n → clear (2 ^ k) i ≡ clear (2 ^ k) j → IsLinked n t l i → val (right_cell n l i) ≡ val (right_cell n l j)
  right_joined o i j hi hj e (m, hm, (a, lt)) =
      let (x, hx, c, d) = diamond n (2 ^ k) l i j m hi hj hm e a in
      let q : t m ≡ t x = ig m x hm hx c in
      ap (λ y. val (2 ^ n + y)) a
      ∙ xor_right_same _ _ _ _ (is_one (t m)) (value_met n t l r w m hm lt) (value_met n t l r w x hx (subst (λ v. v < 2) q lt) ∙ ap is_one (sym q))
      (ap val (same_wider k r m x o c))
      ∙ ap (λ y. val (2 ^ n + y)) (sym d)

  -- a variable of neither group: to turn its digit carries cells over to cells and classes to classes
  module _ (zl : digit k l ≡ 0) (zr : digit k r ≡ 0) where
    -- the left cell goes to that of the turned assignment
    turn_left : (i : ℕ) → turn k (left_cell r i) ≡ left_cell r (turn k i)
    turn_left i = turn-clear k r i zr

    -- the right cell too
    turn_right : (i : ℕ) → turn k (right_cell n l i) ≡ right_cell n l (turn k i)
    turn_right i = turn_high k n (clear l i) kn ∙ ap (λ x. 2 ^ n + x) (turn-clear k l i zl)

    -- which has the same code
    turn_code : (i : ℕ) → i < 2 ^ n → t (turn k i) ≡ t i
    turn_code i hi = sym (ig i (turn k i) hi (turn_below k n i kn hi) (turn_same k i))

    -- so a set that no link leaves goes to another
    turn_closed : (s : ℕ → Bool) → Closed n t l r s → Closed n t l r (λ c. s (turn k c))
    turn_closed s h i hi lt =
        ap s (turn_left i) ∙ h (turn k i) (turn_below k n i kn hi) (subst (λ v. v < 2) (sym (turn_code i hi)) lt) ∙ sym (ap s (turn_right i))

    -- a link does not leave the cells with one digit of the variable
    same_digit : (c d : ℕ) → Together n t l r c d → digit k c ≡ digit k d
    same_digit c d h =
        sym
        (eqb-true _ _
        (sym
        (h (λ x. eqb (digit k x) (digit k c))
        (λ i hi lt.
        ap (λ x. eqb x (digit k c))
        (clear-agree r (clear r i) i (clear_again r i) k zr ∙ sym (clear-agree l (clear l i) i (clear_again l i) k zl) ∙ sym (digit_high k n (clear l i) kn))))
        ∙ eq-eqb _ _ refl))

    -- the values with the digit turned are values of the cells too, since the order of the cells of a class remains
    turned : Values n t l r (λ c. val (turn k c))
    turned =
        record {
          met = λ i hi lt.
              ap₂ xor (ap val (turn_left i)) (ap val (turn_right i))
              ∙ value_met n t l r w (turn k i) (turn_below k n i kn hi) (subst (λ v. v < 2) (sym (turn_code i hi)) lt) ∙ ap is_one (turn_code i hi);
          lowest = λ c h. (values n t l r w).lowest (turn k c) (λ d g. least c h d g);
        }
      where
        least : (c : ℕ) → ((d : ℕ) → Together n t l r c d → c ≤ d) → (d : ℕ) → Together n t l r (turn k c) d → turn k c ≤ d
        least c h d g =
            let far : Together n t l r c (turn k d) = λ s q. ap s (sym (turn-turn k c)) ∙ g (λ x. s (turn k x)) (turn_closed s q) in
            let le : c ≤ turn k d = h (turn k d) far in
            elim (cases_eq c (turn k d)) [
              | inl e ↦ omega (arith, ap (turn k) e, turn-turn k d)
              | inr e ↦ omega (arith, turn_lt k c (turn k d) (same_digit c (turn k d) far) (omega arith), turn-turn k d)
            ]

    -- so they are the rule's
    turn_value : (c : ℕ) → val (turn k c) ≡ val c
    turn_value = only n t l r w (λ c. val (turn k c)) turned

    -- and two left cells that the variable alone tells apart have one value
    left_turned : (i j : ℕ) → clear (2 ^ k) i ≡ clear (2 ^ k) j → val (left_cell r i) ≡ val (left_cell r j)
    left_turned i j e =
        elim (same_turn k i j e) [
          | inl q ↦ ap (λ x. val (left_cell r x)) q
          | inr q ↦ sym (turn_value (left_cell r i)) ∙ ap val (turn_left i) ∙ ap (λ x. val (left_cell r x)) q
        ]

    -- and two right cells
    right_turned : (i j : ℕ) → clear (2 ^ k) i ≡ clear (2 ^ k) j → val (right_cell n l i) ≡ val (right_cell n l j)
    right_turned i j e =
        elim (same_turn k i j e) [
          | inl q ↦ ap (λ x. val (right_cell n l x)) q
          | inr q ↦ sym (turn_value (right_cell n l i)) ∙ ap val (turn_right i) ∙ ap (λ x. val (right_cell n l x)) q
        ]

  -- the left part does not depend on the variable
  pub left_still : SameCleared n (2 ^ k) (xor_left_code n t l r)
  left_still i j hi hj e = code_same _ _ _ _ (linked_still r i j hi hj e) (λ b. go ((linked_decides n t r i).0 b) (cases_eq (digit k r) 0) (cases_eq (digit k l) 0))
    where
      go : IsLinked n t r i → (digit k r ≡ 0) ⊎ (digit k r ≡ 0 → ⊥) → (digit k l ≡ 0) ⊎ (digit k l ≡ 0 → ⊥) → val (left_cell r i) ≡ val (left_cell r j)
      go m (inl zr) (inl zl) = left_turned zl zr i j e
      go m (inl zr) (inr ol) = left_joined (one_from k l ol) i j hi hj e m
      go m (inr o) q = ap val (same_wider k r i j (one_from k r o) e)

  -- nor does the right part
  pub right_still : SameCleared n (2 ^ k) (xor_right_code n t l r)
  right_still i j hi hj e = code_same _ _ _ _ (linked_still l i j hi hj e) (λ b. go ((linked_decides n t l i).0 b) (cases_eq (digit k l) 0) (cases_eq (digit k r) 0))
    where
      go : IsLinked n t l i → (digit k l ≡ 0) ⊎ (digit k l ≡ 0 → ⊥) → (digit k r ≡ 0) ⊎ (digit k r ≡ 0 → ⊥) → val (right_cell n l i) ≡ val (right_cell n l j)
      go m (inl zl) (inl zr) = right_turned zl zr i j e
      go m (inl zl) (inr o) = right_joined (one_from k r o) i j hi hj e m
      go m (inr o) q = ap (λ y. val (2 ^ n + y)) (same_wider k l i j (one_from k l o) e)
