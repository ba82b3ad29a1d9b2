-- Clearing the digits of a group, and agreement outside it: two assignments agree outside a group exactly when, cleared of it, they are the same.
use Rattle.std.proofs.Common.{◌≡◌, ℕ, zero, suc, ◌+◌, ◌-◌, ◌*◌, ◌/◌, ◌%◌, ◌^◌, ◌<◌, ◌≤◌, ◌⊎◌, Decides, sym, refl, ap, ◌∙◌, inl, inr, pow-suc, one-add, arith}
use lib.Arith.{bin_ind}
use lib.Bits.{bit_and, and_step, and_le_l}
use Rattle.std.proofs.lemmas.Nat.{shr-shr}
use Rattle.std.proofs.lemmas.Bool.{cases_eq, eqb-true, eq-eqb}
use Rattle.tables.specs.Tables.{digit}
use Rattle.tables.specs.Groups.{Agree, Ignores, agree, clear}

-- clearing, digit by digit
pub clear_half : (g i : ℕ) → clear g i / 2 ≡ clear (g / 2) (i / 2)
clear_half g i = omega (arith, and_step i g, and_le_l (i / 2) (g / 2))

pub clear_low : (g i : ℕ) → clear g i % 2 ≡ i % 2 - g % 2
clear_low g i = omega (arith, and_step i g, and_le_l (i / 2) (g / 2))

-- clearing does not go up
pub clear_le : (g i : ℕ) → clear g i ≤ i
clear_le g i = omega arith

-- two numbers with the same half and the same last digit are one
pub by_halves : (x y : ℕ) → x / 2 ≡ y / 2 → x % 2 ≡ y % 2 → x ≡ y
by_halves x y e f = omega arith

-- a cleared number has no digit of the group
pub clear_and : (g i : ℕ) → bit_and (clear g i) g ≡ 0
clear_and g i =
    bin_ind (λ a. (h : ℕ) → bit_and (clear h a) h ≡ 0) (λ h. refl)
    (λ a ih h. rw (and_step (clear h a) h, clear_half h a, ih (h / 2), clear_low h a) (omega arith)) i g

-- and clearing it again changes nothing
pub clear_again : (g i : ℕ) → clear g (clear g i) ≡ clear g i
clear_again g i = omega (arith, clear_and g i)

-- the digits of a number and of its half
pub digit_suc : (k i : ℕ) → digit (suc k) i ≡ digit k (i / 2)
digit_suc k i = ap (λ x. x % 2) (ap (λ e. i / 2 ^ e) (sym (one-add k)) ∙ sym (shr-shr i 1 k))

-- what two numbers share that are the same when cleared, one digit off or one digit on
pub same_down : (g i j : ℕ) → clear g i ≡ clear g j → clear (g / 2) (i / 2) ≡ clear (g / 2) (j / 2)
same_down g i j e = sym (clear_half g i) ∙ ap (λ x. x / 2) e ∙ clear_half g j

pub same_low : (g i j : ℕ) → clear g i ≡ clear g j → i % 2 - g % 2 ≡ j % 2 - g % 2
same_low g i j e = sym (clear_low g i) ∙ ap (λ x. x % 2) e ∙ clear_low g j

pub same_up : (g i j : ℕ) → clear (g / 2) (i / 2) ≡ clear (g / 2) (j / 2) → i % 2 - g % 2 ≡ j % 2 - g % 2 → clear g i ≡ clear g j
same_up g i j e f = by_halves _ _ (clear_half g i ∙ e ∙ sym (clear_half g j)) (clear_low g i ∙ f ∙ sym (clear_low g j))

-- numbers that are the same when cleared agree outside the group
pub clear-agree : (g i j : ℕ) → clear g i ≡ clear g j → Agree g i j
clear-agree g i j e zero z = omega (arith, same_low g i j e)
clear-agree g i j e (suc k) z =
    digit_suc k i ∙ clear-agree (g / 2) (i / 2) (j / 2) (same_down g i j e) k (sym (digit_suc k g) ∙ z) ∙ sym (digit_suc k j)

-- the last digits agree where the group has none
low_from : (g i j : ℕ) → (g % 2 ≡ 0 → i % 2 ≡ j % 2) → i % 2 - g % 2 ≡ j % 2 - g % 2
low_from g i j h = elim (cases_eq (g % 2) 0) [ inl e ↦ omega (arith, h e) | inr e ↦ omega arith ]

-- and assignments that agree outside the group are the same when cleared
pub agree-clear : (m g i j : ℕ) → i < 2 ^ m → j < 2 ^ m → Agree g i j → clear g i ≡ clear g j
agree-clear zero g i j hi hj h = let e : i ≡ j = omega arith in ap (clear g) e
agree-clear (suc m) g i j hi hj h =
    same_up g i j
    (agree-clear m (g / 2) (i / 2) (j / 2) (omega (arith, pow-suc 2 m)) (omega (arith, pow-suc 2 m))
    (λ k z. sym (digit_suc k i) ∙ h (suc k) (digit_suc k g ∙ z) ∙ digit_suc k j))
    (low_from g i j (λ z. let q : digit 0 i ≡ digit 0 j = h 0 (omega arith) in omega arith))

-- the test decides the agreement
pub agree_decides : (n g i j : ℕ) → i < 2 ^ n → j < 2 ^ n → Decides (agree g i j) (Agree g i j)
agree_decides n g i j hi hj = (λ e. clear-agree g i j (eqb-true _ _ e), λ h. eq-eqb _ _ (agree-clear n g i j hi hj h))

-- a row ignores a group exactly when it is equal wherever two assignments are the same when cleared
abbrev pub SameCleared : {A : Type 0} → ℕ → ℕ → (ℕ → A) → Type 0
SameCleared n g f = (i j : ℕ) → i < 2 ^ n → j < 2 ^ n → clear g i ≡ clear g j → f i ≡ f j

-- from the one to the other
pub ignores_cleared : {A : Type 0} (n g : ℕ) (f : ℕ → A) → Ignores n g f → SameCleared n g f
ignores_cleared n g f h i j hi hj e = h i j hi hj (clear-agree g i j e)

-- and back
pub cleared_ignores : {A : Type 0} (n g : ℕ) (f : ℕ → A) → SameCleared n g f → Ignores n g f
cleared_ignores n g f h i j hi hj a = h i j hi hj (agree-clear n g i j hi hj a)

-- a step outside g and a step outside h can be made in the other order
pub diamond : (m g h i j k : ℕ) → i < 2 ^ m → j < 2 ^ m → k < 2 ^ m → clear g i ≡ clear g j → clear h i ≡ clear h k
    → (x : ℕ) × (x < 2 ^ m) × (clear g k ≡ clear g x) × (clear h j ≡ clear h x)
diamond zero g h i j k hi hj hk a b =
    let e : i ≡ j = omega arith in
    let f : i ≡ k = omega arith in
    (k, hk, refl, ap (clear h) (sym e ∙ f))
diamond (suc m) g h i j k hi hj hk a b =
    go (diamond m (g / 2) (h / 2) (i / 2) (j / 2) (k / 2) (omega (arith, pow-suc 2 m)) (omega (arith, pow-suc 2 m)) (omega (arith, pow-suc 2 m)) (same_down g i j a) (same_down h i k b))
    (cases_eq (g % 2) 0)
  where
    go : (x : ℕ) × (x < 2 ^ m) × (clear (g / 2) (k / 2) ≡ clear (g / 2) x) × (clear (h / 2) (j / 2) ≡ clear (h / 2) x) → (g % 2 ≡ 0) ⊎ (g % 2 ≡ 0 → ⊥)
        → (x : ℕ) × (x < 2 ^ suc m) × (clear g k ≡ clear g x) × (clear h j ≡ clear h x)
    go (x, hx, c, d) (inl z) =
        let y : ℕ = x * 2 + k % 2 in
        let q : y / 2 ≡ x = omega arith in (
          y,
          omega (arith, pow-suc 2 m),
          same_up g k y (c ∙ ap (clear (g / 2)) (sym q)) (omega arith),
          same_up h j y (d ∙ ap (clear (h / 2)) (sym q)) (omega (arith, same_low g i j a, same_low h i k b)),
        )
    go (x, hx, c, d) (inr z) =
        let y : ℕ = x * 2 + j % 2 in
        let q : y / 2 ≡ x = omega arith in (
          y,
          omega (arith, pow-suc 2 m),
          same_up g k y (c ∙ ap (clear (g / 2)) (sym q)) (omega arith),
          same_up h j y (d ∙ ap (clear (h / 2)) (sym q)) (omega arith),
        )
