-- Digits packed into a number: how large it is, and that each digit can be read off again.
use Rattle.std.proofs.Common.{◌≡◌, ℕ, zero, suc, ◌+◌, ◌-◌, ◌*◌, ◌/◌, ◌%◌, ◌^◌, ◌<◌, ◌≤◌, eqb, ◌⊎◌, refl, sym, ap, ◌∙◌, ap₂, inl, inr, mul_assoc, add_comm, pow-suc, add-one, arith, pow_mono}
use native.Mathlib.Nat.{add-mul-div_right, add-mul-mod_self_right}
use Rattle.std.proofs.lemmas.Nat.{pow-add, pow_pos, mul-le, div-mul-add, shl_whole}
use Rattle.std.proofs.lemmas.Bool.{cases_eq, cond_both}
use Rattle.tables.specs.Tables.{digit}
use Rattle.questions.specs.declared.form.Side.{Side}
use Rattle.questions.specs.declared.form.Side.TheVariants.{Lower, Upper}
use Rattle.questions.specs.Writing.{digit_of, packed}

-- a code's digit is 0 or 1
pub digit_le : (side : Side) (c : ℕ) → digit_of side c ≤ 1
digit_le Lower c = cond_both (eqb c 1) 1 0 (λ d. d ≤ 1) (λ _. omega arith) (λ _. omega arith)
digit_le Upper c = cond_both (eqb c 0) 0 1 (λ d. d ≤ 1) (λ _. omega arith) (λ _. omega arith)

-- a higher digit does not change a lower one
digit_below : (k m low x : ℕ) → k < m → digit k (low + x * 2 ^ m) ≡ digit k low
digit_below k m low x l =
    let d : ℕ = m - k - 1 in
    let exponent : m ≡ (d + 1) + k = omega arith in
    let weight : 2 ^ m ≡ (2 ^ d * 2) * 2 ^ k = ap (λ e. 2 ^ e) exponent ∙ pow-add 2 (d + 1) k ∙ ap (λ y. y * 2 ^ k) (pow-add 2 d 1) in
    let even : x * 2 ^ m ≡ ((x * 2 ^ d) * 2) * 2 ^ k =
    ap (λ y. x * y) weight ∙ sym (mul_assoc x (2 ^ d * 2) (2 ^ k)) ∙ ap (λ y. y * 2 ^ k) (sym (mul_assoc x (2 ^ d) 2)) in
    ap (λ y. (low + y) / 2 ^ k % 2) even ∙ ap (λ y. y % 2) (add-mul-div_right low ((x * 2 ^ d) * 2) (pow_pos k))
    ∙ add-mul-mod_self_right (low / 2 ^ k) (x * 2 ^ d) 2

-- the highest digit
digit_top : (m low x : ℕ) → low < 2 ^ m → x ≤ 1 → digit m (low + x * 2 ^ m) ≡ x
digit_top m low x small bit =
    let e : (low + x * 2 ^ m) / 2 ^ m ≡ x = ap (λ y. y / 2 ^ m) (add_comm low (x * 2 ^ m)) ∙ div-mul-add x (2 ^ m) low small in
    ap (λ y. y % 2) e ∙ (omega arith)

-- digits that agree are packed alike
pub packed_same : (f g : ℕ → ℕ) (m : ℕ) → ((k : ℕ) → k < m → f k ≡ g k) → packed f m ≡ packed g m
packed_same f g zero h = refl
packed_same f g (suc m) h = ap₂ (λ byte d. byte + d * 2 ^ m) (packed_same f g m (λ k l. h k (omega arith))) (h m (omega arith))

module _ (f : ℕ → ℕ) (bits : (k : ℕ) → f k ≤ 1) where
  -- m digits make a number below 2 ^ m
  pub packed_lt : (m : ℕ) → packed f m < 2 ^ m
  packed_lt zero = omega arith
  packed_lt (suc m) = omega (arith, packed_lt m, pow-suc 2 m, mul-le (f m) (2 ^ m) 1 (2 ^ m) (bits m) (omega arith))

  -- each digit is read off as it was packed
  pub packed_digit : (m k : ℕ) → k < m → digit k (packed f m) ≡ f k
  packed_digit zero k l = absurd (let z : ⊥ = omega arith in z)
  packed_digit (suc m) k l = at (cases_eq k m) (packed_digit m k)
    where
      at : (k ≡ m) ⊎ (k ≡ m → ⊥) → (k < m → digit k (packed f m) ≡ f k) → digit k (packed f (suc m)) ≡ f k
      at (inl e) below = rw e (digit_top m (packed f m) (f m) (packed_lt m) (bits m))
      at (inr e) below = digit_below k m (packed f m) (f m) (omega arith) ∙ below (omega arith)

  -- one turn of a loop that packs a byte
  pub packed_more : (m byte d : ℕ) → m < 8 → byte ≡ packed f m → d ≡ f m → byte + (d * 2 ^ m) % 256 ≡ packed f (m + 1)
  packed_more m byte d l e v =
      let small : d < 2 ^ 1 = omega (arith, bits m) in
      rw add-one (ap₂ ◌+◌ e (shl_whole d 1 m 8 small (omega arith) ∙ ap (λ x. x * 2 ^ m) v))

  -- a byte has room for eight digits
  pub packed_fits : (m : ℕ) → m ≤ 8 → packed f m < 256
  packed_fits m l = omega (arith, packed_lt m, pow_mono {i = m} {j = 8} l)
