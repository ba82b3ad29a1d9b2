-- An assignment with one digit turned.
use Rattle.std.proofs.Common.{◌≡◌, ℕ, zero, suc, ◌+◌, ◌-◌, ◌*◌, ◌/◌, ◌%◌, ◌^◌, ◌<◌, ◌≤◌, ◌⊎◌, sym, refl, ap, ◌∙◌, subst, inl, inr, pow-suc, arith}
use lib.Bits.{and_zero_r}
use Rattle.std.proofs.lemmas.Bool.{cases_eq, cases_lt}
use Rattle.tables.specs.Tables.{digit}
use Rattle.tables.specs.Groups.{clear}
use Rattle.tables.proofs.Clearing.{clear_half, clear_low, by_halves, digit_suc, same_down, same_low, same_up}

-- the number i with the digit of weight 2 ^ k turned
abbrev pub turn : ℕ → ℕ → ℕ
turn zero i = i + 1 - i % 2 * 2
turn (suc k) i = turn k (i / 2) * 2 + i % 2

-- turning a higher digit turns one of the half
turn_half : (k i : ℕ) → turn (suc k) i / 2 ≡ turn k (i / 2)
turn_half k i = omega arith

-- and leaves the lowest digit
turn_low : (k i : ℕ) → turn (suc k) i % 2 ≡ i % 2
turn_low k i = omega arith

-- a digit turned twice is as it was
pub turn-turn : (k i : ℕ) → turn k (turn k i) ≡ i
turn-turn zero i = omega arith
turn-turn (suc k) i = by_halves _ _ (turn_half k (turn (suc k) i) ∙ ap (turn k) (turn_half k i) ∙ turn-turn k (i / 2)) (turn_low k (turn (suc k) i) ∙ turn_low k i)

-- an assignment remains one
pub turn_below : (k n i : ℕ) → k < n → i < 2 ^ n → turn k i < 2 ^ n
turn_below k zero i h hi = absurd (omega arith)
turn_below zero (suc n) i h hi = omega (arith, pow-suc 2 n)
turn_below (suc k) (suc n) i h hi = let b : turn k (i / 2) < 2 ^ n = turn_below k n (i / 2) (omega arith) (omega (arith, pow-suc 2 n)) in omega (arith, pow-suc 2 n)

-- half of a number of which 2 ^ suc n is a part
half_high : (n i : ℕ) → (2 ^ suc n + i) / 2 ≡ 2 ^ n + i / 2
half_high n i = omega (arith, pow-suc 2 n)

-- turning a digit below n leaves the part 2 ^ n
pub turn_high : (k n i : ℕ) → k < n → turn k (2 ^ n + i) ≡ 2 ^ n + turn k i
turn_high k zero i h = absurd (omega arith)
turn_high zero (suc n) i h = omega (arith, pow-suc 2 n)
turn_high (suc k) (suc n) i h =
    let f : turn k ((2 ^ suc n + i) / 2) ≡ 2 ^ n + turn k (i / 2) = ap (turn k) (half_high n i) ∙ turn_high k n (i / 2) (omega arith) in
    omega (arith, f, pow-suc 2 n)

-- and that part has no digit below n
pub digit_high : (k n i : ℕ) → k < n → digit k (2 ^ n + i) ≡ digit k i
digit_high k zero i h = absurd (omega arith)
digit_high zero (suc n) i h = omega (arith, pow-suc 2 n)
digit_high (suc k) (suc n) i h =
    digit_suc k (2 ^ suc n + i) ∙ ap (digit k) (half_high n i) ∙ digit_high k n (i / 2) (omega arith) ∙ sym (digit_suc k i)

-- turning a digit outside a group, and clearing the group, can be done in either order
pub turn-clear : (k g i : ℕ) → digit k g ≡ 0 → turn k (clear g i) ≡ clear g (turn k i)
turn-clear zero g i z =
    by_halves _ _ (zero_half (clear g i) ∙ clear_half g i ∙ ap (clear (g / 2)) (sym (zero_half i)) ∙ sym (clear_half g (turn 0 i)))
    (zero_low (clear g i) ∙ ap (λ x. 1 - x) (clear_low g i) ∙ middle ∙ sym (clear_low g (turn 0 i)))
  where
    zero_half : (x : ℕ) → turn 0 x / 2 ≡ x / 2
    zero_half x = omega arith

    zero_low : (x : ℕ) → turn 0 x % 2 ≡ 1 - x % 2
    zero_low x = omega arith

    middle : 1 - (i % 2 - g % 2) ≡ turn 0 i % 2 - g % 2
    middle = omega arith
turn-clear (suc k) g i z =
    by_halves _ _
    (turn_half k (clear g i) ∙ ap (turn k) (clear_half g i) ∙ turn-clear k (g / 2) (i / 2) (sym (digit_suc k g) ∙ z)
    ∙ ap (clear (g / 2)) (sym (turn_half k i)) ∙ sym (clear_half g (turn (suc k) i)))
    (turn_low k (clear g i) ∙ clear_low g i ∙ ap (λ x. x - g % 2) (sym (turn_low k i)) ∙ sym (clear_low g (turn (suc k) i)))

-- turning a digit that two numbers share keeps their order
pub turn_lt : (k c d : ℕ) → digit k c ≡ digit k d → c < d → turn k c < turn k d
turn_lt zero c d e h = omega arith
turn_lt (suc k) c d e h = go (turn_lt k (c / 2) (d / 2) half) (cases_lt (c / 2) (d / 2))
  where
    half : digit k (c / 2) ≡ digit k (d / 2)
    half = sym (digit_suc k c) ∙ e ∙ digit_suc k d

    go : (c / 2 < d / 2 → turn k (c / 2) < turn k (d / 2)) → (c / 2 < d / 2) ⊎ (d / 2 ≤ c / 2) → turn (suc k) c < turn (suc k) d
    go ih (inl b) = omega (arith, ih b)
    go ih (inr b) = let q : c / 2 ≡ d / 2 = omega arith in omega (arith, ap (turn k) q)

-- the group of one variable has that variable in its half
half_pow : (k : ℕ) → 2 ^ suc k / 2 ≡ 2 ^ k
half_pow k = omega (arith, pow-suc 2 k)

-- and not the lowest digit
low_pow : (k : ℕ) → 2 ^ suc k % 2 ≡ 0
low_pow k = omega (arith, pow-suc 2 k)

-- two numbers that are the same when cleared of the lowest variable have one half
one_down : (i j : ℕ) → clear 1 i ≡ clear 1 j → i / 2 ≡ j / 2
one_down i j e = omega (arith, same_down 1 i j e, and_zero_r (i / 2), and_zero_r (j / 2))

-- cleared of a higher variable, their halves are the same when cleared of it
pow_down : (k i j : ℕ) → clear (2 ^ suc k) i ≡ clear (2 ^ suc k) j → clear (2 ^ k) (i / 2) ≡ clear (2 ^ k) (j / 2)
pow_down k i j e = subst (λ g. clear g (i / 2) ≡ clear g (j / 2)) (half_pow k) (same_down (2 ^ suc k) i j e)

-- and they have one lowest digit
pow_low : (k i j : ℕ) → clear (2 ^ suc k) i ≡ clear (2 ^ suc k) j → i % 2 ≡ j % 2
pow_low k i j e = omega (arith, same_low (2 ^ suc k) i j e, low_pow k)

-- numbers that are the same when cleared of one variable of a group are the same when cleared of the group
pub same_wider : (k g i j : ℕ) → digit k g ≡ 1 → clear (2 ^ k) i ≡ clear (2 ^ k) j → clear g i ≡ clear g j
same_wider zero g i j o e = same_up g i j (ap (clear (g / 2)) (one_down i j e)) (omega arith)
same_wider (suc k) g i j o e =
    same_up g i j (same_wider k (g / 2) (i / 2) (j / 2) (sym (digit_suc k g) ∙ o) (pow_down k i j e)) (ap (λ x. x - g % 2) (pow_low k i j e))

-- two numbers that are the same when cleared of one variable are one, or one is the other with its digit turned
pub same_turn : (k i j : ℕ) → clear (2 ^ k) i ≡ clear (2 ^ k) j → (i ≡ j) ⊎ (turn k i ≡ j)
same_turn zero i j e = elim (cases_eq i j) [ inl q ↦ inl q | inr q ↦ inr (omega (arith, one_down i j e)) ]
same_turn (suc k) i j e =
    elim (same_turn k (i / 2) (j / 2) (pow_down k i j e)) [
      | inl q ↦ inl (omega (arith, pow_low k i j e))
      | inr q ↦ inr (omega (arith, pow_low k i j e))
    ]

-- and a number with its digit turned is such a one
pub turn_same : (k i : ℕ) → clear (2 ^ k) i ≡ clear (2 ^ k) (turn k i)
turn_same zero i = same_up 1 i (turn 0 i) (ap (clear 0) (omega arith)) (omega arith)
turn_same (suc k) i =
    same_up (2 ^ suc k) i (turn (suc k) i)
    (rw (half_pow k, turn_half k i) (turn_same k (i / 2)))
    (rw (turn_low k i) refl)
