-- The subsets of a group: numbers whose digits are all in it, from the group itself down to 0.
use Rattle.std.proofs.Common.{◌≡◌, ℕ, zero, suc, ◌+◌, ◌-◌, ◌/◌, ◌%◌, ◌^◌, ◌<◌, ◌≤◌, min, ◌⊎◌, refl, ap, ◌∙◌, inl, inr, pow-suc, arith}
use lib.Arith.{bin_ind}
use lib.Bits.{bit_and, and_step}
use Rattle.std.proofs.lemmas.Bool.{cases_eq}
use Rattle.tables.specs.Groups.{clear}

-- a subset of a group, one digit off
half_inside : (s g : ℕ) → bit_and s g ≡ s → bit_and (s / 2) (g / 2) ≡ s / 2
half_inside s g e = omega (arith, and_step s g)

-- its last digit is in the group
low_inside : (s g : ℕ) → bit_and s g ≡ s → s % 2 ≤ g % 2
low_inside s g e = omega (arith, and_step s g)

-- a number without digits of a group, one digit off
half_apart : (b g : ℕ) → bit_and b g ≡ 0 → bit_and (b / 2) (g / 2) ≡ 0
half_apart b g e = omega (arith, and_step b g)

-- its last digit is not in the group
low_apart : (b g : ℕ) → bit_and b g ≡ 0 → min (b % 2) (g % 2) ≡ 0
low_apart b g e = omega (arith, and_step b g)

-- what a number shares with a group is a part of it
pub and_inside : (s g : ℕ) → bit_and (bit_and s g) g ≡ bit_and s g
and_inside s g =
    bin_ind (λ a. (h : ℕ) → bit_and (bit_and a h) h ≡ bit_and a h) (λ h. refl)
    (λ a ih h.
    let half : bit_and a h / 2 ≡ bit_and (a / 2) (h / 2) = omega (arith, and_step a h) in
    let step = and_step (bit_and a h) h in
    let inner = ap (λ x. bit_and x (h / 2)) half ∙ ih (h / 2) in
    omega (arith, and_step a h)) s g

-- a number without digits of a group and a subset of the group have no digit in common
pub add_and : (s g b : ℕ) → bit_and b g ≡ 0 → bit_and s g ≡ s → bit_and (b + s) g ≡ s
add_and s g b =
    bin_ind (λ a. (h c : ℕ) → bit_and c h ≡ 0 → bit_and a h ≡ a → bit_and (c + a) h ≡ a) (λ h c e f. let none : c + 0 ≡ c = omega arith in ap (λ x. bit_and x h) none ∙ e)
    (λ a ih h c e f.
    let low = low_apart c h e in
    let low' = low_inside a h f in
    let half : (c + a) / 2 ≡ c / 2 + a / 2 = omega arith in
    let inner = ap (λ x. bit_and x (h / 2)) half ∙ ih (h / 2) (c / 2) (half_apart c h e) (half_inside a h f) in
    omega (arith, and_step (c + a) h)) s g b

-- so their sum, cleared of the group, is the first
pub add-clear : (s g b : ℕ) → bit_and b g ≡ 0 → bit_and s g ≡ s → clear g (b + s) ≡ b
add-clear s g b e f = omega (arith, add_and s g b e f)

-- so their sum stays below the power of two that both are below
pub add_below : (n s g b : ℕ) → b < 2 ^ n → s < 2 ^ n → bit_and b g ≡ 0 → bit_and s g ≡ s → b + s < 2 ^ n
add_below zero s g b hb hs e f = omega arith
add_below (suc n) s g b hb hs e f =
    let low = low_apart b g e in
    let low' = low_inside s g f in
    let below = add_below n (s / 2) (g / 2) (b / 2) (omega (arith, pow-suc 2 n)) (omega (arith, pow-suc 2 n)) (half_apart b g e) (half_inside s g f) in
    omega (arith, pow-suc 2 n)

-- the next part below s is (s - 1) & g: no part lies between
pub next_part : (s g x : ℕ) → bit_and s g ≡ s → bit_and x g ≡ x → x < s → x ≤ bit_and (s - 1) g
next_part s g x =
    bin_ind (λ a. (h y : ℕ) → bit_and a h ≡ a → bit_and y h ≡ y → y < a → y ≤ bit_and (a - 1) h) (λ h y e f lt. absurd (let z : ⊥ = omega arith in z))
    (λ a ih h y e f lt. by_digit a h y e f lt (cases_eq (a % 2) 0) (ih (h / 2) (y / 2) (half_inside a h e) (half_inside y h f))) s g x
  where
    by_digit : (a h y : ℕ) → bit_and a h ≡ a → bit_and y h ≡ y → y < a → (a % 2 ≡ 0) ⊎ (a % 2 ≡ 0 → ⊥) → (y / 2 < a / 2 → y / 2 ≤ bit_and (a / 2 - 1) (h / 2)) → y ≤ bit_and (a - 1) h
    by_digit a h y e f lt (inl even) ih =
        let low = low_inside y h f in
        let half : (a - 1) / 2 ≡ a / 2 - 1 = omega arith in
        let inner = ap (λ x. bit_and x (h / 2)) half in
        let down = ih (omega arith) in
        omega (arith, and_step (a - 1) h)
    by_digit a h y e f lt (inr odd) ih =
        let half : (a - 1) / 2 ≡ a / 2 = omega arith in
        let inner = ap (λ x. bit_and x (h / 2)) half ∙ half_inside a h e in
        omega (arith, and_step (a - 1) h)
