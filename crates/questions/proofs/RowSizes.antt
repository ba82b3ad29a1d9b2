-- How many bytes a row of digits takes.
use Rattle.std.proofs.Common.{◌≡◌, ℕ, ◌+◌, ◌-◌, ◌*◌, ◌/◌, ◌^◌, ◌<◌, ◌≤◌, ltb, ap, ◌∙◌, arith, pow_mono}
use Rattle.std.proofs.lemmas.Nat.{pow-add, pow_below}
use Rattle.std.proofs.lemmas.Bool.{cond_both, ltb-true, ltb-false}
use Rattle.questions.specs.declared.form.Form.{Form}
use Rattle.questions.specs.declared.form.Form.TheVariants.{TwoRows, OneRow}
use Rattle.questions.specs.Layouts.{row_length, entry_length}

-- from three variables on, a row fills its bytes
pub whole_bytes : (n : ℕ) → 3 ≤ n → 2 ^ n ≡ 8 * 2 ^ (n - 3)
whole_bytes n h =
    let e : n ≡ 3 + (n - 3) = omega arith in
    ap (λ x. 2 ^ x) e ∙ pow-add 2 3 (n - 3)

-- the byte of an assignment lies within the row
pub place_in_row : (n i : ℕ) → i < 2 ^ n → i / 8 < row_length n
place_in_row n i h =
    cond_both (ltb n 3) 1 (2 ^ n / 8) (λ x. i / 8 < x)
    (λ e. let small : 2 ^ n < 8 = pow_below n 3 (ltb-true n 3 e) in omega arith)
    (λ e. omega (arith, whole_bytes n (ltb-false n 3 e)))

-- the lower row lies within the entry
pub lower_inside : (n : ℕ) (form : Form) → 1 + row_length n ≤ entry_length n form
lower_inside n TwoRows = omega arith
lower_inside n OneRow = omega arith

-- an entry has a first byte
pub entry_some : (n : ℕ) (form : Form) → 0 < entry_length n form
entry_some n TwoRows = omega arith
entry_some n OneRow = omega arith

-- no row takes more than 128 bytes
pub row_most : (n : ℕ) → n ≤ 10 → row_length n ≤ 128
row_most n l =
    let most : 2 ^ n ≤ 2 ^ 10 = pow_mono {i = n} {j = 10} l in
    cond_both (ltb n 3) 1 (2 ^ n / 8) (λ x. x ≤ 128) (λ _. omega arith) (λ _. omega arith)
