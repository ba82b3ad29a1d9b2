-- The rows of an entry: the digit of an assignment in the bytes of its row, and the two rows compared byte by byte.
use Rattle.std.proofs.Common.{◌≡◌, ℕ, ◌+◌, ◌-◌, ◌*◌, ◌/◌, ◌%◌, ◌^◌, ◌<◌, ◌≤◌, min, true, false, List, length, get_or, drop, ltb, sym, ap, ◌∙◌, subst, subst₂, inl, inr, arith}
use lib.Bits.{bit_and, and_le_r}
use Rattle.std.specs.Bool.{then_some}
use Rattle.std.specs.Int.{trailing_zeros, w8}
use Rattle.std.proofs.lemmas.Nat.Bits.{bit_at_and, bit_at_not, bit_at-zero, bit_at-trailing_zeros, same_from_bits_below}
use Rattle.std.proofs.lemmas.List.{get_or-take, get_or-drop, length-take-le, length-drop}
use Rattle.std.proofs.lemmas.Bool.{cases_Bool, cases_lt, le-ltb, lt-ltb, ltb-true, ltb-false}
use Rattle.tables.specs.Checks.{lowest}
use Rattle.tables.specs.Tables.{digit}
use Rattle.tables.proofs.Passing.{lowest-none, lowest_at}
use Rattle.questions.specs.declared.form.Form.{Form}
use Rattle.questions.specs.declared.rows.Rows.{Rows}
use Rattle.questions.specs.Layouts.{row_length, row_from, row_digit, upper_start}
use Rattle.questions.specs.Entries.{above_at}
use Rattle.questions.proofs.RowSizes.{place_in_row, lower_inside}

-- the lower row of an entry lies within its bytes
pub lower_within : (rows : Rows) → 1 + row_length rows.layout.variables ≤ length rows.bytes.now
lower_within rows = omega (arith, lower_inside rows.layout.variables rows.layout.form)

-- and so does the upper row
pub upper_within : (rows : Rows) → upper_start rows.layout.variables rows.layout.form + row_length rows.layout.variables ≤ length rows.bytes.now
upper_within rows = omega arith

-- a row that lies within the bytes
module _ (n : ℕ) (bytes : List ℕ) (start : ℕ) (inside : start + row_length n ≤ length bytes) where
  -- how many bytes it has
  pub length-row_from : length (row_from n bytes start) ≡ row_length n
  length-row_from = length-take-le (row_length n) (drop start bytes) (omega (arith, length-drop start bytes))

  -- each of them
  pub get_or-row_from : (j : ℕ) → j < row_length n → get_or (row_from n bytes start) j 0 ≡ get_or bytes (start + j) 0
  get_or-row_from j l = get_or-take (row_length n) (drop start bytes) j 0 l ∙ get_or-drop start bytes j 0

  -- the byte of an assignment is one of them
  pub row_from_place : (i : ℕ) → i < 2 ^ n → i / 8 < length (row_from n bytes start)
  row_from_place i l = omega (arith, length-row_from, place_in_row n i l)

  -- the digit of an assignment
  pub row_from_digit : (i : ℕ) → i < 2 ^ n → digit (i % 8) (get_or (row_from n bytes start) (i / 8) 0) ≡ row_digit bytes start i
  row_from_digit i l = ap (digit (i % 8)) (get_or-row_from (i / 8) (place_in_row n i l))

-- a byte that has all digits of another is nowhere below it
met_digit : (low high k : ℕ) → bit_and low high ≡ low → digit k low ≤ digit k high
met_digit low high k met = let same : digit k low ≡ min (digit k low) (digit k high) = ap (digit k) (sym met) ∙ bit_at_and low high k in omega arith

-- the digits of one byte that another byte does not have
digit_above : (low high k : ℕ) → high < 256 → k < 8 → digit k (bit_and low (255 - high)) ≡ min (digit k low) (1 - digit k high)
digit_above low high k fits l = bit_at_and low (255 - high) k ∙ ap (min (digit k low)) (bit_at_not w8 high k fits l)

-- there are some, where it does not have all
above_some : (low high : ℕ) → low < 256 → high < 256 → (bit_and low high ≡ low → ⊥) → bit_and low (255 - high) ≡ 0 → ⊥
above_some low high small fits not_met none =
    not_met (same_from_bits_below 8 (bit_and low high) low (omega (arith, and_le_r low high)) small (λ k l.
    let some : min (digit k low) (1 - digit k high) ≡ 0 = sym (digit_above low high k fits l) ∙ ap (digit k) none ∙ bit_at-zero k in
    bit_at_and low high k ∙ (omega arith)))

-- the lowest of them
lowest_digit_above : (low high : ℕ) → low < 256 → high < 256 → (bit_and low high ≡ low → ⊥)
    → (trailing_zeros w8 (bit_and low (255 - high)) < 8)
    × (digit (trailing_zeros w8 (bit_and low (255 - high))) high < digit (trailing_zeros w8 (bit_and low (255 - high))) low)
    × ((k : ℕ) → k < trailing_zeros w8 (bit_and low (255 - high)) → digit k low ≤ digit k high)
lowest_digit_above low high small fits not_met =
    let above : ℕ = bit_and low (255 - high) in
    let at : ℕ = trailing_zeros w8 above in
    let some : above ≡ 0 → ⊥ = above_some low high small fits not_met in
    let found : (at < 8) × (digit at above ≡ 1) × ((i : ℕ) → i < at → digit i above ≡ 0) =
    bit_at-trailing_zeros w8 above (omega arith) (omega (arith, and_le_r low (255 - high))) in
    let here : min (digit at low) (1 - digit at high) ≡ 1 = sym (digit_above low high at fits found.0) ∙ found.1 in (
      found.0,
      omega arith,
      λ k l. let none : min (digit k low) (1 - digit k high) ≡ 0 = sym (digit_above low high k fits (omega (arith, found.0))) ∙ found.2 k l in omega arith,
    )

module _ (n : ℕ) (form : Form) (bytes : List ℕ) where
  -- a byte of the upper row has all digits of that of the lower row
  abbrev pub Met : ℕ → Type 0
  Met j = bit_and (get_or bytes (1 + j) 0) (get_or bytes (upper_start n form + j) 0) ≡ get_or bytes (1 + j) 0

  -- so the lower row is nowhere above the upper row in it
  pub none_above_met : (i : ℕ) → Met (i / 8) → above_at n form bytes i ≡ false
  none_above_met i met = le-ltb _ _ (met_digit (get_or bytes (1 + i / 8) 0) (get_or bytes (upper_start n form + i / 8) 0) (i % 8) met)

  -- the digits of the lower row's byte that it does not have
  abbrev pub missed : ℕ → ℕ
  missed j = bit_and (get_or bytes (1 + j) 0) (255 - get_or bytes (upper_start n form + j) 0)

  -- the first byte that does not have all
  module _ (place : ℕ) (small : get_or bytes (1 + place) 0 < 256) (fits : get_or bytes (upper_start n form + place) 0 < 256) (not_met : Met place → ⊥)
      (before : (j : ℕ) → j < place → Met j) where
    -- the lowest of them
    lowest_here : (trailing_zeros w8 (missed place) < 8)
        × (digit (trailing_zeros w8 (missed place)) (get_or bytes (upper_start n form + place) 0) < digit (trailing_zeros w8 (missed place)) (get_or bytes (1 + place) 0))
        × ((k : ℕ) → k < trailing_zeros w8 (missed place) → digit k (get_or bytes (1 + place) 0) ≤ digit k (get_or bytes (upper_start n form + place) 0))
    lowest_here = lowest_digit_above (get_or bytes (1 + place) 0) (get_or bytes (upper_start n form + place) 0) small fits not_met

    -- at its assignment the lower row is above the upper row
    above_found : above_at n form bytes (8 * place + trailing_zeros w8 (missed place)) ≡ true
    above_found =
        let at : ℕ = trailing_zeros w8 (missed place) in
        let small : at < 8 = lowest_here.0 in
        let byte : (8 * place + at) / 8 ≡ place = omega arith in
        let digit_is : (8 * place + at) % 8 ≡ at = omega arith in
        lt-ltb _ _ (subst₂ (λ j k. digit k (get_or bytes (upper_start n form + j) 0) < digit k (get_or bytes (1 + j) 0)) (sym byte) (sym digit_is) lowest_here.1)

    -- at no assignment before it
    none_before : (i : ℕ) → i < 8 * place + trailing_zeros w8 (missed place) → above_at n form bytes i ≡ false
    none_before i l =
        elim (cases_lt (i / 8) place) [
          | inl below ↦ none_above_met i (before (i / 8) below)
          | inr from ↦
              let small : trailing_zeros w8 (missed place) < 8 = lowest_here.0 in
              let byte : i / 8 ≡ place = omega arith in
              le-ltb _ _ (subst (λ j. digit (i % 8) (get_or bytes (1 + j) 0) ≤ digit (i % 8) (get_or bytes (upper_start n form + j) 0)) (sym byte) (lowest_here.2 (i % 8) (omega arith)))
        ]

    -- so it is the first, where it is one of the table's
    pub first_above : then_some (ltb (8 * place + trailing_zeros w8 (missed place)) (2 ^ n)) (8 * place + trailing_zeros w8 (missed place)) ≡ lowest (2 ^ n) (above_at n form bytes)
    first_above =
        let i : ℕ = 8 * place + trailing_zeros w8 (missed place) in
        elim (cases_Bool (ltb i (2 ^ n))) [
          | inl e ↦
              ap (λ b. then_some b i) e
              ∙ sym (lowest_at (above_at n form bytes) (2 ^ n) i (lowest-none (above_at n form bytes) i none_before) above_found (ltb-true i (2 ^ n) e))
          | inr e ↦
              let past : 2 ^ n ≤ i = ltb-false i (2 ^ n) e in
              ap (λ b. then_some b i) e ∙ sym (lowest-none (above_at n form bytes) (2 ^ n) (λ k l. none_before k (omega arith)))
        ]
