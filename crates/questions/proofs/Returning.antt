-- What is written is read back: an entry's bytes, followed by any others, are read as the table that they were made from.
use Rattle.std.proofs.Common.{All, ◌≡◌, ℕ, zero, suc, ◌+◌, ◌*◌, ◌/◌, ◌%◌, ◌^◌, ◌<◌, ◌≤◌, min, false, cond, not, eqb, ltb, leb, List, [], ◌∷◌, ◌++◌, length, get_or, take, drop, None, Ok, sym, refl, ap, ◌∙◌, subst, ap₂, subst₂, inl, inr, one-add, arith}
use native.Mathlib.Nat.{div-eq_of_lt}
use Rattle.std.specs.Option.{option_map}
use Rattle.std.specs.Bool.{then_some}
use Rattle.std.proofs.lemmas.Nat.{pow_below}
use Rattle.std.proofs.lemmas.List.FromFn.{get_or-map-range_with_len, fill_by_all}
use Rattle.std.proofs.lemmas.List.Elements.{All-append, All-from_get_or, All-get_or}
use Rattle.std.proofs.lemmas.List.{append_assoc, get_or-append-add, get_or_append_left, get_or-take, length-append, length-take-le, drop_at}
use Rattle.std.proofs.lemmas.Bool.{cases_Bool, ltb-true, le-ltb, lt-ltb, le-leb, ne_eqb, and_left, and_right, and_from, or_from}
use Rattle.std.proofs.lemmas.Bool.Decides.{nat_tests}
use Rattle.tables.specs.Checks.{first, answered}
use Rattle.tables.specs.Tables.{digit}
use Rattle.tables.proofs.Passing.{first_none, lowest-none}
use Rattle.questions.specs.declared.form.Form.{Form}
use Rattle.questions.specs.declared.form.Form.TheVariants.{TwoRows, OneRow}
use Rattle.questions.specs.declared.form.Side.{Side}
use Rattle.questions.specs.declared.form.Side.TheVariants.{Lower, Upper}
use Rattle.questions.specs.declared.fault.EntryFault.TheVariants.{NoByte, Variables, TooShort, SpareDigit, LowerAboveUpper}
use Rattle.questions.specs.Layouts.{variables_of, form_of, row_length, entry_length, row_digit, lower, upper, code_by, code, table, spare}
use Rattle.questions.specs.Entries.{entry_checks, spare_at, above_at, reading_from}
use Rattle.questions.specs.Writing.{digit_of, row_byte, row_bytes, rows_in, first_byte, entry_in, ReadsBackIn}
use Rattle.questions.proofs.RowSizes.{place_in_row}
use Rattle.questions.proofs.Packing.{digit_le, packed_lt, packed_digit}
use Rattle.questions.proofs.Pasting.{length-row_bytes}
use Rattle.questions.proofs.Answering.{entry_by}

-- the first byte says the number of variables and the form
heading_variables : (n : ℕ) (form : Form) → n ≤ 10 → variables_of (first_byte n form) ≡ n
heading_variables n TwoRows l = grind (arith, nat_tests)
heading_variables n OneRow l = grind (arith, nat_tests)

-- and so for the form
pub heading_form : (n : ℕ) (form : Form) → n ≤ 10 → form_of (first_byte n form) ≡ form
heading_form n TwoRows l = ap (λ b. cond b TwoRows OneRow) (lt-ltb n 16 (omega arith))
heading_form n OneRow l = ap (λ b. cond b TwoRows OneRow) (le-ltb (16 + n) 16 (omega arith))

-- a code is what its two digits say
code_digits : (c : ℕ) → c ≤ 2 → code_by (digit_of Lower c) (digit_of Upper c) ≡ c
code_digits zero l = refl
code_digits (suc zero) l = refl
code_digits (suc (suc zero)) l = refl
code_digits (suc (suc (suc c))) l = absurd (let z : ⊥ = omega arith in z)

-- a code's lower digit is not above its upper digit
digits_ordered : (c : ℕ) → digit_of Lower c ≤ digit_of Upper c
digits_ordered c = grind (arith, nat_tests)

-- where nothing is free, one digit serves as both
same_digits : (c : ℕ) → c ≤ 2 → (c ≡ 2 → ⊥) → digit_of Lower c ≡ digit_of Upper c
same_digits c l free = grind (arith, nat_tests)

-- a digit of a row that stands behind other bytes
row_read : (n : ℕ) (side : Side) (codes before after : List ℕ) (start i : ℕ) → start ≡ length before → i < 2 ^ n
    → row_digit (before ++ (row_bytes n side codes ++ after)) start i ≡ digit_of side (get_or codes i 0)
row_read n side codes before after start i e l =
    let digits : ℕ → ℕ = λ k. digit_of side (get_or codes (8 * (i / 8) + k) 0) in
    let inside : i / 8 < row_length n = place_in_row n i l in
    let long : i / 8 < length (row_bytes n side codes) = rw (length-row_bytes n side codes) inside in
    let byte : get_or (before ++ (row_bytes n side codes ++ after)) (start + i / 8) 0 ≡ row_byte n side codes (i / 8) =
    ap (λ k. get_or (before ++ (row_bytes n side codes ++ after)) (k + i / 8) 0) e
    ∙ get_or-append-add before (row_bytes n side codes ++ after) (i / 8) 0
    ∙ get_or_append_left (row_bytes n side codes) after 0 (i / 8) long
    ∙ get_or-map-range_with_len (row_byte n side codes) 0 (row_length n) (i / 8) (i / 8) 0 inside (omega arith) in
    let place : 8 * (i / 8) + i % 8 ≡ i = omega arith in
    ap (digit (i % 8)) byte ∙ packed_digit digits (λ k. digit_le side _) (min 8 (2 ^ n)) (i % 8) (omega arith)
    ∙ ap (λ k. digit_of side (get_or codes k 0)) place

-- no byte of a row has a spare digit set
byte_whole : (n : ℕ) (side : Side) (codes : List ℕ) (j : ℕ) → spare n (row_byte n side codes j) ≡ false
byte_whole n side codes j =
    elim (cases_Bool (ltb n 3)) [
      | inl e ↦
          let narrow : 2 ^ n < 2 ^ 3 = pow_below n 3 (ltb-true n 3 e) in
          let few : min 8 (2 ^ n) ≡ 2 ^ n = omega arith in
          let below : row_byte n side codes j < 2 ^ min 8 (2 ^ n) = packed_lt (λ k. digit_of side (get_or codes (8 * j + k) 0)) (λ k. digit_le side _) (min 8 (2 ^ n)) in
          let none : row_byte n side codes j / 2 ^ 2 ^ n ≡ 0 = div-eq_of_lt (subst (λ m. row_byte n side codes j < 2 ^ m) few below) in
          and_right (ltb n 3) _ (ap (λ x. not (eqb x 0)) none)
      | inr e ↦ and_left (ltb n 3) _ e
    ]

-- nor any byte of a whole row
row_whole : (n : ℕ) (side : Side) (codes : List ℕ) → All (λ b. spare n b ≡ false) (row_bytes n side codes)
row_whole n side codes =
    All-from_get_or (λ b. spare n b ≡ false) (row_bytes n side codes) 0 (λ j l.
    let inside : j < row_length n = subst (λ k. j < k) (length-row_bytes n side codes) l in
    ap (spare n) (get_or-map-range_with_len (row_byte n side codes) 0 (row_length n) j j 0 inside (omega arith)) ∙ byte_whole n side codes j)

-- nor any byte of an entry behind the first
rows_whole : (n : ℕ) (form : Form) (codes : List ℕ) → All (λ b. spare n b ≡ false) (rows_in form n codes)
rows_whole n TwoRows codes = All-append (λ b. spare n b ≡ false) (row_bytes n Lower codes) (row_bytes n Upper codes) (row_whole n Lower codes) (row_whole n Upper codes)
rows_whole n OneRow codes = row_whole n Lower codes

-- the length of an entry: its first byte and its rows
pub length-rows_in : (n : ℕ) (form : Form) (codes : List ℕ) → 1 + length (rows_in form n codes) ≡ entry_length n form
length-rows_in n TwoRows codes =
    omega (arith, length-append (row_bytes n Lower codes) (row_bytes n Upper codes), length-row_bytes n Lower codes, length-row_bytes n Upper codes)
length-rows_in n OneRow codes = omega (arith, length-row_bytes n Lower codes)

-- the two digits that are read for an assignment are those of its code
lower_read : (n : ℕ) (form : Form) (codes after : List ℕ) (i : ℕ) → i < 2 ^ n → lower (entry_in form n codes ++ after) i ≡ digit_of Lower (get_or codes i 0)
lower_read n TwoRows codes after i l =
    ap (λ rows. lower (n ∷ rows) i) (append_assoc (row_bytes n Lower codes) (row_bytes n Upper codes) after)
    ∙ row_read n Lower codes (n ∷ []) (row_bytes n Upper codes ++ after) 1 i refl l
lower_read n OneRow codes after i l = row_read n Lower codes (first_byte n OneRow ∷ []) after 1 i refl l

-- the upper digit likewise; where one row serves as both, nothing is free
upper_read : (n : ℕ) (form : Form) (codes after : List ℕ) (i : ℕ) → i < 2 ^ n → get_or codes i 0 ≤ 2 → (form ≡ OneRow → get_or codes i 0 ≡ 2 → ⊥)
    → upper n form (entry_in form n codes ++ after) i ≡ digit_of Upper (get_or codes i 0)
upper_read n TwoRows codes after i l small whole =
    let start : 1 + row_length n ≡ length (n ∷ row_bytes n Lower codes) = omega (arith, length-row_bytes n Lower codes) in
    ap (λ rows. upper n TwoRows (n ∷ rows) i) (append_assoc (row_bytes n Lower codes) (row_bytes n Upper codes) after)
    ∙ row_read n Upper codes (n ∷ row_bytes n Lower codes) after (1 + row_length n) i start l
upper_read n OneRow codes after i l small whole =
    row_read n Lower codes (first_byte n OneRow ∷ []) after 1 i refl l ∙ same_digits (get_or codes i 0) small (whole refl)

-- a table of n variables in a form that can hold it
module _ (n : ℕ) (form : Form) (codes : List ℕ) (least : 1 ≤ n) (most : n ≤ 10) (long : 2 ^ n ≤ length codes)
    (small : (i : ℕ) → i < 2 ^ n → get_or codes i 0 ≤ 2) (whole : form ≡ OneRow → (i : ℕ) → i < 2 ^ n → get_or codes i 0 ≡ 2 → ⊥) where
  -- each code is read as it was
  code_read : (after : List ℕ) (i : ℕ) → i < 2 ^ n → code n form (entry_in form n codes ++ after) i ≡ get_or codes i 0
  code_read after i l =
      ap₂ code_by (lower_read n form codes after i l) (upper_read n form codes after i l (small i l) (λ e. whole e i l)) ∙ code_digits (get_or codes i 0) (small i l)

  -- so the table is read as it was
  table_returns : (after : List ℕ) → table n form (entry_in form n codes ++ after) ≡ take (2 ^ n) codes
  table_returns after =
      sym (fill_by_all (code n form (entry_in form n codes ++ after)) (take (2 ^ n) codes) (2 ^ n) 0 (length-take-le (2 ^ n) codes long)
      (λ i l. get_or-take (2 ^ n) codes i 0 l ∙ sym (code_read after i l)))

  -- no byte is refused for a spare digit
  none_spare : (after : List ℕ) (k : ℕ) → k < entry_length n form → spare_at n (entry_in form n codes ++ after) k ≡ false
  none_spare after zero l = refl
  none_spare after (suc k) l =
      let inside : k < length (rows_in form n codes) = omega (arith, length-rows_in n form codes) in
      and_right _ _ (ap (spare n) (get_or_append_left (rows_in form n codes) after 0 k inside) ∙ All-get_or (λ b. spare n b ≡ false) (rows_in form n codes) k 0 inside (rows_whole n form codes))

  -- the lower row is nowhere above the upper row
  none_above : (after : List ℕ) (i : ℕ) → i < 2 ^ n → above_at n form (entry_in form n codes ++ after) i ≡ false
  none_above after i l =
      le-ltb _ _ (subst₂ (λ x y. x ≤ y) (sym (lower_read n form codes after i l)) (sym (upper_read n form codes after i l (small i l) (λ e. whole e i l)))
      (digits_ordered (get_or codes i 0)))

  -- the reader refuses nothing
  checks_pass : (after : List ℕ) (room : ℕ) → 2 ^ n ≤ room → first (entry_checks n form (entry_in form n codes ++ after) room) ≡ None
  checks_pass after room fits =
      let bytes = entry_in form n codes ++ after in
      let enough : entry_length n form ≤ length bytes = omega (arith, length-rows_in n form codes, length-append (rows_in form n codes) after) in
      first_none (entry_checks n form bytes room) (
        ap (λ b. then_some b NoByte) (ne_eqb (length bytes) 0 (λ e. let z : ⊥ = omega arith in z)),
        (
          ap (λ b. then_some (not b) Variables) (and_from (leb 1 n) (leb n 10) (le-leb 1 n least) (le-leb n 10 most)),
          (
            ap (λ b. then_some b TooShort) (or_from _ _ (le-ltb (length bytes) (entry_length n form) enough) (le-ltb room (2 ^ n) fits)),
            (
              ap (option_map SpareDigit) (lowest-none (spare_at n bytes) (entry_length n form) (none_spare after)),
              (ap (option_map LowerAboveUpper) (lowest-none (above_at n form bytes) (2 ^ n) (none_above after)), tt),
            ),
          ),
        ),
      )

  -- the answer of the reader
  answer_returns : (at room : ℕ) (after : List ℕ) → 2 ^ n ≤ room
      → reading_from (entry_in form n codes ++ after) at room ≡ Ok (record { variables = n; form = form; next = at + entry_length n form })
  answer_returns at room after fits =
      let bytes = entry_in form n codes ++ after in
      ap₂ (λ m f. answered (first (entry_checks m f bytes room)) (entry_by m f (at + entry_length m f))) (heading_variables n form most) (heading_form n form most)
      ∙ ap (λ r. answered r (entry_by n form (at + entry_length n form))) (checks_pass after room fits)

  -- wherever in a file the entry stands
  pub entry_returns : ReadsBackIn form n codes (entry_in form n codes)
  entry_returns before after room fits =
      let bytes = entry_in form n codes ++ after in
      let here : drop (length before) (before ++ bytes) ≡ bytes = drop_at before bytes (length before) refl in
      let size : entry_length n form ≡ length (entry_in form n codes) = sym (length-rows_in n form codes) ∙ one-add (length (rows_in form n codes)) in
      record {
        answer =
            ap (λ bs. reading_from bs (length before) room) here ∙ answer_returns (length before) room after fits
            ∙ ap (λ k. Ok (entry_by n form (length before + k))) size;
        table_read = ap (table n form) here ∙ table_returns after;
      }
