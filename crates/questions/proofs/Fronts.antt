-- A table is the front of a row of codes: what is written of it, and what is checked, is the same.
use Rattle.std.proofs.Common.{◌≡◌, ℕ, ◌+◌, ◌*◌, ◌^◌, ◌<◌, ◌≤◌, min, cond, ltb, eqb, not, ◌||◌, List, [], ◌∷◌, ◌++◌, length, get_or, take, is_some, position, sym, ap, ◌∙◌, ap₂, arith}
use Rattle.std.specs.List.{list_any}
use Rattle.std.specs.Option.{option_map}
use Rattle.std.specs.Bool.{then_some}
use Rattle.std.proofs.lemmas.List.{get_or-take, length-take-le}
use Rattle.std.proofs.lemmas.List.FromFn.{get_or-map-range_with_len, fill_by_all}
use Rattle.std.proofs.lemmas.Bool.{le-ltb}
use Rattle.tables.specs.Checks.{first, lowest}
use Rattle.tables.specs.Tables.{lawful_size}
use Rattle.questions.specs.declared.form.Form.{Form}
use Rattle.questions.specs.declared.form.Form.TheVariants.{TwoRows, OneRow}
use Rattle.questions.specs.declared.form.Side.{Side}
use Rattle.questions.specs.declared.form.Side.TheVariants.{Lower, Upper}
use Rattle.questions.specs.declared.layout.Layout.{Layout}
use Rattle.questions.specs.declared.fault.WriteFault.{WriteFault}
use Rattle.questions.specs.declared.fault.WriteFault.TheVariants.{Variables, TooShort, Code}
use Rattle.questions.specs.Layouts.{row_length, entry_length}
use Rattle.questions.specs.Writing.{digit_of, row_byte, row_bytes, free_at, wrong_at, form_for, write_checks, entry_in, Writable, Unwritable}
use Rattle.questions.proofs.Packing.{packed_same}
use Rattle.questions.proofs.Pasting.{digits_inside, length-row_bytes}
use Rattle.tables.proofs.Passing.{lowest_same}
use Rattle.tables.proofs.Positions.{any_index, position_index}

-- a table has a free code, or the one-row form
pub form_by_any : (n : ℕ) (table : List ℕ) → length table ≡ 2 ^ n → cond (list_any (λ code. eqb code 2) table) TwoRows OneRow ≡ form_for n table
form_by_any n table e =
    ap (λ b. cond b TwoRows OneRow) (any_index (λ code. eqb code 2) table 0 ∙ ap (λ m. is_some (lowest m (λ i. eqb (get_or table i 0) 2))) e)

-- the first wrong code of a table
pub wrong_by_position : (n : ℕ) (table : List ℕ) → length table ≡ 2 ^ n → position (λ code. ltb 2 code) table ≡ lowest (2 ^ n) (wrong_at table)
wrong_by_position n table e = position_index (λ code. ltb 2 code) table 0 ∙ ap (λ m. lowest m (wrong_at table)) e

module _ (n : ℕ) (codes : List ℕ) where
  -- the table has a free code where the row has one
  form_front : form_for n (take (2 ^ n) codes) ≡ form_for n codes
  form_front =
      ap (λ o. cond (is_some o) TwoRows OneRow)
      (lowest_same (free_at (take (2 ^ n) codes)) (free_at codes) (2 ^ n) (λ k l. ap (λ c. eqb c 2) (get_or-take (2 ^ n) codes k 0 l)))

  -- and a wrong one
  wrong_front : lowest (2 ^ n) (wrong_at (take (2 ^ n) codes)) ≡ lowest (2 ^ n) (wrong_at codes)
  wrong_front = lowest_same (wrong_at (take (2 ^ n) codes)) (wrong_at codes) (2 ^ n) (λ k l. ap (ltb 2) (get_or-take (2 ^ n) codes k 0 l))

  -- so its checks are the row's
  checks_front : (room : ℕ) → 2 ^ n ≤ length codes → first (write_checks n (take (2 ^ n) codes) room) ≡ first (write_checks n codes room)
  checks_front room long =
      let short : ltb (length (take (2 ^ n) codes)) (2 ^ n) ≡ ltb (length codes) (2 ^ n) =
      le-ltb (length (take (2 ^ n) codes)) (2 ^ n) (omega (arith, length-take-le (2 ^ n) codes long)) ∙ sym (le-ltb (length codes) (2 ^ n) long) in
      ap₂ (λ b form. first (then_some (not (lawful_size n)) Variables ∷ then_some (b || ltb room (entry_length n form)) TooShort ∷ option_map Code (lowest (2 ^ n) (wrong_at (take (2 ^ n) codes))) ∷ [])) short form_front
      ∙ ap (λ o. first (then_some (not (lawful_size n)) Variables ∷ then_some (ltb (length codes) (2 ^ n) || ltb room (entry_length n (form_for n codes))) TooShort ∷ option_map Code o ∷ [])) wrong_front

  -- each byte of a row
  row_byte_front : (side : Side) (j : ℕ) → j < row_length n → row_byte n side (take (2 ^ n) codes) j ≡ row_byte n side codes j
  row_byte_front side j l =
      packed_same (λ k. digit_of side (get_or (take (2 ^ n) codes) (8 * j + k) 0)) (λ k. digit_of side (get_or codes (8 * j + k) 0)) (min 8 (2 ^ n))
      (λ k m. ap (digit_of side) (get_or-take (2 ^ n) codes (8 * j + k) 0 (omega (arith, digits_inside n j l))))

  -- and so each row
  rows_front : (side : Side) → row_bytes n side (take (2 ^ n) codes) ≡ row_bytes n side codes
  rows_front side =
      fill_by_all (row_byte n side codes) (row_bytes n side (take (2 ^ n) codes)) (row_length n) 0 (length-row_bytes n side (take (2 ^ n) codes))
      (λ j l. get_or-map-range_with_len (row_byte n side (take (2 ^ n) codes)) 0 (row_length n) j j 0 l (omega arith) ∙ row_byte_front side j l)

  -- and the entry
  entry_front : (form : Form) → entry_in form n (take (2 ^ n) codes) ≡ entry_in form n codes
  entry_front TwoRows = ap₂ (λ low high. n ∷ (low ++ high)) (rows_front Lower) (rows_front Upper)
  entry_front OneRow = ap (λ low. (16 + n) ∷ low) (rows_front Lower)

-- the table that the checks of the codes are made of
module _ (n : ℕ) (codes table : List ℕ) (room : ℕ) (long : 2 ^ n ≤ length codes) (front : table ≡ take (2 ^ n) codes) where
  -- the checks are those of the codes
  checks_same : first (write_checks n table room) ≡ first (write_checks n codes room)
  checks_same = ap (λ cs. first (write_checks n cs room)) front ∙ checks_front n codes room long

  -- so are a refusal
  pub unwritable_front : (fault : WriteFault) → Unwritable n table room fault → Unwritable n codes room fault
  unwritable_front fault refused = sym checks_same ∙ refused

  -- and a layout
  pub writable_front : (layout : Layout) → Writable n table room layout → Writable n codes room layout
  writable_front layout ok =
      (sym checks_same ∙ ok.0, ok.1, ok.2 ∙ ap (form_for n) front ∙ form_front n codes, omega (arith, ok.3, ap length front, length-take-le (2 ^ n) codes long), ok.4)

  -- and the entry that is written
  pub written_front : (layout : Layout) → layout.variables ≡ n → entry_in layout.form layout.variables table ≡ entry_in layout.form layout.variables codes
  written_front layout e =
      ap₂ (entry_in layout.form) e front ∙ entry_front n codes layout.form ∙ ap (λ m. entry_in layout.form m codes) (sym e)
