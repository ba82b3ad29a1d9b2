-- What the writer's checks say of a table that passes them, and of the entry that is then written.
use Rattle.std.proofs.Common.{◌≡◌, ℕ, ◌+◌, ◌^◌, ◌<◌, ◌≤◌, true, cond, not, leb, List, [], ◌++◌, length, get_or, take, drop, is_some, Some, None, Ok, Option, sym, refl, ap, ◌∙◌, subst, ap₂, subst₂, one-add}
use Rattle.std.proofs.lemmas.List.{append-nil, length-append, take_at}
use Rattle.std.proofs.lemmas.Bool.{not-false, and_parts, or_parts, leb-true, ltb-false, eqb-false}
use Rattle.tables.specs.Checks.{first, lowest, answered}
use Rattle.tables.specs.Tables.{lawful_size}
use Rattle.tables.proofs.Passing.{clash, all_pass, then_some-none, option_map-none, none_below}
use Rattle.questions.specs.declared.fault.WriteFault.TheVariants.{Variables, TooShort, Code}
use Rattle.questions.specs.declared.form.Form.TheVariants.{TwoRows, OneRow}
use Rattle.questions.specs.declared.layout.Layout.{Layout}
use Rattle.questions.specs.Layouts.{form_of, entry_length}
use Rattle.questions.specs.Writing.{free_at, wrong_at, form_for, entry_in, rows_in, entry_bytes, write_checks, writing, ReadAs, ReadsBack, Writable}
use Rattle.questions.specs.Dictionaries.{any_table}
use Rattle.questions.proofs.Returning.{entry_returns, length-rows_in, heading_form}

-- the one-row form is chosen only where nothing is free
one_row_none : (o : Option ℕ) → cond (is_some o) TwoRows OneRow ≡ OneRow → o ≡ None
one_row_none (Some i) e = clash (cc)
one_row_none None e = refl

-- so in the one-row form no assignment is free
nothing_free : (n : ℕ) (codes : List ℕ) → form_for n codes ≡ OneRow → (i : ℕ) → i < 2 ^ n → get_or codes i 0 ≡ 2 → ⊥
nothing_free n codes e i l =
    eqb-false (get_or codes i 0) 2 (none_below (free_at codes) (2 ^ n) (one_row_none (lowest (2 ^ n) (free_at codes)) e) i l)

-- a number of variables that passes lies from 1 to 10
pub lawful_bounds : (n : ℕ) → lawful_size n ≡ true → (1 ≤ n) × (n ≤ 10)
lawful_bounds n e = let p = and_parts (leb 1 n) (leb n 10) e in (leb-true 1 n p.0, leb-true n 10 p.1)

-- so does that of a table that passes
pub passed_bounds : (n : ℕ) (codes : List ℕ) (room : ℕ) → first (write_checks n codes room) ≡ None → (1 ≤ n) × (n ≤ 10)
passed_bounds n codes room e =
    lawful_bounds n (not-false (lawful_size n) (then_some-none (not (lawful_size n)) Variables (all_pass (write_checks n codes room) e).0))

-- the entry of a table that passes the checks is read back as that table
pub passed_returns : (n : ℕ) (codes : List ℕ) (room : ℕ) → first (write_checks n codes room) ≡ None → ReadsBack n codes (entry_bytes n codes)
passed_returns n codes room e =
    let passed = all_pass (write_checks n codes room) e in
    let bounds = passed_bounds n codes room e in
    let long = ltb-false (length codes) (2 ^ n) (or_parts _ _ (then_some-none _ TooShort passed.1.0)).0 in
    let right = none_below (wrong_at codes) (2 ^ n) (option_map-none Code (lowest (2 ^ n) (wrong_at codes)) passed.1.1.0) in
    entry_returns n (form_for n codes) codes bounds.0 bounds.1 long (λ i l. ltb-false 2 (get_or codes i 0) (right i l)) (nothing_free n codes)

-- how long an entry is
length-entry_bytes : (n : ℕ) (codes : List ℕ) → length (entry_bytes n codes) ≡ entry_length n (form_for n codes)
length-entry_bytes n codes = sym (one-add (length (rows_in (form_for n codes) n codes))) ∙ length-rows_in n (form_for n codes) codes

-- an entry at the end of a file is read there
pub last_returns : (n : ℕ) (codes : List ℕ) (room : ℕ) (before whole : List ℕ) → first (write_checks n codes room) ≡ None → whole ≡ before ++ entry_bytes n codes → 2 ^ n ≤ any_table
    → ReadAs whole (length before) any_table n (form_for n codes) (take (2 ^ n) codes) (length whole)
last_returns n codes room before whole passed e fits =
    let bytes = entry_bytes n codes in
    let end : before ++ (bytes ++ []) ≡ whole = ap (λ xs. before ++ xs) (append-nil bytes) ∙ sym e in
    let size : length before + length bytes ≡ length whole = sym (length-append before bytes) ∙ ap length (sym e) in
    subst₂ (λ file next. ReadAs file (length before) any_table n (form_for n codes) (take (2 ^ n) codes) next) end size (passed_returns n codes room passed before [] any_table fits)

-- an output row that begins with the entry of a table
module _ (n : ℕ) (codes rest now : List ℕ) (begins : now ≡ entry_bytes n codes ++ rest) where
  -- its front is the entry
  pub front_entry : (size : ℕ) → entry_length n (form_for n codes) ≡ size → take size now ≡ entry_bytes n codes
  front_entry size e = ap (take size) begins ∙ take_at (entry_bytes n codes) rest size (length-entry_bytes n codes ∙ e)

  -- and its first byte says the form
  pub front_form : n ≤ 10 → form_of (get_or now 0 0) ≡ form_for n codes
  front_form l = ap (λ xs. form_of (get_or xs 0 0)) begins ∙ heading_form n (form_for n codes) l

-- a table that is written, with its layout
module _ (n : ℕ) (codes out : List ℕ) (layout : Layout) (ok : Writable n codes (length out) layout) where
  -- the length that the layout has is that of the entry
  size_is : layout.length ≡ entry_length n (form_for n codes)
  size_is = layout.length_is ∙ ap₂ entry_length ok.1 ok.2

  -- the answer
  pub written_answer : Ok layout.length ≡ writing n codes (length out)
  written_answer = ap Ok size_is ∙ sym (ap (λ r. answered r (entry_length n (form_for n codes))) ok.0)

  -- the output row
  pub written_out : (now : List ℕ) → now ≡ entry_in layout.form layout.variables codes ++ drop layout.length out → now ≡ entry_bytes n codes ++ drop layout.length out
  written_out now e = e ∙ ap₂ (λ f m. entry_in f m codes ++ drop layout.length out) ok.2 ok.1

  -- its front is the entry
  pub written_front : (now : List ℕ) → now ≡ entry_in layout.form layout.variables codes ++ drop layout.length out → take layout.length now ≡ entry_bytes n codes
  written_front now e =
      front_entry n codes (drop layout.length out) now (written_out now e) layout.length (sym size_is)

  -- what was written is read back
  pub written_returns : (now : List ℕ) → now ≡ entry_in layout.form layout.variables codes ++ drop layout.length out → ReadsBack n codes (take layout.length now)
  written_returns now e = subst (ReadsBack n codes) (sym (written_front now e)) (passed_returns n codes (length out) ok.0)
