-- Lists of tables: each table that was read can be written, and a list that is written one after the other reads back.
use Rattle.std.proofs.Common.{All, ◌≡◌, ℕ, ◌+◌, ◌^◌, ◌<◌, ◌≤◌, false, not, List, [], ◌∷◌, ◌++◌, map, length, get_or, take, drop, None, Ok, sym, refl, ap, ◌∙◌, ap₂, subst₂, add-zero, arith, pow_mono}
use Rattle.std.specs.List.{range_with_len}
use Rattle.std.specs.Option.{option_map}
use Rattle.std.specs.Bool.{then_some}
use Rattle.std.proofs.lemmas.List.FromFn.{length-map-range_with_len}
use Rattle.std.proofs.lemmas.List.Elements.{All-map, All-get_or, All-head, All-tail}
use Rattle.std.proofs.lemmas.List.{append_assoc, append-nil, length-append, take_all, map_push, flat_map_more}
use Rattle.std.proofs.lemmas.Bool.{le-ltb, or_from}
use Rattle.std.proofs.lemmas.Bool.Decides.{nat_tests}
use Rattle.tables.specs.Checks.{first}
use Rattle.tables.proofs.Passing.{first_none, lowest-none}
use Rattle.questions.specs.declared.fault.WriteFault.TheVariants.{Variables, TooShort, Code}
use Rattle.questions.specs.declared.form.Form.{Form}
use Rattle.questions.specs.declared.form.Form.TheVariants.{TwoRows, OneRow}
use Rattle.questions.specs.declared.reader.Entry.{Entry}
use Rattle.questions.specs.Layouts.{entry_length, code_by, code, lower, upper}
use Rattle.questions.specs.Entries.{reading}
use Rattle.questions.specs.Writing.{form_for, entry_bytes, write_checks, wrong_at, ReadAs}
use Rattle.questions.specs.Dictionaries.{Table, Lawful, Item, table_of, item_at, any_table, any_entry, Holds, ended, entry, written, EveryTableReadsBack, EveryListReadsBack}
use Rattle.questions.specs.Rewriting.{rewritten, rewrites}
use Rattle.questions.proofs.RowSizes.{row_most}
use Rattle.questions.proofs.Accepting.{lawful_bounds, passed_returns}
use Rattle.questions.proofs.Walking.{lawful_read}

-- a code that is read is at most 2
code_le : (low high : ℕ) → code_by low high ≤ 2
code_le low high = grind (arith, nat_tests)

-- the table of an accepted entry is lawful
pub lawful_item : (file : List ℕ) (at room : ℕ) (e : Entry) → reading file at room ≡ Ok e → Lawful (table_of (item_at file at e))
lawful_item file at room e read =
    let n = e.variables in
    let codes : ℕ → ℕ = code n e.form (drop at file) in (
      lawful_read file at room e read,
      length-map-range_with_len codes 0 (2 ^ n),
      All-map (λ c. c ≤ 2) codes (range_with_len 0 (2 ^ n)) (λ k d l. code_le (lower (drop at file) _) (upper n e.form (drop at file) _)),
    )

-- an output row of 257 bytes takes any entry: a first byte and two rows
entry_most : (n : ℕ) (form : Form) → n ≤ 10 → entry_length n form ≤ any_entry
entry_most n TwoRows l = omega (arith, row_most n l)
entry_most n OneRow l = omega (arith, row_most n l)

-- the writer does not refuse a lawful table
pub lawful_passes : (t : Table) → Lawful t → first (write_checks t.variables t.codes any_entry) ≡ None
lawful_passes t h =
    let n = t.variables in
    let codes = t.codes in
    let most = entry_most n (form_for n codes) (lawful_bounds n h.0).1 in
    let right : (i : ℕ) → i < 2 ^ n → wrong_at codes i ≡ false =
    λ i l. le-ltb 2 (get_or codes i 0) (All-get_or (λ c. c ≤ 2) codes i 0 (omega (arith, h.1)) h.2) in
    first_none (write_checks n codes any_entry) (
      ap (λ b. then_some (not b) Variables) h.0,
      (
        ap (λ b. then_some b TooShort) (or_from _ _ (le-ltb (length codes) (2 ^ n) (omega (arith, h.1))) (le-ltb any_entry (entry_length n (form_for n codes)) most)),
        (ap (option_map Code) (lowest-none (wrong_at codes) (2 ^ n) right), tt),
      ),
    )

-- so what is written of it is read back
pub every_table_reads_back : EveryTableReadsBack
every_table_reads_back t h = passed_returns t.variables t.codes any_entry (lawful_passes t h)

-- one table more, in front of a list that reads back
first_of : (t : Table) (ts : List Table) → Lawful t → (before : List ℕ)
    → (items : List Item)
    × Holds ((before ++ entry_bytes t.variables t.codes) ++ written ts) (length (before ++ entry_bytes t.variables t.codes)) items None
    × (map table_of items ≡ ts)
    → (items : List Item) × Holds (before ++ written (t ∷ ts)) (length before) items None × (map table_of items ≡ t ∷ ts)
first_of t ts h before (items, held, same) =
    let n = t.variables in
    let bytes = entry_bytes n t.codes in
    let file = before ++ (bytes ++ written ts) in
    let at = length before in
    let fits : 2 ^ n ≤ any_table = pow_mono {i = n} {j = 10} (lawful_bounds n h.0).1 in
    let back : ReadAs file at any_table n (form_for n t.codes) (take (2 ^ n) t.codes) (at + length bytes) =
    passed_returns n t.codes any_entry (lawful_passes t h) before (written ts) any_table fits in
    let e : Entry = record { variables = n; form = form_for n t.codes; next = at + length bytes } in
    let long : at < length file = omega (arith, length-append before (bytes ++ written ts)) in
    let rest : Holds file (at + length bytes) items None =
    subst₂ (λ f k. Holds f k items None) (append_assoc before bytes (written ts)) (length-append before bytes) held in
    let codes : (item_at file at e).codes ≡ t.codes = back.table_read ∙ take_all (2 ^ n) t.codes (omega (arith, h.1)) in (
      item_at file at e ∷ items,
      entry at e items None long back.answer rest,
      ap₂ ◌∷◌ (ap (λ cs. record { variables = n; codes = cs }) codes) same,
    )

-- a list of tables that is written behind other bytes reads back from there on
lists_return : (tables : List Table) → All Lawful tables → (before : List ℕ)
    → (items : List Item) × Holds (before ++ written tables) (length before) items None × (map table_of items ≡ tables)
lists_return [] h before = ([], ended (length before) (omega (arith, ap length (append-nil before))), refl)
lists_return (t ∷ ts) h before = first_of t ts (All-head Lawful t ts h) before (lists_return ts (All-tail Lawful t ts h) (before ++ entry_bytes t.variables t.codes))

-- from the start of a file
pub every_list_reads_back : EveryListReadsBack
every_list_reads_back tables h = lists_return tables h []

-- one entry more at the end of what is written anew
pub rewrites_push : (to : ℕ) (done : List Item) (item : Item)
    → rewrites to (done ++ item ∷ []) ≡ rewrites to done ++ rewritten (to + length (written (map table_of done))) item ∷ []
rewrites_push to [] item = ap (λ k. rewritten k item ∷ []) (sym (add-zero to))
rewrites_push to (d ∷ done) item =
    let bytes = entry_bytes d.entry.variables d.codes in
    let further : (to + length bytes) + length (written (map table_of done)) ≡ to + length (written (map table_of (d ∷ done))) =
    omega (arith, length-append bytes (written (map table_of done))) in
    ap (λ xs. rewritten to d ∷ xs) (rewrites_push (to + length bytes) done item ∙ ap (λ k. rewrites (to + length bytes) done ++ rewritten k item ∷ []) further)

-- and the bytes grow by that entry
pub written_push : (done : List Item) (item : Item)
    → written (map table_of done) ++ entry_bytes item.entry.variables item.codes ≡ written (map table_of (done ++ item ∷ []))
written_push done item =
    flat_map_more (λ t. entry_bytes t.variables t.codes) [] (map table_of done) (table_of item) ∙ ap written (sym (map_push table_of done item))
