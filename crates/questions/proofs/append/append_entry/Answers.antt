-- The written bytes are added, and their first byte says the form.
use Rattle.std.proofs.Common.{◌^◌, ◌≤◌, ◌++◌, length, drop, Ok, vec_items, sym, ap, ◌∙◌, ap₂, pow_mono}
use Rattle.tables.specs.Checks.{first}
use Rattle.tables.proofs.Passing.{answered_ok}
use Rattle.questions.specs.Layouts.{entry_length, table}
use Rattle.questions.specs.Writing.{form_for, write_checks}
use Rattle.questions.specs.Dictionaries.{any_table, any_entry}
use Rattle.questions.proofs.Answering.{entry_by}
use Rattle.questions.proofs.Accepting.{passed_bounds, front_entry, front_form, last_returns}
use Rattle.questions.proofs.append.append_entry.Goals as goal

pub returns : goal.returns
returns c =
    let n = c.args.variables in
    let codes = c.args.codes.now in
    let size = c.in_ok-size.size in
    let out = c.write_entry.new.out in
    let told = c.in_ok-size.ensures in
    let ok = answered_ok (first (write_checks n codes any_entry)) (entry_length n (form_for n codes)) size (sym told.answer) in
    let bytes = c.in_ok-extend_from_slice.ensures.items in
    let form = c.from-heading.ensures.1 ∙ front_form n codes _ out told.out (passed_bounds n codes any_entry ok.0).1 in
    let grown = bytes ∙ ap (λ xs. vec_items c.args.dictionary.now ++ xs) (front_entry n codes _ out told.out size ok.1) in
    let entry_is = ap₂ (entry_by n) form (c.len.ensures ∙ c.extend_from_slice.new.self.ok.0) in
    let few : 2 ^ n ≤ any_table = pow_mono {i = n} {j = 10} (passed_bounds n codes any_entry ok.0).1 in
    let there = last_returns n codes any_entry (vec_items c.args.dictionary.now) (vec_items c.extend_from_slice.new.self) ok.0 grown few in
    record {
      passes = ok.0;
      bytes = grown;
      entry_is = entry_is;
      read_there = there.answer ∙ ap Ok (sym entry_is);
      table_there = ap (λ f. table n f (drop (length (vec_items c.args.dictionary.now)) (vec_items c.extend_from_slice.new.self))) form ∙ there.table_read;
    }
