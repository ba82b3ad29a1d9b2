-- Each turn writes one table more; at the end the whole list reads back.
use Rattle.std.proofs.Common.{All, [], ◌∷◌, ◌++◌, map, length, None, sym, ap, ◌∙◌, subst, ap₂, zero-add}
use Rattle.std.proofs.lemmas.List.Elements.{All-push}
use Rattle.std.proofs.lemmas.List.{map_push}
use Rattle.questions.specs.Writing.{entry_bytes}
use Rattle.questions.specs.Dictionaries.{Holds, table_of, Lawful, written, ReadsAs}
use Rattle.questions.specs.Walks.{item_of}
use Rattle.questions.proofs.Relisting.{every_table_reads_back, every_list_reads_back, rewrites_push, written_push}
use Rattle.questions.proofs.Walking.{found_more, passed_all}
use Rattle.questions.proofs.rewrite.rewrite_dictionary.Goals as goal

pub returns-in_err-found-clause-tables : goal.returns-in_err-found-clause-tables
returns-in_err-found-clause-tables c = every_table_reads_back

pub returns-in_err-after-clause-tables : goal.returns-in_err-after-clause-tables
returns-in_err-after-clause-tables c = every_table_reads_back

pub returns-in_err-push-clause-tables : goal.returns-in_err-push-clause-tables
returns-in_err-push-clause-tables c = every_table_reads_back

pub returns-clause-tables : goal.returns-clause-tables
returns-clause-tables c = every_table_reads_back

pub loop-found-preserved : goal.loop-found-preserved
loop-found-preserved c =
    let done = c.loop-found.invariant.passed in
    let found = c.in_ok-found.found in
    let item = item_of found in
    let to = c.len-to.ensures ∙ c.loop-found.bytes.ok.0 ∙ ap length done.1 ∙ sym (zero-add (length (written (map table_of done.0)))) in
    let gone = ap₂ (λ t f. record { from = found.at; to = t; before = found.entry.form; after = f }) to c.in_ok-after.ensures.0 in
    record {
      can_go_on = tt;
      ends = tt;
      same_file = c.in-Some.ensures.steps.0 ∙ c.loop-found.invariant.same_file;
      passed = (
        done.0 ++ item ∷ [],
        c.in_ok-after.ensures.1 ∙ ap (λ xs. xs ++ entry_bytes found.entry.variables item.codes) done.1 ∙ written_push done.0 item,
        c.in_ok-push.ensures.items ∙ ap₂ (λ es r. es ++ r ∷ []) done.2 gone ∙ sym (rewrites_push 0 done.0 item),
        found_more c.args.file.now _ done.0 _ _ c.in-Some.found found c.loop-found.invariant.same_file done.3 c.in-Some.ensures.steps.1 c.in_ok-found.was,
        subst (All Lawful) (sym (map_push table_of done.0 item)) (All-push Lawful (map table_of done.0) (table_of item) done.4 found.lawful),
      );
    }

pub returns-clause-result : goal.returns-clause-result
returns-clause-result c =
    let done = c.loop-found.invariant.passed in
    let tables = map table_of done.0 in
    let rest = subst (λ file. Holds file c.loop-found.found-iterator.at [] None) c.loop-found.invariant.same_file c.in-None.ensures.steps.1 in
    record {
      items = done.0;
      held = passed_all c.args.file.now done.0 _ _ done.3 rest;
      bytes_are = done.1;
      entries_are = done.2;
      same_tables = subst (λ bytes. ReadsAs bytes tables) (sym done.1) (every_list_reads_back tables done.4);
    }
