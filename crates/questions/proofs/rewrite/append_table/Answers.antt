-- The writer does not refuse the table, since it is lawful.
use Rattle.std.proofs.Common.{◌≡◌, None, Some, ap, ◌∙◌, subst}
use Rattle.tables.specs.Checks.{first}
use Rattle.tables.proofs.Passing.{clash}
use Rattle.questions.specs.Writing.{write_checks}
use Rattle.questions.specs.Dictionaries.{any_entry, table_of, NotAppended}
use Rattle.questions.specs.Walks.{item_of}
use Rattle.questions.proofs.Relisting.{lawful_passes}
use Rattle.questions.proofs.rewrite.append_table.Goals as goal

pub unreachable-requires : goal.unreachable-requires
unreachable-requires c =
    let found = c.args.found.now in
    let n = found.entry.variables in
    let codes = c.table.result.now in
    let passes : first (write_checks n codes any_entry) ≡ None =
    ap (λ cs. first (write_checks n cs any_entry)) c.table.ensures ∙ lawful_passes (table_of (item_of found)) found.lawful in
    let refused : first (write_checks n codes any_entry) ≡ Some c.in-Err-Refused.field-0-0 = subst (NotAppended n codes) c.in-Err-Refused.field-0-is c.in-Err-Refused.ensures.1 in
    clash (cc)
