-- The wrong code is that of the table's assignments, and so is the form.
use Rattle.std.proofs.Common.{◌≡◌, rules, ◌∙◌}
use Rattle.questions.specs.Writing.{form_for}
use Rattle.questions.proofs.Fronts.{form_by_any, wrong_by_position}
use Rattle.questions.proofs.writer.check_table.Goals as goal

pub returns-in-Some : goal.returns-in-Some
returns-in-Some c =
    let form : c.table_form.result ≡ form_for c.args.variables c.args.table.now = c.table_form.ensures ∙ form_by_any c.args.variables c.args.table.now c.requires in
    let wrong = c.in-Some.ensures ∙ wrong_by_position c.args.variables c.args.table.now c.requires in
    search rules
