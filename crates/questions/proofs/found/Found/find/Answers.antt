-- The rows are those of the entry that the reader finds at the byte number, and its table is lawful.
use Rattle.std.proofs.Common.{◌≡◌, ◌+◌, Ok, sym, refl, subst, ◌∙◌}
use Rattle.std.proofs.lemmas.List.{take_rest}
use Rattle.questions.specs.Layouts.{table}
use Rattle.questions.specs.Entries.{reading}
use Rattle.questions.specs.Dictionaries.{Lawful}
use Rattle.questions.proofs.Answering.{entry_by, answer_accepted}
use Rattle.questions.proofs.Relisting.{lawful_item}
use Rattle.questions.proofs.found.Found.find.Goals as goal

pub invariant_of-result-clause-lawful : goal.invariant_of-result-clause-lawful
invariant_of-result-clause-lawful c =
    let file = c.args.file.now in
    let layout = c.in_ok-rows.rows.layout in
    let n = layout.variables in
    let whole = c.in-Some.ensures.lookup.0.2 ∙ take_rest file c.args.at in
    let read : reading file c.args.at c.args.room ≡ Ok (entry_by n layout.form (c.args.at + layout.length)) =
    sym (answer_accepted _ _ c.args.at c.args.room layout whole c.in_ok-rows.ensures.1) in
    subst (λ bytes. Lawful (record { variables = n; codes = table n layout.form bytes })) (sym (c.in_ok-rows.ensures.0 ∙ whole)) (lawful_item file c.args.at c.args.room _ read)

pub returns : goal.returns
returns c =
    let whole = c.in-Some.ensures.lookup.0.2 ∙ take_rest c.args.file.now c.args.at in
    let accepted = c.in_ok-rows.ensures.1 in (
      sym (answer_accepted _ _ c.args.at c.args.room c.in_ok-rows.rows.layout whole accepted),
      refl,
      c.in_ok-rows.ensures.0 ∙ whole,
      accepted.4,
    )
