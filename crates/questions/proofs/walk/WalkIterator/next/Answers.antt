-- The file holds what the reader says at the byte number.
use Rattle.std.proofs.Common.{rules, ◌<◌, ◌∷◌, sym, refl, subst₂}
use Rattle.questions.specs.Layouts.{table}
use Rattle.questions.specs.Dictionaries.{any_table, Holds, ended, stopped, entry}
use Rattle.questions.proofs.Walking.{sized_entry}
use Rattle.questions.proofs.walk.WalkIterator.next.Goals as goal

pub returns-then-at-self-clause-steps : goal.returns-then-at-self-clause-steps
returns-then-at-self-clause-steps c = (refl, ended c.args.self.now.at c.if-at-self.true)

pub returns-in-Ok-clause-goes : goal.returns-in-Ok-clause-goes
returns-in-Ok-clause-goes c =
    let on : c.args.self.now.at < c.in-Ok.found.entry.next = (sized_entry c.args.self.now.file.now c.args.self.now.at any_table c.in-Ok.found.entry c.in-Ok.ensures.0).onward in
    search rules

pub returns-in-Ok-clause-steps : goal.returns-in-Ok-clause-steps
returns-in-Ok-clause-steps c =
    let file = c.args.self.now.file.now in
    let at = c.args.self.now.at in
    let e = c.in-Ok.found.entry in
    let told = c.in-Ok.ensures in (
      refl,
      λ items ending h. subst₂ (λ k bytes. Holds file at (record { at = k; entry = e; codes = table e.variables e.form bytes } ∷ items) ending) (sym told.1) (sym told.2) (entry at e items ending c.if-at-self.false told.0 h),
    )

pub returns-in-Err-clause-steps : goal.returns-in-Err-clause-steps
returns-in-Err-clause-steps c = (refl, stopped c.args.self.now.at c.in-Err.fault c.if-at-self.false c.in-Err.ensures)
