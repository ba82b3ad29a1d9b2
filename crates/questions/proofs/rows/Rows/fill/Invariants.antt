-- The front of the table holds the codes of the assignments before this one.
use Rattle.std.proofs.Common.{◌≡◌, ℕ, ◌<◌, get_or}
use Rattle.questions.specs.Layouts.{code}
use Rattle.questions.proofs.rows.Rows.fill.Given as goal

abbrev pub invariant-loop-assignment : goal.invariant-loop-assignment
invariant-loop-assignment l = (k : ℕ) → k < l.assignment → get_or l.codes k 0 ≡ code l.self.layout.variables l.self.layout.form l.self.bytes.now k
