-- The last turn has passed every assignment.
use Rattle.std.proofs.Common.{arith}
use Rattle.std.proofs.lemmas.List.FromFn.{fill_by_all}
use Rattle.orset.proofs.cells.Cells.write.Goals as goal

pub returns : goal.returns
returns c = fill_by_all _ c.loop-index.part _ 0 (omega arith) (λ i below. c.loop-index.invariant i (omega arith))
