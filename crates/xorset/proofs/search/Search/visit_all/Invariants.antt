-- The search went on so far; each visit leaves fewer cells that wait or are to visit.
use Rattle.std.proofs.Common.{◌+◌, length}
use Rattle.tables.specs.Stacks.{held}
use Rattle.xorset.specs.Search.{Kept, WentOn, waiting}
use Rattle.xorset.proofs.search.Search.visit_all.Given as goal

abbrev pub invariant-loop-cell : goal.invariant-loop-cell
invariant-loop-cell l = record { kept : Kept l.initial.self l.self; went : WentOn l.initial.self l.self }

abbrev pub decreases-loop-cell : goal.decreases-loop-cell
decreases-loop-cell l = waiting l.self.values.now + length (held l.self.stack)
