-- The left cells of the assignments passed so far are laid, and at none of these must both parts be 0.
use Rattle.std.proofs.Common.{length}
use Rattle.gatesets.specs.Splits.{code}
use Rattle.orset.proofs.Laying.{LeftsTo}
use Rattle.orset.proofs.parts.lay_left_ones.Given as goal

abbrev pub invariant-loop-index : goal.invariant-loop-index
invariant-loop-index l = LeftsTo (length l.table) (code l.table) l.rights.ignored l.initial.lefts.ignored l.index l.lefts
