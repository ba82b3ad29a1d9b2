-- The right cells of the assignments passed so far are laid.
use Rattle.std.proofs.Common.{length}
use Rattle.gatesets.specs.Splits.{code}
use Rattle.orset.proofs.Laying.{RightsTo}
use Rattle.orset.proofs.parts.lay_right_ones.Given as goal

abbrev pub invariant-loop-index : goal.invariant-loop-index
invariant-loop-index l = RightsTo (length l.table) (code l.table) l.initial.rights.ignored l.lefts.ignored l.index l.rights
