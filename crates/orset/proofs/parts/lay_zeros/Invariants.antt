-- The cells of the codes 0 passed so far are laid.
use Rattle.std.proofs.Common.{length}
use Rattle.gatesets.specs.Splits.{code}
use Rattle.orset.proofs.Laying.{ZerosTo}
use Rattle.orset.proofs.parts.lay_zeros.Given as goal

abbrev pub invariant-loop-index : goal.invariant-loop-index
invariant-loop-index l =
    record {
      lefts : ZerosTo (length l.table) (code l.table) l.initial.lefts.ignored l.index l.lefts;
      rights : ZerosTo (length l.table) (code l.table) l.initial.rights.ignored l.index l.rights;
    }
