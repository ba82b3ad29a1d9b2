-- The codes passed so far are complemented.
use Rattle.std.proofs.Common.{◌≡◌}
use Rattle.gatesets.specs.Derived.{complemented_to}
use Rattle.gatesets.proofs.complement.complement_row.Given as goal

abbrev pub invariant-loop-code : goal.invariant-loop-code
invariant-loop-code l = l.row ≡ complemented_to l.code-index l.initial.row
