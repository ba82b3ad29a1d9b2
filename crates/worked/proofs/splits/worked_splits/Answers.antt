-- The table is computed.
use Rattle.std.proofs.Common.{refl}
use Rattle.worked.proofs.Rules.{ruled}
use Rattle.worked.proofs.splits.worked_splits.Goals as goal

pub returns : goal.returns
returns c = record { count = refl; table = refl; rules = ruled }
