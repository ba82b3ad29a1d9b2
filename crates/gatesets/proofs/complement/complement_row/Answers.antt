-- A turn complements one code more, and the last turn has complemented all.
use Rattle.gatesets.proofs.Complements.{complement_more}
use Rattle.gatesets.proofs.complement.complement_row.Goals as goal

pub loop-code-preserved : goal.loop-code-preserved
loop-code-preserved c =
    complement_more c.args.row.now c.loop-code.row c.loop-code.code-index c.complement_code.result
    c.loop-code-test.true c.loop-code.invariant c.loop-code.auto.row c.complement_code.ensures
