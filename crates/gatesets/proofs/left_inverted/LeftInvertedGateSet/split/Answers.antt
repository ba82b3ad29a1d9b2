-- What the set below did is, with the left part complemented, what the left-inverted set owes.
use Rattle.std.proofs.lemmas.Result.{err_from_is_err_and}
use Rattle.gatesets.specs.Lent.{rows_of}
use Rattle.gatesets.proofs.Inversions.{inverted_parted, inverted_refused}
use Rattle.gatesets.proofs.left_inverted.LeftInvertedGateSet.split.Goals as goal

pub returns-in_err-split-clause-outcome : goal.returns-in_err-split-clause-outcome
returns-in_err-split-clause-outcome g c =
    let s = c.args.self.now.0 in
    let after = c.split.new.rows in
    let p = err_from_is_err_and c.from_residual.result c.from_residual.ensures.1 in
    rw (p.1, p.2)
    (inverted_refused (g.S.GateSet.counted s) (g.S.GateSet.answering s c.args.ask.gate) (g.S.GateSet.gives s) c.args.ask (rows_of c.args.rows.now)
    after.left.now after.right.now c.in_err-split.field-0.0 c.in_err-split.ensures.outcome)

pub returns-clause-outcome : goal.returns-clause-outcome
returns-clause-outcome g c =
    let s = c.args.self.now.0 in
    let after = c.split.new.rows in
    inverted_parted (g.S.GateSet.counted s) (g.S.GateSet.answering s c.args.ask.gate) (g.S.GateSet.gives s) c.args.ask (rows_of c.args.rows.now)
    after.left.now after.right.now c.complement_table.new.row
    c.complement_table.ensures c.in_ok-split.ensures.outcome
