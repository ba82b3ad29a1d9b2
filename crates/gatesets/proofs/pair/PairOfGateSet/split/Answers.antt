-- What the set did to which the gate belongs is what the pair owes.
use Rattle.gatesets.specs.Lent.{rows_of}
use Rattle.gatesets.proofs.Numberings.{pair_by_first, pair_by_second}
use Rattle.gatesets.proofs.pair.PairOfGateSet.split.Goals as goal

pub returns-then-ask-ge16-clause-outcome : goal.returns-then-ask-ge16-clause-outcome
returns-then-ask-ge16-clause-outcome g c =
    let s = c.args.self.now in
    let after = c.split.new.rows in
    pair_by_first (g.F.GateSet.counted s.0) (g.S.GateSet.counted s.1) c.count-count.result
    (g.F.GateSet.answering s.0) (g.S.GateSet.answering s.1) (g.F.GateSet.gives s.0) (g.S.GateSet.gives s.1)
    c.args.ask (rows_of c.args.rows.now) after.left.now after.right.now c.split.result
    c.count-count.ensures (g.met.F.GateSet.sixteen s.0).1 c.if-ask-ge16.either c.split.ensures.outcome

pub returns-else-ask-ge16-clause-outcome : goal.returns-else-ask-ge16-clause-outcome
returns-else-ask-ge16-clause-outcome g c =
    let s = c.args.self.now in
    let below = c.split-else-ask-ge16 in
    let after = below.new.rows in
    pair_by_second (g.F.GateSet.counted s.0) (g.S.GateSet.counted s.1) c.count-count.result
    (g.F.GateSet.answering s.0) (g.S.GateSet.answering s.1) (g.F.GateSet.gives s.0) (g.S.GateSet.gives s.1)
    c.args.ask (rows_of c.args.rows.now) after.left.now after.right.now below.result
    c.count-count.ensures c.if-ask-ge16.false.0 c.if-ask-ge16.false.1 below.ensures.outcome
