-- A request that is refused early leaves the part rows; where the rule has parts, the part rows begin with them.
use Rattle.std.proofs.Common.{rules, ◌≡◌, ◌-◌, ◌^◌, take, Ok, []}
use Rattle.std.proofs.lemmas.Result.{err_from_is_err_and}
use Rattle.tables.specs.Checks.{answered}
use Rattle.gatesets.specs.Lent.{rows_of}
use Rattle.gatesets.specs.Rules.{two_parts}
use Rattle.gatesets.specs.Splits.{early}
use Rattle.xorset.specs.Xor.{xor_rule}
use Rattle.xorset.proofs.XorEnds.{ends_early, ends_parts}
use Rattle.xorset.proofs.xor.XorGateSet.split.Goals as goal

pub returns-in_err-points-clause-outcome : goal.returns-in_err-points-clause-outcome
returns-in_err-points-clause-outcome c =
    let lent = c.args.rows.now in
    let refusal = err_from_is_err_and c.from_residual.result c.from_residual.ensures.1 in
    rw (refusal.1, refusal.2)
    (ends_early c.args.ask lent.table.now lent.left.now lent.right.now lent.first.now lent.second.now 0 [] [] c.in_err-points.field-0.0 c.in_err-points.ensures)

pub returns-clause-outcome : goal.returns-clause-outcome
returns-clause-outcome c =
    let lent = c.args.rows.now in
    let checked : Ok c.in_ok-points.points ≡ answered (early 1 c.args.ask (rows_of lent)) (2 ^ c.args.ask.variables) = search rules in
    let parts : xor_rule c.args.ask (take (c.in_ok-points.points - 0) lent.table.now) ≡ two_parts c.split_table.new.left c.split_table.new.right = search rules in
    ends_parts c.args.ask lent.table.now lent.left.now lent.right.now lent.first.now lent.second.now c.in_ok-points.points
    c.split_table.new.left c.split_table.new.right checked parts
