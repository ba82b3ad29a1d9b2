-- The table is complemented twice; what the set below did with the complemented table is what the opposite set owes.
use Rattle.std.proofs.Common.{unwrap_or, ap, ◌∙◌}
use Rattle.std.proofs.lemmas.Result.{err_from_is_err_and}
use Rattle.tables.specs.Tables.{sized}
use Rattle.gatesets.specs.Derived.{complemented_to}
use Rattle.gatesets.proofs.Complements.{complemented_twice}
use Rattle.gatesets.proofs.Opposites.{opposite_parted, opposite_refused}
use Rattle.gatesets.proofs.opposite.OppositeGateSet.split.Goals as goal

pub returns-in_err-done-clause-table_kept : goal.returns-in_err-done-clause-table_kept
returns-in_err-done-clause-table_kept g c =
    let front = unwrap_or (sized c.args.ask.variables) 0 in
    c.complement_table-2.ensures ∙ ap (complemented_to front) (c.split-done.ensures.table_kept ∙ c.complement_table.ensures)
    ∙ complemented_twice front c.args.rows.now.table.now

pub returns-in_err-done-clause-outcome : goal.returns-in_err-done-clause-outcome
returns-in_err-done-clause-outcome g c =
    let s = c.args.self.now.0 in
    let lent = c.args.rows.now in
    let after = c.split-done.new.rows in
    let p = err_from_is_err_and c.from_residual.result c.from_residual.ensures.1 in
    rw (p.1, p.2)
    (opposite_refused (g.S.GateSet.counted s) (g.S.GateSet.answering s) (g.S.GateSet.gives s) c.args.ask
    lent.table.now lent.left.now lent.right.now lent.first.now lent.second.now
    c.complement_table.new.row after.left.now after.right.now c.in_err-done.field-0.0
    c.complement_table.ensures c.in_err-done.ensures.outcome)

pub returns-clause-table_kept : goal.returns-clause-table_kept
returns-clause-table_kept g c =
    let front = unwrap_or (sized c.args.ask.variables) 0 in
    c.complement_table-2.ensures ∙ ap (complemented_to front) (c.split-done.ensures.table_kept ∙ c.complement_table.ensures)
    ∙ complemented_twice front c.args.rows.now.table.now

pub returns-clause-outcome : goal.returns-clause-outcome
returns-clause-outcome g c =
    let s = c.args.self.now.0 in
    let lent = c.args.rows.now in
    let after = c.split-done.new.rows in
    opposite_parted (g.S.GateSet.counted s) (g.S.GateSet.answering s) (g.S.GateSet.gives s) c.args.ask
    lent.table.now lent.left.now lent.right.now lent.first.now lent.second.now
    c.complement_table.new.row after.left.now after.right.now c.complement_table-3.new.row c.complement_table-4.new.row
    c.complement_table.ensures c.complement_table-3.ensures c.complement_table-4.ensures c.in_ok-done.ensures.outcome
