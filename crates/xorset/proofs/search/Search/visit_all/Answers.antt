-- The latest cell is visited, until the stack is empty.
use Rattle.std.proofs.lemmas.Result.{err_from_is_err_and}
use Rattle.tables.specs.Stacks.{held}
use Rattle.xorset.proofs.Searches.{latest_cell, latest_going, latest_valued, none_before}
use Rattle.xorset.proofs.search.Search.visit_all.Goals as goal

pub visit_of-visit-requires : goal.visit_of-visit-requires
visit_of-visit-requires c =
    latest_cell c.args.self.now c.loop-cell.self c.loop-cell.invariant.kept c.loop-cell.invariant.went (held c.pop.new.self) c.in-Ok.cell c.in-Ok.ensures.popped.0

pub visit_links-requires-clause-valued : goal.visit_links-requires-clause-valued
visit_links-requires-clause-valued c =
    latest_valued c.args.self.now c.loop-cell.self c.loop-cell.invariant.kept c.loop-cell.invariant.went (held c.pop.new.self) c.in-Ok.cell c.in-Ok.ensures.popped.0
    c.visit_of-visit.result.cell c.visit_of-visit.ensures.cell

pub visit_links-requires-clause-going : goal.visit_links-requires-clause-going
visit_links-requires-clause-going c =
    latest_going c.args.self.now c.loop-cell.self c.loop-cell.invariant.kept c.loop-cell.invariant.went (held c.pop.new.self) c.in-Ok.cell c.in-Ok.ensures.popped.0
    c.visit_of-visit.result.cell c.visit_of-visit.ensures.cell

pub returns-in_err-visit_links-clause-came : goal.returns-in_err-visit_links-clause-came
returns-in_err-visit_links-clause-came c =
    let none = none_before c.args.self.now c.loop-cell.self c.loop-cell.invariant.kept c.in_err-visit_links.ensures.came in
    let refusal = err_from_is_err_and c.from_residual.result c.from_residual.ensures.1 in
    rw refusal.1 none
