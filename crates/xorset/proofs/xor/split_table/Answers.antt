-- The values found are those of the rule, and the parts are written from them.
use Rattle.std.proofs.Common.{refl, ap, ◌∙◌}
use Rattle.std.proofs.lemmas.Result.{err_from_is_err_and}
use Rattle.xorset.proofs.XorKept.{values_none, values_parts}
use Rattle.xorset.proofs.xor.split_table.Goals as goal

pub returns-in_err-find_values : goal.returns-in_err-find_values
returns-in_err-find_values c =
    let kept = c.new-search.ensures.kept in
    let none = values_none c.args.ask c.args.table.now (rw (kept.1, kept.0) at c.in_err-find_values.ensures.found) in
    let refusal = err_from_is_err_and c.from_residual.result c.from_residual.ensures.1 in
    rw refusal.1 (none, refl, refl)

pub returns : goal.returns
returns c =
    let kept = c.in_ok-find_values.ensures.kept in
    let frame = kept.frame ∙ c.new-search.ensures.kept.1 in
    let table = ap (λ x. x.now) kept.table ∙ c.new-search.ensures.kept.0 in
    let found = rw (frame, table) at c.in_ok-find_values.ensures.found in
    values_parts c.args.ask c.args.table.now c.find_values.new.self.values.now found.values found.left found.right _ _
    (rw frame at c.write_part.ensures) (rw frame at c.write_part-2.ensures)
