-- At the end the row begins with the table.
use Rattle.std.proofs.Common.{◌≡◌, ◌^◌, ◌++◌, length, take, drop, ap₂, ◌∙◌, arith}
use Rattle.std.proofs.lemmas.List.{length-take-le}
use Rattle.std.proofs.lemmas.List.FromFn.{fill_by_all}
use Rattle.questions.specs.Layouts.{code}
use Rattle.questions.proofs.rows.Rows.fill.Goals as goal

pub returns : goal.returns
returns c =
    let layout = c.args.self.now.layout in
    let points : layout.points ≡ 2 ^ layout.variables = layout.points_are in
    let long : length (take layout.points c.args.row.now) ≡ layout.points = length-take-le layout.points c.args.row.now (omega (arith, c.requires)) in
    let size : length c.loop-assignment.codes ≡ 2 ^ layout.variables = c.loop-assignment.auto.codes ∙ long ∙ points in
    let filled = fill_by_all (code layout.variables layout.form c.args.self.now.bytes.now) c.loop-assignment.codes (2 ^ layout.variables) 0 size (λ k l. c.loop-assignment.invariant k (omega arith)) in
    ap₂ (λ front n. front ++ drop n c.args.row.now) filled points
