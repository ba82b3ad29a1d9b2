-- A row of 1,024 codes takes any table, which is then at its front.
use Rattle.std.proofs.Common.{◌^◌, ◌≤◌, arith, pow_mono}
use Rattle.questions.proofs.found.Found.table.Goals as goal

pub fill-requires : goal.fill-requires
fill-requires c =
    let layout = c.args.self.now.rows.layout in
    let most : 2 ^ layout.variables ≤ 1024 = pow_mono {i = layout.variables} {j = 10} layout.lawful.1 in
    omega (arith, layout.points_are)
