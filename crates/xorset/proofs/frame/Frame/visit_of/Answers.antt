-- A left cell is cleared of the right group, a right cell of the left.
use Rattle.std.proofs.Common.{refl, arith}
use Rattle.xorset.proofs.Following.{visits_left, visits_right}
use Rattle.xorset.proofs.frame.Frame.visit_of.Goals as goal

pub returns-then-cell-self : goal.returns-then-cell-self
returns-then-cell-self c =
    let frame = c.args.self in
    record {
      visits = visits_left frame.variables frame.left frame.right c.args.cell frame.right_inside (omega (arith, frame.all_points)) c.requires;
      cell = refl;
    }

pub returns-else-cell-self : goal.returns-else-cell-self
returns-else-cell-self c =
    let frame = c.args.self in
    record {
      visits = visits_right frame.variables frame.left frame.right c.args.cell frame.points frame.left_inside frame.all_points c.if-cell-self.false c.requires;
      cell = refl;
    }
