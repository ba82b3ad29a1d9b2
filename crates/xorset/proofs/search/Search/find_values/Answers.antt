-- After the last left cell the values are found.
use Rattle.std.proofs.Common.{◌≡◌, ap, arith}
use Rattle.gatesets.specs.Splits.{code}
use Rattle.xorset.specs.declared.frame.Frame.{Frame}
use Rattle.xorset.proofs.Stepping.{finish}
use Rattle.xorset.proofs.search.Search.find_values.Goals as goal

pub returns-clause-found : goal.returns-clause-found
returns-clause-found c =
    let s = c.loop-root.self in
    let points : s.frame.points ≡ c.args.self.now.frame.points = ap (λ (f : Frame). f.points) c.loop-root.invariant.kept.frame in
    finish s.frame.variables (code s.table.now) s.frame.left s.frame.right s.values.now c.loop-root.invariant.between.going
    (λ k lt. c.loop-root.invariant.between.past k (omega (arith, s.frame.all_points)))
