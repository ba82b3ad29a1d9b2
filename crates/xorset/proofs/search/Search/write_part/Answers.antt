-- Each turn writes a code of the part.
use Rattle.std.proofs.Common.{◌≡◌, ◌^◌, arith}
use Rattle.xorset.specs.Search.{cell_at}
use Rattle.xorset.proofs.Coding.{cell_inside, code_all, code_more}
use Rattle.xorset.proofs.search.Search.write_part.Goals as goal

pub loop-i-preserved : goal.loop-i-preserved
loop-i-preserved c =
    let s = c.args.self.now in
    let n = s.frame.variables in
    let inside = cell_inside n s.frame.left s.frame.right c.args.side c.loop-i.i (omega (arith, c.requires.row)) in
    code_more s.values.now (cell_at s.frame c.args.side) (2 ^ n) c.args.row.now c.requires.row c.loop-i.row c.loop-i.i c.cell_of.result
    c.loop-i.invariant c.cell_of.ensures (omega (arith, s.values_long, c.cell_of.ensures)) (omega (arith, c.requires.row))

pub returns : goal.returns
returns c =
    let s = c.args.self.now in
    let n = s.frame.variables in
    let all : c.loop-i.i ≡ 2 ^ n = omega (arith, c.requires.row) in
    code_all s.values.now (cell_at s.frame c.args.side) (2 ^ n) c.args.row.now c.requires.row c.loop-i.row c.loop-i.i all c.loop-i.invariant
