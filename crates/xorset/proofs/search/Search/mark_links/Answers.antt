-- Each turn marks the two cells of a link.
use Rattle.std.proofs.Common.{◌≡◌, ℕ, ◌+◌, ◌*◌, ◌^◌, ◌<◌, length, sym, subst, arith}
use Rattle.gatesets.specs.Splits.{code}
use Rattle.xorset.specs.Search.{IsMarked}
use Rattle.xorset.proofs.Marking.{mark_skip, mark_turn}
use Rattle.xorset.proofs.search.Search.mark_links.Goals as goal
use Rattle.xorset.proofs.search.Search.mark_links.Goals.{then-code-lt2, else-code-lt2}

pub loop-i-preserved : goal.loop-i-preserved
loop-i-preserved c =
    let frame = c.args.frame in
    let i : ℕ = c.loop-i.i in
    let long : length c.loop-i.values ≡ 2 * 2 ^ frame.variables = omega (arith, c.requires.values) in
    let below : i < 2 ^ frame.variables = omega (arith, c.requires.table) in
    elim c.if-code-lt2.branch [
      | then-code-lt2 w ↦ mark_turn frame.variables (code c.args.table.now) frame.left frame.right c.loop-i.values c.if-code-lt2.values i
          w.cell_of.result w.cell_of-then-code-lt2.result c.loop-i.invariant long below w.if-code-lt2.true w.cell_of.ensures
          w.cell_of-then-code-lt2.ensures w.values-is
      | else-code-lt2 w ↦ subst (IsMarked frame c.args.table.now (i + 1)) (sym w.values-is)
          (mark_skip frame.variables (code c.args.table.now) frame.left frame.right c.loop-i.values i c.loop-i.invariant w.if-code-lt2.false)
    ]
