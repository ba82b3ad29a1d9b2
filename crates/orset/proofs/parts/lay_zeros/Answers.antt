-- A code 0 lays its two cells, any other code leaves the cells.
use Rattle.std.proofs.Common.{length}
use Rattle.gatesets.specs.Splits.{code}
use Rattle.orset.proofs.Laying.{zero_laid, zero_passed}
use Rattle.orset.proofs.parts.lay_zeros.Goals as goal

pub loop-index-preserved : goal.loop-index-preserved
loop-index-preserved c =
    let m = length c.args.table.now in
    let t = code c.args.table.now in
    let i = c.loop-index.index in
    let below = c.loop-index-test.true in
    elim c.if-code-eq0.branch [
      | goal.then-code-eq0 w ↦
          rw (w.lefts-is, w.rights-is)
          (record {
            lefts = zero_laid m t _ i c.loop-index.lefts w.lay.new.self below w.if-code-eq0.true w.lay.ensures.group w.lay.ensures.codes c.loop-index.invariant.lefts;
            rights = zero_laid m t _ i c.loop-index.rights w.lay-then-code-eq0.new.self below w.if-code-eq0.true w.lay-then-code-eq0.ensures.group
                w.lay-then-code-eq0.ensures.codes c.loop-index.invariant.rights;
          })
      | goal.else-code-eq0 w ↦
          rw (w.lefts-is, w.rights-is)
          (record {
            lefts = zero_passed m t _ i c.loop-index.lefts w.if-code-eq0.false c.loop-index.invariant.lefts;
            rights = zero_passed m t _ i c.loop-index.rights w.if-code-eq0.false c.loop-index.invariant.rights;
          })
    ]
