-- A code 1 where the left part need not be 1 lays its right cell, any other leaves the cells.
use Rattle.std.proofs.Common.{sym, ◌∙◌, length, arith}
use Rattle.gatesets.specs.Splits.{code}
use Rattle.orset.proofs.Laying.{right_free, right_laid, right_passed}
use Rattle.orset.proofs.Marks.{code_held, marks_all}
use Rattle.orset.proofs.parts.lay_right_ones.Goals as goal

pub loop-index-preserved : goal.loop-index-preserved
loop-index-preserved c =
    let m = length c.args.table.now in
    let t = code c.args.table.now in
    let l = c.args.rights.now.ignored in
    let r = c.args.lefts.now.ignored in
    let i = c.loop-index.index in
    let below = c.loop-index-test.true in
    elim c.if-code-eq1.branch [
      | goal.then-code-eq1+then-code-ne1 w ↦
          rw w.rights-is
          (right_laid m t l r i c.loop-index.rights w.lay.new.self below w.if-code-eq1.true
          (λ z. w.if-code-ne1.true (sym (code_held _ _ _ _ c.requires.lefts i _ below w.code.ensures.code) ∙ z))
          w.lay.ensures.group w.lay.ensures.codes c.loop-index.invariant)
      | goal.else-code-eq1 w ↦
          rw w.rights-is
          (elim w.else-code-eq1.branch [
            | goal.else-code-eq1-via-then-code-eq1+else-code-ne1 v ↦
                right_free m t l r i c.loop-index.rights (code_held _ _ _ _ c.requires.lefts i _ below v.code.ensures.code ∙ v.if-code-ne1.false) c.loop-index.invariant
            | goal.else-code-eq1-via-else-code-eq1 v ↦ right_passed m t l r i c.loop-index.rights v.if-code-eq1.false c.loop-index.invariant
          ])
    ]

pub returns : goal.returns
returns c = marks_all _ _ _ _ _ c.loop-index.index c.loop-index.rights (omega arith) c.loop-index.invariant
