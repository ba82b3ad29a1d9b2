-- A code 1 where the right part must be 0 lays its left cell, any other leaves the cells.
use Rattle.std.proofs.Common.{refl, sym, ◌∙◌, length, arith}
use Rattle.gatesets.specs.Splits.{code}
use Rattle.orset.proofs.Laying.{left_fails, left_free, left_laid, left_passed}
use Rattle.orset.proofs.Marks.{code_held, marks_all}
use Rattle.orset.proofs.parts.lay_left_ones.Goals as goal

pub loop-index-preserved : goal.loop-index-preserved
loop-index-preserved c =
    let m = length c.args.table.now in
    let t = code c.args.table.now in
    let l = c.args.rights.now.ignored in
    let r = c.args.lefts.now.ignored in
    let i = c.loop-index.index in
    let below = c.loop-index-test.true in
    elim c.if-code-eq1.branch [
      | goal.then-code-eq1+then-code-eq0+else-code-eq0-2 w ↦
          rw w.lefts-is
          (left_laid m t l r i c.loop-index.lefts w.lay.new.self below w.if-code-eq1.true
          (code_held _ _ _ _ c.requires.rights i _ below w.code.ensures.code ∙ w.if-code-eq0.true)
          (λ z. w.if-code-eq0-2.false (sym (code_held _ _ _ _ c.loop-index.invariant.laid.held i _ below w.code-then-code-eq0.ensures.code) ∙ z))
          w.lay.ensures.group w.lay.ensures.codes c.loop-index.invariant)
      | goal.else-code-eq1 w ↦
          rw w.lefts-is
          (elim w.else-code-eq1.branch [
            | goal.else-code-eq1-via-then-code-eq1+else-code-eq0 v ↦
                left_free m t l r i c.loop-index.lefts (λ z. v.if-code-eq0.false (sym (code_held _ _ _ _ c.requires.rights i _ below v.code.ensures.code) ∙ z)) c.loop-index.invariant
            | goal.else-code-eq1-via-else-code-eq1 v ↦ left_passed m t l r i c.loop-index.lefts v.if-code-eq1.false c.loop-index.invariant
          ])
    ]

pub returns-clause-laid : goal.returns-clause-laid
returns-clause-laid c = marks_all _ _ _ _ _ c.loop-index.index c.loop-index.lefts (omega arith) c.loop-index.invariant.laid

pub returns-then-code-eq0-2-clause-pair : goal.returns-then-code-eq0-2-clause-pair
returns-then-code-eq0-2-clause-pair c =
    let i = c.loop-index.index in
    let below = c.loop-index-test.true in (
      λ _.
          left_fails (length c.args.table.now) (code c.args.table.now) c.args.rights.now.ignored c.args.lefts.now.ignored i below c.if-code-eq1.true
          (code_held _ _ _ _ c.requires.rights i _ below c.code.ensures.code ∙ c.if-code-eq0.true)
          (code_held _ _ _ _ c.loop-index.invariant.laid.held i _ below c.code-then-code-eq0.ensures.code ∙ c.if-code-eq0-2.true),
      λ _. refl,
    )
