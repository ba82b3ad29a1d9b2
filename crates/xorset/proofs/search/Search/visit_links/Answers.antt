-- Each turn follows the link of one subset of the group.
use Rattle.std.proofs.Common.{refl, ap, ◌∙◌, inl, inr}
use Rattle.std.proofs.lemmas.Result.{err_from_is_err_and}
use Rattle.tables.specs.Stacks.{held}
use Rattle.gatesets.specs.Splits.{code}
use Rattle.xorset.specs.declared.submasks.Submasks.{Submasks}
use Rattle.xorset.proofs.Searches.{kept_on, turn_followed, turn_inside, turn_part, turn_refused}
use Rattle.xorset.proofs.Visiting.{turn_first, turn_last}
use Rattle.xorset.proofs.search.Search.visit_links.Goals as goal

pub loop-subset-init : goal.loop-subset-init
loop-subset-init c =
    let first = c.args.self.now in
    let same = c.into_iter-subset-iterator.ensures.into_iter_gives in
    let bound = ap (λ (x : Submasks). x.bound) same ∙ c.of-subset-items.ensures.bound in
    record {
      group = ap (λ (x : Submasks). x.group) same ∙ c.of-subset-items.ensures.group;
      bound = inl bound;
      kept = record { table = refl; frame = refl };
      turn = rw bound
          (turn_first first.frame.variables (code first.table.now) first.frame.left first.frame.right c.args.visit c.requires.visits first.values.now (held first.stack)
          c.requires.valued c.requires.going);
    }

pub follow_link-requires-clause-i : goal.follow_link-requires-clause-i
follow_link-requires-clause-i c =
    turn_inside c.args.self.now c.loop-subset.self c.loop-subset.invariant.kept c.args.visit c.requires.visits c.loop-subset.subset-iterator c.loop-subset.invariant.group
    c.in-Some.subset c.in-Some.ensures.steps.1

pub loop-subset-preserved : goal.loop-subset-preserved
loop-subset-preserved c =
    let first = c.args.self.now in
    let now = c.loop-subset.self in
    let next = c.follow_link.new.self in
    let step = c.in-Some.ensures.steps in
    let part = turn_part first now c.loop-subset.invariant.kept c.args.visit c.requires.visits c.loop-subset.subset-iterator c.loop-subset.invariant.group c.in-Some.subset step.1 in
    record {
      group = step.2 ∙ c.loop-subset.invariant.group;
      bound = inr (rw step.3 part);
      kept = kept_on first now next c.loop-subset.invariant.kept c.in_ok-follow_link.ensures.kept;
      turn = rw step.3
          (turn_followed first now c.loop-subset.invariant.kept c.args.visit c.requires.visits c.loop-subset.subset-iterator c.loop-subset.invariant.group c.in-Some.subset step.1 _
          c.loop-subset.invariant.bound c.loop-subset.invariant.turn next c.in_ok-follow_link.ensures.followed);
    }

pub returns-in_err-follow_link-clause-came : goal.returns-in_err-follow_link-clause-came
returns-in_err-follow_link-clause-came c =
    let none =
    turn_refused c.args.self.now c.loop-subset.self c.loop-subset.invariant.kept c.args.visit c.requires.visits c.loop-subset.subset-iterator c.loop-subset.invariant.group
    c.in-Some.subset c.in-Some.ensures.steps.1 _ c.loop-subset.invariant.bound c.loop-subset.invariant.turn c.in_err-follow_link.ensures.followed in
    let refusal = err_from_is_err_and c.from_residual.result c.from_residual.ensures.1 in
    rw refusal.1 none

pub returns-clause-came : goal.returns-clause-came
returns-clause-came c =
    let first = c.args.self.now in
    turn_last first.frame.variables (code first.table.now) first.frame.left first.frame.right c.args.visit c.requires.visits first.values.now (held first.stack)
    c.loop-subset.self.values.now (held c.loop-subset.self.stack) _ c.loop-subset.subset-iterator.bound c.in-None.ensures.steps.0 c.loop-subset.invariant.turn
