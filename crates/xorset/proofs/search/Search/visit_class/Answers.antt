-- The root of a class is the only cell on the stack at first.
use Rattle.std.proofs.Common.{◌≡◌, ℕ, List, length, get_or, sym, ap, ◌∙◌, arith}
use Rattle.std.proofs.lemmas.List.{get_or_default}
use Rattle.tables.specs.Stacks.{held}
use Rattle.gatesets.specs.Splits.{code}
use Rattle.xorset.proofs.Classing.{first_of}
use Rattle.xorset.proofs.Following.{has_pushed}
use Rattle.xorset.proofs.search.Search.visit_class.Goals as goal

pub visit_all-requires : goal.visit_all-requires
visit_all-requires c =
    let s = c.args.self.now in
    let vs : List ℕ = s.values.now in
    let read : get_or vs c.args.root 0 ≡ get_or vs c.args.root 2 = get_or_default vs c.args.root 0 2 (omega (arith, s.values_long)) in
    let none : length (held s.stack) ≡ 0 = ap length c.requires.between.empty in
    first_of s.frame.variables (code s.table.now) s.frame.left s.frame.right vs (held s.stack) c.args.root c.requires.between
    (held c.push.new.self) (sym read ∙ c.if-self-root-ne-WAITING.false)
    (has_pushed s.stack c.push.new.self c.args.root c.push.result c.push.ensures.pushed (omega (arith, none, s.stack_long)))
