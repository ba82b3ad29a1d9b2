-- Each test of the code is one of the checks.
use Rattle.std.proofs.Common.{rules, ◌≡◌, Some, sym, ◌∙◌}
use Rattle.tables.specs.Tables.{sized}
use Rattle.gatesets.specs.Splits.{rows}
use Rattle.gatesets.proofs.Checking.{refused_code, refused_gate, refused_groups, checks_passed}
use Rattle.gatesets.proofs.check.check_split.Goals as goal

pub returns-in-Some : goal.returns-in-Some
returns-in-Some c =
    let a = c.args in
    let known : Some c.in_ok-points.points ≡ sized a.ask.variables = search rules in
    refused_code a.count a.ask (rows a.table.now a.left.now a.right.now a.first.now a.second.now) c.in_ok-points.points known (search rules) (search rules)
    c.in-Some.index c.in-Some.ensures

pub returns-then-ask-count : goal.returns-then-ask-count
returns-then-ask-count c =
    let a = c.args in
    let known : Some c.in_ok-points.points ≡ sized a.ask.variables = search rules in
    refused_gate a.count a.ask (rows a.table.now a.left.now a.right.now a.first.now a.second.now) c.in_ok-points.points known (search rules) (search rules)
    (sym c.in_default.is ∙ c.wrong_code.ensures) c.if-ask-count.true

pub returns-then-not-has_lawful_groups : goal.returns-then-not-has_lawful_groups
returns-then-not-has_lawful_groups c =
    let a = c.args in
    let known : Some c.in_ok-points.points ≡ sized a.ask.variables = search rules in
    refused_groups a.count a.ask (rows a.table.now a.left.now a.right.now a.first.now a.second.now) c.in_ok-points.points known (search rules) (search rules)
    (sym c.in_default.is ∙ c.wrong_code.ensures) c.if-ask-count.false (search rules)

pub returns : goal.returns
returns c =
    let a = c.args in
    let known : Some c.in_ok-points.points ≡ sized a.ask.variables = search rules in
    checks_passed a.count a.ask (rows a.table.now a.left.now a.right.now a.first.now a.second.now) c.in_ok-points.points known (search rules) (search rules)
    (sym c.in_default.is ∙ c.wrong_code.ensures) c.if-ask-count.false (search rules)
