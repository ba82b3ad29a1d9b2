-- From three variables on there is nothing to look for; below, the first byte with a spare digit is the one that is found.
use Rattle.std.proofs.Common.{◌≡◌, ℕ, ◌+◌, ◌-◌, ◌/◌, ◌^◌, ◌<◌, ◌≤◌, ◌==◌, not, List, length, get_or, take, drop, position, sym, ap, ◌∙◌, arith}
use Rattle.std.specs.Option.{option_map}
use Rattle.std.proofs.lemmas.Bool.Decides.{nat_tests}
use Rattle.std.proofs.lemmas.List.{get_or-take, get_or-drop, length-take-le, length-drop}
use Rattle.tables.specs.Checks.{lowest}
use Rattle.tables.proofs.Passing.{lowest-none}
use Rattle.questions.specs.declared.rows.Rows.{Rows}
use Rattle.questions.specs.Entries.{spare_at}
use Rattle.questions.proofs.RowSizes.{entry_some}
use Rattle.tables.proofs.Positions.{position_lowest}
use Rattle.questions.proofs.rows.Rows.spare_digit.Goals as goal

-- the place that is found, behind the first byte
spare_found : (rows : Rows) → rows.layout.variables < 3
    → option_map (λ k. 1 + k) (position (λ b. not (b / 2 ^ rows.layout.points == 0)) (take (rows.layout.length - 1) (drop 1 rows.bytes.now)))
    ≡ lowest rows.layout.length (spare_at rows.layout.variables rows.bytes.now)
spare_found rows few =
    let n : ℕ = rows.layout.variables in
    let bytes : List ℕ = rows.bytes.now in
    let behind : List ℕ = take (rows.layout.length - 1) (drop 1 bytes) in
    let some : 1 ≤ rows.layout.length = omega (arith, entry_some n rows.layout.form) in
    let long : length behind ≡ rows.layout.length - 1 = length-take-le (rows.layout.length - 1) (drop 1 bytes) (omega (arith, rows.whole, length-drop 1 bytes)) in
    position_lowest (λ b. not (b / 2 ^ rows.layout.points == 0)) behind 0 (spare_at n bytes) 1
    (λ k l. grind (arith, nat_tests))
    (λ k l.
    let byte : get_or behind k 0 ≡ get_or bytes (1 + k) 0 = get_or-take (rows.layout.length - 1) (drop 1 bytes) k 0 (omega arith) ∙ get_or-drop 1 bytes k 0 in
    let same = ap (λ p. get_or bytes (1 + k) 0 / 2 ^ p) rows.layout.points_are in
    grind (arith, nat_tests))
    rows.layout.length (omega arith)

pub returns-then-self-ge3 : goal.returns-then-self-ge3
returns-then-self-ge3 c =
    sym (lowest-none (spare_at c.args.self.now.layout.variables c.args.self.now.bytes.now) c.args.self.now.layout.length
    (λ k h. let wide : 3 ≤ c.args.self.now.layout.variables = omega arith in grind (arith, nat_tests)))
