-- With both checks passed, entries that are equal when cleared are what the group's being ignored asks.
use Rattle.std.proofs.Common.{rules, ◌≡◌, ℕ, ◌-◌, ◌^◌, true, false, not, ltb, List, length, Some, ap, arith}
use Rattle.std.specs.Bool.{then_some}
use Rattle.std.proofs.lemmas.Bool.{le-ltb}
use Rattle.tables.specs.Ignoring.{ignore_checks}
use Rattle.tables.specs.Tables.{lawful_size, sized}
use Rattle.tables.specs.declared.ignoring.IgnoreRefusal.TheVariants.{Size, Short}
use Rattle.tables.proofs.Comparing.{alike_front}
use Rattle.tables.proofs.Passing.{first_none}
use Rattle.tables.proofs.Sizes.{sized-some}
use Rattle.tables.proofs.ignoring.ignores.Goals as goal

pub returns : goal.returns
returns g c =
    let row : List g.row.T.Denot = c.args.row.now in
    let n : ℕ = c.args.variables in
    let points : ℕ = c.in_ok-points.points in
    let known : Some points ≡ sized n = search rules in
    let size : (lawful_size n ≡ true) × (points ≡ 2 ^ n) = sized-some n points known in
    let enough : ltb (length row) (2 ^ n) ≡ false = le-ltb (length row) (2 ^ n) (omega arith) in (
      first_none (ignore_checks n (length row)) (ap (λ b. then_some (not b) Size) size.0, (ap (λ b. then_some b Short) enough, tt)),
      alike_front n c.args.group (points - 0) row c.cleared_alike.result (omega arith) (omega arith) c.cleared_alike.ensures,
    )
