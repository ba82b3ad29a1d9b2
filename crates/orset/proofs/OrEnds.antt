-- How the split of OR ends, by what the rule says of the table at the front of its row.
use Rattle.std.proofs.Common.{◌≡◌, ℕ, ◌-◌, ◌^◌, List, ◌++◌, take, drop, Ok, Err}
use Rattle.tables.specs.Checks.{answered}
use Rattle.gatesets.specs.declared.request.Request.{Request}
use Rattle.gatesets.specs.declared.refusal.SplitRefusal.{SplitRefusal}
use Rattle.gatesets.specs.declared.refusal.SplitRefusal.TheVariants.{NoPair}
use Rattle.gatesets.specs.Rules.{no_pair, only_gate, two_parts}
use Rattle.gatesets.specs.Splits.{Parted, Refused, early, rows}
use Rattle.gatesets.proofs.Based.{based_none, based_parts, refused_early}
use Rattle.orset.specs.Or.{OrGives, or_gate, or_rule}
use Rattle.orset.proofs.OrKept.{or_gives, or_parted, or_refused}

module _ (ask : Request) (table left right first second : List ℕ) (points : ℕ) (a b : List ℕ) where
  -- a request that an early check refuses leaves the part rows
  pub ends_early : (refusal : SplitRefusal) → Err refusal ≡ answered (early 1 ask (rows table left right first second)) (2 ^ ask.variables)
      → Refused 1 (only_gate or_gate ask.gate) ask (rows table left right first second) left right refusal
  ends_early refusal e = refused_early 1 (only_gate or_gate ask.gate) ask (rows table left right first second) refusal e

  -- a table without a pair is refused, and the part rows are left
  pub ends_none : Ok points ≡ answered (early 1 ask (rows table left right first second)) (2 ^ ask.variables)
      → or_rule ask (take (points - 0) table) ≡ no_pair → a ≡ take (points - 0) left → b ≡ take (points - 0) right
      → Refused 1 (only_gate or_gate ask.gate) ask (rows table left right first second) (a ++ drop (points - 0) left) (b ++ drop (points - 0) right) NoPair
  ends_none checked none keep keep' = based_none or_gate OrGives ask (rows table left right first second) points checked a b (or_refused ask _ none) keep keep'

  -- of any other the part rows begin with the parts of the rule
  pub ends_parts : Ok points ≡ answered (early 1 ask (rows table left right first second)) (2 ^ ask.variables) → or_rule ask (take (points - 0) table) ≡ two_parts a b
      → Parted 1 (only_gate or_gate ask.gate) OrGives ask (rows table left right first second) (a ++ drop (points - 0) left) (b ++ drop (points - 0) right)
  ends_parts checked parts =
      based_parts or_gate OrGives ask (rows table left right first second) points checked a b (or_gives ask _ a b parts) (or_parted ask _ a b parts)
