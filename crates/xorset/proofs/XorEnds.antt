-- How the split of XOR begins and ends: the fronts of its rows, and what the rule says of the table at the front of its row.
use Rattle.std.proofs.Common.{◌≡◌, ℕ, ◌-◌, ◌*◌, ◌^◌, List, ◌++◌, length, take, drop, Ok, Err}
use Rattle.tables.specs.Checks.{answered}
use Rattle.gatesets.specs.declared.request.Request.{Request}
use Rattle.gatesets.specs.declared.refusal.SplitRefusal.{SplitRefusal}
use Rattle.gatesets.specs.declared.refusal.SplitRefusal.TheVariants.{NoPair}
use Rattle.gatesets.specs.Rules.{no_pair, only_gate, two_parts}
use Rattle.gatesets.specs.Splits.{Parted, Refused, early, rows}
use Rattle.gatesets.proofs.Based.{based_none, based_parts, codes_long, numbers_long, refused_early}
use Rattle.xorset.specs.Xor.{XorGives, xor_gate, xor_rule}
use Rattle.xorset.proofs.XorKept.{xor_gives, xor_parted, xor_refused}

module _ (ask : Request) (table left right first second : List ℕ) (points : ℕ) (checked : Ok points ≡ answered (early 1 ask (rows table left right first second)) (2 ^ ask.variables)) where
  -- the fronts of the table's row and of the part rows are as long as the table
  pub codes_fit : (length (take (points - 0) table) ≡ 2 ^ ask.variables) × ((length (take (points - 0) left) ≡ 2 ^ ask.variables) × (length (take (points - 0) right) ≡ 2 ^ ask.variables))
  codes_fit = codes_long xor_gate XorGives ask (rows table left right first second) points checked

  -- and those of the work rows twice as long
  pub numbers_fit : (length (take (2 * points - 0) first) ≡ 2 * 2 ^ ask.variables) × (length (take (2 * points - 0) second) ≡ 2 * 2 ^ ask.variables)
  numbers_fit = numbers_long xor_gate XorGives ask (rows table left right first second) points checked

module _ (ask : Request) (table left right first second : List ℕ) (points : ℕ) (a b : List ℕ) where
  -- a request that an early check refuses leaves the part rows
  pub ends_early : (refusal : SplitRefusal) → Err refusal ≡ answered (early 1 ask (rows table left right first second)) (2 ^ ask.variables)
      → Refused 1 (only_gate xor_gate ask.gate) ask (rows table left right first second) left right refusal
  ends_early refusal e = refused_early 1 (only_gate xor_gate ask.gate) ask (rows table left right first second) refusal e

  -- a table without a pair is refused, and the part rows are left
  pub ends_none : Ok points ≡ answered (early 1 ask (rows table left right first second)) (2 ^ ask.variables)
      → xor_rule ask (take (points - 0) table) ≡ no_pair → a ≡ take (points - 0) left → b ≡ take (points - 0) right
      → Refused 1 (only_gate xor_gate ask.gate) ask (rows table left right first second) (a ++ drop (points - 0) left) (b ++ drop (points - 0) right) NoPair
  ends_none checked none keep keep' = based_none xor_gate XorGives ask (rows table left right first second) points checked a b (xor_refused ask _ none) keep keep'

  -- of any other the part rows begin with the parts of the rule
  pub ends_parts : Ok points ≡ answered (early 1 ask (rows table left right first second)) (2 ^ ask.variables) → xor_rule ask (take (points - 0) table) ≡ two_parts a b
      → Parted 1 (only_gate xor_gate ask.gate) XorGives ask (rows table left right first second) (a ++ drop (points - 0) left) (b ++ drop (points - 0) right)
  ends_parts checked parts =
      based_parts xor_gate XorGives ask (rows table left right first second) points checked a b (xor_gives ask _ a b parts) (xor_parted ask _ a b parts)
