-- What a set derived from a set below takes over: the early checks, and refusals.
use Rattle.std.proofs.Common.{◌≡◌, ℕ, ◌*◌, ◌^◌, Bool, not, ◌&&◌, ltb, leb, List, [], ◌∷◌, length, Some, None, Option, unwrap_or, sym, ap, ◌∙◌, ap₂, inl, inr}
use Rattle.std.specs.Option.{option_map}
use Rattle.std.specs.Bool.{then_some}
use Rattle.std.proofs.lemmas.Bool.{cond-true}
use Rattle.tables.specs.Checks.{first, lowest}
use Rattle.tables.proofs.Passing.{lowest_same}
use Rattle.tables.specs.Groups.{lawful_groups}
use Rattle.tables.specs.Tables.{lawful_size, sized}
use Rattle.gatesets.specs.declared.refusal.SplitRefusal.{SplitRefusal}
use Rattle.gatesets.specs.declared.refusal.SplitRefusal.TheVariants.{Variables, TooShort, Code, Gate, Groups}
use Rattle.gatesets.specs.declared.request.Request.{Request}
use Rattle.gatesets.specs.Derived.{complemented_to, renumbered}
use Rattle.gatesets.specs.Splits.{Pair, Refused, Rows, code, early, roomy, rows, table_in}
use Rattle.gatesets.proofs.Complements.{length_complemented, wrong_same}
use Rattle.gatesets.proofs.Outcomes.{passed_facts}

-- what the early checks say, by the tests that may differ between a set and one below it
abbrev checked : Request → Bool → Option ℕ → Bool → Option SplitRefusal
checked ask roomed wrong numbered =
    first
    (then_some (not (lawful_size ask.variables)) Variables
    ∷ then_some (not roomed) TooShort
    ∷ option_map Code wrong
    ∷ then_some numbered Gate
    ∷ then_some (not (lawful_groups ask.variables ask.left ask.right)) Groups
    ∷ [])

-- they depend on the count and the gate number only through their comparison
pub early_numbered : (count count' k : ℕ) (ask : Request) (lent : Rows) → leb count k ≡ leb count' ask.gate
    → early count (renumbered k ask) lent ≡ early count' ask lent
early_numbered count count' k ask lent e =
    ap (checked ask (roomy ask.variables lent) (lowest (2 ^ ask.variables) (λ i. ltb 2 (code lent.table i)))) e

-- they say the same where the first codes of the table's row are complemented
pub early_complemented : (count : ℕ) (ask : Request) (k : ℕ) (t a b v w : List ℕ) → early count ask (rows (complemented_to k t) a b v w) ≡ early count ask (rows t a b v w)
early_complemented count ask k t a b v w =
    let m = 2 ^ ask.variables in
    let others = leb m (length a) && (leb m (length b) && (leb (2 * m) (length v) && leb (2 * m) (length w))) in
    ap₂ (λ long wrong. checked ask (leb m long && others) wrong (leb count ask.gate)) (length_complemented k t)
    (lowest_same (λ i. ltb 2 (code (complemented_to k t) i)) (λ i. ltb 2 (code t i)) m (λ i _. wrong_same k t i))

-- where the checks pass, the number of assignments is known
pub points_known : (count : ℕ) (ask : Request) (lent : Rows) → early count ask lent ≡ None → unwrap_or (sized ask.variables) 0 ≡ 2 ^ ask.variables
points_known count ask lent e =
    ap (λ o. unwrap_or o 0) (cond-true (lawful_size ask.variables) (Some (2 ^ ask.variables)) None (passed_facts count ask lent e).size_lawful)

module _ (count count' : ℕ) (gate gate' : List Bool) (ask ask' : Request) (lent lent' : Rows) where
  -- a refusal of the set below is one of the derived set, where their checks say the same, the part rows are the same,
  -- and where the checks pass there is a pair below for each above
  pub refused_from : (left_row right_row : List ℕ) (refusal : SplitRefusal) → early count ask lent ≡ early count' ask' lent'
      → lent.left ≡ lent'.left → lent.right ≡ lent'.right
      → (early count ask lent ≡ None → Pair gate' ask' (table_in ask' lent'.table) → Pair gate ask (table_in ask lent.table))
      → Refused count gate ask lent left_row right_row refusal → Refused count' gate' ask' lent' left_row right_row refusal
  refused_from left_row right_row refusal same left_same right_same pair below =
      record {
        reason =
            elim below.reason [
              | inl e ↦ inl (sym same ∙ e)
              | inr h ↦ inr (sym same ∙ h.0, h.1, λ p. h.2 (pair h.0 p))
            ];
        left_same = below.left_same ∙ left_same;
        right_same = below.right_same ∙ right_same;
      }
