-- Gate numbers of two sets, one after the other: what a set did under one number is what the pair of sets owes under another.
use Rattle.std.proofs.Common.{◌≡◌, ℕ, ◌-◌, ◌<◌, ◌≤◌, Bool, leb, ◌⊎◌, List, Result, sym, refl, ◌∙◌, subst, inl, inr, arith}
use Rattle.std.proofs.lemmas.Result.{MatchResult-weaker}
use Rattle.std.proofs.lemmas.Bool.{cases_lt, cond-false, cond-true, le-leb, le-ltb, lt-leb, lt-ltb}
use Rattle.gatesets.specs.declared.refusal.SplitRefusal.{SplitRefusal}
use Rattle.gatesets.specs.declared.request.Request.{Request}
use Rattle.gatesets.specs.Derived.{PairGives, pair_answering, pair_count, renumbered}
use Rattle.gatesets.specs.Splits.{Giving, Pair, Parts, Rows, Split, table_in}
use Rattle.gatesets.proofs.Outcomes.{parted_by, passed_facts}
use Rattle.gatesets.proofs.Transfers.{early_numbered, refused_from}

-- the gate number is nothing to a pair of functions
pub pair_numbered : (gate : List Bool) (k : ℕ) (ask : Request) (table : List ℕ) → Pair gate ask table → Pair gate (renumbered k ask) table
pair_numbered gate k ask table p =
    record { first = p.first; second = p.second; first_ignores = p.first_ignores; second_ignores = p.second_ignores; admitted = p.admitted }

-- nor to parts
pub parts_numbered : (gate : List Bool) (k : ℕ) (ask : Request) (table left right : List ℕ) → Parts gate (renumbered k ask) table left right → Parts gate ask table left right
parts_numbered gate k ask table left right p =
    record {
      left_long = p.left_long;
      right_long = p.right_long;
      left_codes = p.left_codes;
      right_codes = p.right_codes;
      left_ignores = p.left_ignores;
      right_ignores = p.right_ignores;
      joins = p.joins;
      left_needs = p.left_needs;
      right_needs = p.right_needs;
    }

module _ (count count' k : ℕ) (gate gate' : List Bool) (gives gives' : Giving) (ask : Request) (lent : Rows) where
  -- the same gate under another number in another set
  pub split_numbered : (left_row right_row : List ℕ) (r : Result (Unit {0}) SplitRefusal) → leb count k ≡ leb count' ask.gate
      → (k < count → gate' ≡ gate)
      → ((table left right : List ℕ) → k < count → gives (renumbered k ask) table left right → gives' ask table left right)
      → Split count gate gives (renumbered k ask) lent left_row right_row r → Split count' gate' gives' ask lent left_row right_row r
  split_numbered left_row right_row r same gates given below =
      let early_same = early_numbered count count' k ask lent same in
      let table = table_in ask lent.table in
      MatchResult-weaker r below
      (λ _ p.
      let inside = (passed_facts count (renumbered k ask) lent p.passed).gate_below in
      parted_by count' ask lent gate' gives' p.left p.right left_row right_row (sym early_same ∙ p.passed)
      (given table p.left p.right inside p.given)
      (subst (λ g. Parts g ask table p.left p.right) (sym (gates inside)) (parts_numbered gate k ask table p.left p.right p.parts))
      p.left_holds
      p.right_holds)
      (λ refusal p.
      refused_from count count' gate gate' (renumbered k ask) ask lent lent left_row right_row refusal early_same refl refl
      (λ e q. pair_numbered gate k ask table (subst (λ g. Pair g ask table) (gates (passed_facts count (renumbered k ask) lent e).gate_below) q)) p)

module _ (first second k : ℕ) where
  -- a number below the first count, or from sixteen on, is one of the pair exactly when it is one of the first set
  pub first_numbered : first ≤ 16 → (k < first) ⊎ ((first ≤ k) × (16 ≤ k)) → leb first k ≡ leb (pair_count first second) k
  first_numbered h (inl l) = lt-leb first k l ∙ sym (lt-leb (pair_count first second) k (omega arith))
  first_numbered h (inr l) = le-leb first k l.0 ∙ sym (le-leb (pair_count first second) k (omega arith))

  -- any other exactly when, less the first count, it is one of the second set
  pub second_numbered : first ≤ k → k < 16 → leb second (k - first) ≡ leb (pair_count first second) k
  second_numbered l h =
      elim (cases_lt (k - first) second) [
        | inl below ↦ lt-leb second (k - first) below ∙ sym (lt-leb (pair_count first second) k (omega arith))
        | inr past ↦ le-leb second (k - first) past ∙ sym (le-leb (pair_count first second) k (omega arith))
      ]

module _ (first second count : ℕ) (answering answering' : ℕ → List Bool) (gives gives' : Giving) (ask : Request) (lent : Rows) (left_row right_row : List ℕ)
    (r : Result (Unit {0}) SplitRefusal) where
  abbrev PairSplit : Type 0
  PairSplit = Split (pair_count first second) (pair_answering first answering answering' ask.gate) (PairGives first gives gives') ask lent left_row right_row r

  -- what the first set did
  pub pair_by_first : count ≡ first → first ≤ 16 → (ask.gate < count) ⊎ ((count ≤ ask.gate) × (16 ≤ ask.gate))
      → Split first (answering ask.gate) gives ask lent left_row right_row r → PairSplit
  pair_by_first e h either =
      split_numbered first (pair_count first second) ask.gate (answering ask.gate) _ gives (PairGives first gives gives') ask lent left_row right_row r
      (first_numbered first second ask.gate h (subst (λ m. (ask.gate < m) ⊎ ((m ≤ ask.gate) × (16 ≤ ask.gate))) e either))
      (λ l. cond-true _ _ _ (lt-ltb _ _ l))
      (λ table left right l given. inl (l, given))

  -- what the second set did
  pub pair_by_second : count ≡ first → count ≤ ask.gate → ask.gate < 16
      → Split second (answering' (ask.gate - count)) gives' (renumbered (ask.gate - count) ask) lent left_row right_row r → PairSplit
  pair_by_second e from l below =
      let from' : first ≤ ask.gate = omega arith in
      split_numbered second (pair_count first second) (ask.gate - first) (answering' (ask.gate - first)) _ gives' (PairGives first gives gives') ask lent left_row right_row r
      (second_numbered first second ask.gate from' l)
      (λ _. cond-false _ _ _ (le-ltb _ _ from') ∙ cond-true _ _ _ (lt-ltb _ _ l))
      (λ table left right _ given. inr (from', l, given))
      (subst (λ m. Split second (answering' (ask.gate - m)) gives' (renumbered (ask.gate - m) ask) lent left_row right_row r) e below)
