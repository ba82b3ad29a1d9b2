-- The left-inverted set: its gate has a pair for a table exactly when the gate below has one, with the first function complemented, and so for its left parts.
use Rattle.std.proofs.Common.{◌≡◌, ℕ, ◌^◌, ◌<◌, ◌≤◌, Bool, not, List, map, length, unwrap_or, sym, refl, ap, ◌∙◌, subst, arith}
use Rattle.std.proofs.lemmas.List.{length-map}
use Rattle.tables.specs.Gates.{complement, joined}
use Rattle.tables.specs.Tables.{Allows, sized}
use Rattle.gatesets.specs.declared.refusal.SplitRefusal.{SplitRefusal}
use Rattle.gatesets.specs.declared.request.Request.{Request}
use Rattle.gatesets.specs.Derived.{LeftInvertedGives, complemented_to, inverted_left}
use Rattle.gatesets.specs.Splits.{Giving, Pair, Parted, Parts, Refused, Rows, code, table_in}
use Rattle.gatesets.proofs.Outcomes.{parted_by}
use Rattle.gatesets.proofs.CodeRows.{joined_of}
use Rattle.gatesets.proofs.Complements.{code-complement, complement-laid, complement_small, complements_twice, ignores_complement, ignores_not, row_allows_back}
use Rattle.gatesets.proofs.Transfers.{points_known, refused_from}

module _ (gate : List Bool) (ask : Request) (table : List ℕ) where
  -- the number of variables
  abbrev n : ℕ
  n = ask.variables

  -- the left-inverted gate, joined
  inverted_joins : (u v : Bool) → joined (inverted_left gate) u v ≡ joined gate (not u) v
  inverted_joins = joined_of (λ a b. joined gate (not a) b)

  -- a pair for the left-inverted gate, its first function complemented, is one for the gate
  pub inverted_pair : Pair (inverted_left gate) ask table → Pair gate ask table
  inverted_pair p =
      record {
        first = λ i. not (p.first i);
        second = p.second;
        first_ignores = ignores_not n ask.right p.first p.first_ignores;
        second_ignores = p.second_ignores;
        admitted = λ i hi. subst (Allows (code table i)) (inverted_joins (p.first i) (p.second i)) (p.admitted i hi);
      }

  -- parts for the gate, the left one complemented, are parts for the left-inverted gate
  pub inverted_parts : (left right : List ℕ) → Parts gate ask table left right → Parts (inverted_left gate) ask table (map complement left) right
  inverted_parts left right p =
      let left_at : (i : ℕ) → i < 2 ^ n → i < length left = λ i hi. let l = p.left_long in omega arith in
      let left_room : 2 ^ n ≤ length left = let l = p.left_long in omega arith in
      record {
        left_long = length-map left complement ∙ p.left_long;
        right_long = p.right_long;
        left_codes = λ i hi. subst (λ c. c ≤ 2) (sym (code-complement left i (left_at i hi))) (complement_small (code left i) (p.left_codes i hi));
        right_codes = p.right_codes;
        left_ignores = ignores_complement n ask.right left left_room p.left_ignores;
        right_ignores = p.right_ignores;
        joins = λ i hi u v a b.
            subst (Allows (code table i)) (sym (inverted_joins u v)) (p.joins i hi (not u) v (row_allows_back left i u (left_at i hi) a) b);
        left_needs = λ k kn h. ignores_complement n (2 ^ k) left left_room (p.left_needs k kn h);
        right_needs = p.right_needs;
      }

module _ (count : ℕ) (gate : List Bool) (gives : Giving) (ask : Request) (lent : Rows) (left_row right_row : List ℕ) where
  -- the set below refuses
  pub inverted_refused : (refusal : SplitRefusal) → Refused count gate ask lent left_row right_row refusal
      → Refused count (inverted_left gate) ask lent left_row right_row refusal
  inverted_refused refusal =
      refused_from count count gate (inverted_left gate) ask ask lent lent left_row right_row refusal refl refl refl
      (λ e p. inverted_pair gate ask (table_in ask lent.table) p)

  -- the set below gives parts, and the left one is complemented
  pub inverted_parted : (left_row' : List ℕ) → left_row' ≡ complemented_to (unwrap_or (sized ask.variables) 0) left_row
      → Parted count gate gives ask lent left_row right_row
      → Parted count (inverted_left gate) (LeftInvertedGives gives) ask lent left_row' right_row
  inverted_parted left_row' left_now p =
      let m = 2 ^ ask.variables in
      let table = table_in ask lent.table in
      let known = points_known count ask lent p.passed in
      parted_by count ask lent (inverted_left gate) (LeftInvertedGives gives) (map complement p.left) p.right left_row' right_row p.passed
      (subst (λ x. gives ask table x p.right) (sym (complements_twice p.left)) p.given)
      (inverted_parts gate ask table p.left p.right p.parts)
      (left_now ∙ ap (λ k. complemented_to k left_row) known ∙ ap (complemented_to m) p.left_holds
      ∙ complement-laid p.left lent.left m p.parts.left_long)
      p.right_holds
