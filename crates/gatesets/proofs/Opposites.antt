-- The opposite of a set: its gate has a pair for a table exactly when the gate below has one for the complemented table, and its parts are the complements.
use Rattle.std.proofs.Common.{◌≡◌, ℕ, ◌^◌, ◌<◌, ◌≤◌, Bool, not, List, map, length, None, unwrap_or, sym, refl, ap, ◌∙◌, subst, arith}
use mathlib.Core.Bool.{not-not}
use Rattle.std.proofs.lemmas.List.{length-map, length-take-le}
use Rattle.std.proofs.lemmas.Bool.{cond-true, lt-ltb}
use Rattle.tables.specs.Gates.{complement, joined}
use Rattle.tables.specs.Tables.{Allows, sized}
use Rattle.gatesets.specs.declared.refusal.SplitRefusal.{SplitRefusal}
use Rattle.gatesets.specs.declared.request.Request.{Request}
use Rattle.gatesets.specs.Derived.{OppositeGives, complemented_to, opposed, opposite_answering}
use Rattle.gatesets.specs.Splits.{Giving, Pair, Parted, Parts, Refused, Rows, code, early, rows, table_in}
use Rattle.gatesets.proofs.CodeRows.{joined_of}
use Rattle.gatesets.proofs.Complements.{code-complement, complement-laid, complement_small, complements_twice, ignores_complement, ignores_not, row_allows, row_allows_back, take_complemented}
use Rattle.gatesets.proofs.Outcomes.{parted_by, passed_facts}
use Rattle.gatesets.proofs.Transfers.{early_complemented, points_known, refused_from}

module _ (gate : List Bool) (ask : Request) (table : List ℕ) (long : length table ≡ 2 ^ ask.variables) where
  abbrev n : ℕ
  n = ask.variables

  -- the opposite gate, joined
  opposed_joins : (u v : Bool) → joined (opposed gate) u v ≡ not (joined gate (not u) (not v))
  opposed_joins = joined_of (λ a b. not (joined gate (not a) (not b)))

  -- a pair for the opposite gate, complemented, is one for the gate and the complemented table
  pub opposite_pair : Pair (opposed gate) ask table → Pair gate ask (map complement table)
  opposite_pair p =
      record {
        first = λ i. not (p.first i);
        second = λ i. not (p.second i);
        first_ignores = ignores_not n ask.right p.first p.first_ignores;
        second_ignores = ignores_not n ask.left p.second p.second_ignores;
        admitted = λ i hi.
            let u = p.first i in
            let v = p.second i in
            let inside : i < length table = omega arith in
            let twice : not (joined (opposed gate) u v) ≡ joined gate (not u) (not v) = ap not (opposed_joins u v) ∙ not-not _ in
            subst (Allows (code (map complement table) i)) twice (row_allows table i (joined (opposed gate) u v) inside (p.admitted i hi));
      }

  -- parts of the complemented table, complemented, are parts of the table for the opposite gate
  pub opposite_parts : (left right : List ℕ) → Parts gate ask (map complement table) left right
      → Parts (opposed gate) ask table (map complement left) (map complement right)
  opposite_parts left right p =
      let left_at : (i : ℕ) → i < 2 ^ n → i < length left = λ i hi. let l = p.left_long in omega arith in
      let right_at : (i : ℕ) → i < 2 ^ n → i < length right = λ i hi. let l = p.right_long in omega arith in
      let left_room : 2 ^ n ≤ length left = let l = p.left_long in omega arith in
      let right_room : 2 ^ n ≤ length right = let l = p.right_long in omega arith in
      let table_room : 2 ^ n ≤ length table = omega arith in
      record {
        left_long = length-map left complement ∙ p.left_long;
        right_long = length-map right complement ∙ p.right_long;
        left_codes = λ i hi. subst (λ c. c ≤ 2) (sym (code-complement left i (left_at i hi))) (complement_small (code left i) (p.left_codes i hi));
        right_codes = λ i hi. subst (λ c. c ≤ 2) (sym (code-complement right i (right_at i hi))) (complement_small (code right i) (p.right_codes i hi));
        left_ignores = ignores_complement n ask.right left left_room p.left_ignores;
        right_ignores = ignores_complement n ask.left right right_room p.right_ignores;
        joins = λ i hi u v a b.
            subst (Allows (code table i)) (sym (opposed_joins u v))
            (row_allows_back table i (joined gate (not u) (not v)) (omega arith)
            (p.joins i hi (not u) (not v) (row_allows_back left i u (left_at i hi) a) (row_allows_back right i v (right_at i hi) b)));
        left_needs = λ k kn h. ignores_complement n (2 ^ k) left left_room (p.left_needs k kn (ignores_complement n (2 ^ k) table table_room h));
        right_needs = λ k kn h. ignores_complement n (2 ^ k) right right_room (p.right_needs k kn (ignores_complement n (2 ^ k) table table_room h));
      }

module _ (count : ℕ) (answering : ℕ → List Bool) (gives : Giving) (ask : Request) (t a b v w : List ℕ) where
  -- the gate below, and its opposite
  abbrev gate : List Bool
  gate = answering ask.gate

  abbrev above : List Bool
  above = opposite_answering count answering ask.gate

  -- how many codes of a row are complemented
  abbrev front : ℕ
  front = unwrap_or (sized ask.variables) 0

  -- the rows that the set below gets, and those that were lent
  abbrev below : Rows
  below = rows (complemented_to front t) a b v w

  abbrev lent : Rows
  lent = rows t a b v w

  -- the table
  abbrev table : List ℕ
  table = table_in ask t

  -- where the checks pass, the gate number is one of the set, and the table has a code for each assignment
  gate_is : early count ask below ≡ None → above ≡ opposed gate
  gate_is e = cond-true _ _ _ (lt-ltb _ _ (passed_facts count ask below e).gate_below)

  -- then the table has a code for each assignment
  table_long : early count ask below ≡ None → length table ≡ 2 ^ ask.variables
  table_long e = length-take-le (2 ^ ask.variables) t (passed_facts count ask lent (sym (early_complemented count ask front t a b v w) ∙ e)).table_room

  -- and the set below gets its complement
  table_below : early count ask below ≡ None → table_in ask (complemented_to front t) ≡ map complement table
  table_below e = ap (λ k. table_in ask (complemented_to k t)) (points_known count ask below e) ∙ take_complemented (2 ^ ask.variables) t

  -- the set below refuses the complemented table
  pub opposite_refused : (t' left_row right_row : List ℕ) (refusal : SplitRefusal) → t' ≡ complemented_to front t
      → Refused count gate ask (rows t' a b v w) left_row right_row refusal → Refused count above ask lent left_row right_row refusal
  opposite_refused t' left_row right_row refusal complemented p =
      refused_from count count gate above ask ask below lent left_row right_row refusal (early_complemented count ask front t a b v w) refl refl
      (λ e q. subst (Pair gate ask) (sym (table_below e))
      (opposite_pair gate ask table (table_long e) (subst (λ g. Pair g ask table) (gate_is e) q)))
      (subst (λ row. Refused count gate ask (rows row a b v w) left_row right_row refusal) complemented p)

  -- the set below gives parts of the complemented table, and they are complemented
  parted_above : (left_row right_row : List ℕ) → Parted count gate gives ask below left_row right_row
      → Parted count above (OppositeGives gives) ask lent (complemented_to (2 ^ ask.variables) left_row) (complemented_to (2 ^ ask.variables) right_row)
  parted_above left_row right_row p =
      let m = 2 ^ ask.variables in
      let left = p.left in
      let right = p.right in
      let parts : Parts gate ask (map complement table) left right = subst (λ s. Parts gate ask s left right) (table_below p.passed) p.parts in
      let given : gives ask (map complement table) left right = subst (λ s. gives ask s left right) (table_below p.passed) p.given in
      parted_by count ask lent above (OppositeGives gives) (map complement left) (map complement right) _ _ (sym (early_complemented count ask front t a b v w) ∙ p.passed)
      (subst (λ x. gives ask (map complement table) x (map complement (map complement right))) (sym (complements_twice left))
      (subst (gives ask (map complement table) left) (sym (complements_twice right)) given))
      (subst (λ g. Parts g ask table (map complement left) (map complement right)) (sym (gate_is p.passed))
      (opposite_parts gate ask table (table_long p.passed) left right parts))
      (ap (complemented_to m) p.left_holds ∙ complement-laid left a m parts.left_long)
      (ap (complemented_to m) p.right_holds ∙ complement-laid right b m parts.right_long)

  -- the same, of the rows that the code has
  pub opposite_parted : (t' left_row right_row left_row' right_row' : List ℕ) → t' ≡ complemented_to front t
      → left_row' ≡ complemented_to front left_row → right_row' ≡ complemented_to front right_row
      → Parted count gate gives ask (rows t' a b v w) left_row right_row
      → Parted count above (OppositeGives gives) ask lent left_row' right_row'
  opposite_parted t' left_row right_row left_row' right_row' complemented left_now right_now p =
      let q : Parted count gate gives ask below left_row right_row =
      subst (λ row. Parted count gate gives ask (rows row a b v w) left_row right_row) complemented p in
      let known = points_known count ask below q.passed in
      subst (λ x. Parted count above (OppositeGives gives) ask lent x right_row') (sym (left_now ∙ ap (λ m. complemented_to m left_row) known))
      (subst (Parted count above (OppositeGives gives) ask lent _) (sym (right_now ∙ ap (λ m. complemented_to m right_row) known)) (parted_above left_row right_row q))
