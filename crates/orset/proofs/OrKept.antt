-- What the rule of OR says of a table: it refuses exactly a table without a pair, and its rows are parts.
use Rattle.std.proofs.Common.{◌≡◌, ℕ, ◌^◌, ◌<◌, ◌≤◌, Bool, true, false, not, ◌&&◌, ◌||◌, eqb, List, sym, refl, ap, ◌∙◌, subst, ap₂, inl, inr, arith}
use Rattle.std.proofs.lemmas.Bool.{and_parts, both_ways, cases_Bool, eq-eqb, eqb-true, not-false, not-true, or_from, or_left, or_parts, or_right}
use Rattle.tables.specs.Groups.{clear, within}
use Rattle.tables.specs.Tables.{Allows}
use Rattle.tables.proofs.Clearing.{SameCleared, agree_decides, ignores_cleared}
use Rattle.tables.proofs.Within.{Within, within_decides, within_here, within_same, within_still}
use Rattle.gatesets.specs.declared.request.Request.{Request}
use Rattle.gatesets.specs.Rules.{no_pair, two_parts}
use Rattle.gatesets.specs.Splits.{Pair, Parts, code}
use Rattle.gatesets.proofs.CodeRows.{codes_parts, joined_of, ruled_none, ruled_parts}
use Rattle.orset.specs.Or.{OrGives, code_by, lower_left, lower_right, or_gate, or_left_code, or_none, or_right_code, or_rule, upper}
use Rattle.orset.proofs.Marks.{fails_at, left_one_at, right_one_at, zero_at}
use Rattle.orset.proofs.Laying.{may_where_must, some_is}

-- a code is one of a table
code_small : (lower upper : Bool) → code_by lower upper ≤ 2
code_small true upper = omega arith
code_small false true = omega arith
code_small false false = omega arith

-- where the part may not be 1, and where it must be 1 only if it may, the code is 0
code_zero : (lower upper : Bool) → (lower ≡ true → upper ≡ true) → upper ≡ false → code_by lower upper ≡ 0
code_zero true upper h u = absurd (both_ways upper u (h refl))
code_zero false true h u = absurd (both_ways true u refl)
code_zero false false h u = refl

module _ (n : ℕ) (t : ℕ → ℕ) (l r : ℕ) where
  -- at a code 0 neither part may be 1
  upper_zero : (g i : ℕ) → i < 2 ^ n → t i ≡ 0 → upper (2 ^ n) t g i ≡ false
  upper_zero g i hi c = ap not (within_here (2 ^ n) g (zero_at t) i hi (eq-eqb _ _ c))

  -- where a part may be 1 depends on the cell alone
  upper_same : (g i j : ℕ) → clear g i ≡ clear g j → upper (2 ^ n) t g i ≡ upper (2 ^ n) t g j
  upper_same g i j e = ap not (within_same (2 ^ n) g (zero_at t) i j e)

  -- a function that ignores g and is 0 at every code 0 is 0 wherever the part may not be 1
  under : (g : ℕ) (f : ℕ → Bool) → SameCleared n g f → ((j : ℕ) → j < 2 ^ n → t j ≡ 0 → f j ≡ false)
      → (i : ℕ) → i < 2 ^ n → upper (2 ^ n) t g i ≡ false → f i ≡ false
  under g f same zero i hi barred = found ((within_decides (2 ^ n) g (zero_at t) i).0 (not-false _ barred))
    where
      found : Within (2 ^ n) g (zero_at t) i → f i ≡ false
      found (j, hj, (e, z)) = same i j hi hj e ∙ zero j hj (eqb-true _ _ z)

  module _ (stands : or_none (2 ^ n) t l r ≡ false) where
    -- the left part must be 1 only where it may
    left_under : (i : ℕ) → lower_left (2 ^ n) t l r i ≡ true → upper (2 ^ n) t r i ≡ true
    left_under i must = may_where_must (2 ^ n) t l r (2 ^ n) i stands must

    -- and the right part
    right_under : (i : ℕ) → i < 2 ^ n → lower_right (2 ^ n) t l r i ≡ true → upper (2 ^ n) t l i ≡ true
    right_under i hi h = found ((within_decides (2 ^ n) l (right_one_at (2 ^ n) t l r) i).0 h)
      where
        found : Within (2 ^ n) l (right_one_at (2 ^ n) t l r) i → upper (2 ^ n) t l i ≡ true
        found (j, hj, (e, both)) =
            let parts = and_parts (eqb (t j) 1) (not (lower_left (2 ^ n) t l r j)) both in
            elim (cases_Bool (upper (2 ^ n) t l j)) [
              | inl u ↦ upper_same l i j e ∙ u
              | inr u ↦
                  let must : lower_left (2 ^ n) t l r j ≡ true = within_here (2 ^ n) r (left_one_at (2 ^ n) t l) j hj (rw (parts.0, u) refl) in
                  absurd (both_ways _ (not-true _ parts.1) must)
            ]

    -- the rows join to what the table allows
    rows_join : (i : ℕ) → i < 2 ^ n → (u v : Bool) → Allows (or_left_code (2 ^ n) t l r i) u → Allows (or_right_code (2 ^ n) t l r i) v → Allows (t i) (u || v)
    rows_join i hi u v a b = (
      λ c.
          or_from u v (a.0 (code_zero _ _ (left_under i) (upper_zero r i hi c)))
          (b.0 (code_zero _ _ (right_under i hi) (upper_zero l i hi c))),
      λ c.
          elim (cases_Bool (lower_left (2 ^ n) t l r i)) [
            | inl k ↦ or_left u v (a.1 (ap (λ lower. code_by lower (upper (2 ^ n) t r i)) k))
            | inr k ↦ or_right u v (b.1 (ap (λ lower. code_by lower (upper (2 ^ n) t l i)) (within_here (2 ^ n) l (right_one_at (2 ^ n) t l r) i hi (rw (eq-eqb _ _ c, k) refl))))
          ],
    )

  module _ (k : ℕ) (still : SameCleared n k t) where
    -- where a part may be 1 depends on no variable on which the table does not
    upper_still : (g : ℕ) → SameCleared n k (upper (2 ^ n) t g)
    upper_still g i j hi hj e = ap not (within_still n g k (zero_at t) (λ i j hi hj e. ap (λ c. eqb c 0) (still i j hi hj e)) i j hi hj e)

    -- where it must be 1 likewise
    lower_still : (g : ℕ) (f : ℕ → Bool) → SameCleared n k f → SameCleared n k (within (2 ^ n) g (λ j. eqb (t j) 1 && not (f j)))
    lower_still g f same = within_still n g k _ (λ i j hi hj e. ap₂ (λ c b. eqb c 1 && not b) (still i j hi hj e) (same i j hi hj e))

    -- so for the left part
    left_lower : SameCleared n k (lower_left (2 ^ n) t l r)
    left_lower = lower_still r (upper (2 ^ n) t l) (upper_still l)

    -- neither row depends on a variable on which the table does not
    left_still : SameCleared n k (or_left_code (2 ^ n) t l r)
    left_still i j hi hj e = ap₂ code_by (left_lower i j hi hj e) (upper_still r i j hi hj e)

    -- and the right row
    right_still : SameCleared n k (or_right_code (2 ^ n) t l r)
    right_still i j hi hj e = ap₂ code_by (lower_still l (lower_left (2 ^ n) t l r) left_lower i j hi hj e) (upper_still l i j hi hj e)

module _ (ask : Request) (table : List ℕ) where
  -- the number of variables, the table and the groups
  abbrev n : ℕ
  n = ask.variables

  abbrev t : ℕ → ℕ
  t = code table

  abbrev l : ℕ
  l = ask.left

  abbrev r : ℕ
  r = ask.right

  -- a table that the rule refuses has no pair
  pub or_refused : or_rule ask table ≡ no_pair → Pair or_gate ask table → ⊥
  or_refused e p = found ((some_is (fails_at (2 ^ n) t l r) (2 ^ n)).0 (ruled_none _ _ _ e))
    where
      allowed : (i : ℕ) → i < 2 ^ n → Allows (t i) (p.first i || p.second i)
      allowed i hi = subst (Allows (t i)) (joined_of ◌||◌ (p.first i) (p.second i)) (p.admitted i hi)

      found : (i : ℕ) × (i < 2 ^ n) × (fails_at (2 ^ n) t l r i ≡ true) → ⊥
      found (i, hi, fails) =
          let (one, neither) = and_parts _ _ fails in
          let (no_r, no_l) = and_parts _ _ neither in
          let first : p.first i ≡ false =
          under n t l r r p.first (ignores_cleared n r p.first p.first_ignores) (λ j hj c. (or_parts _ _ ((allowed j hj).0 c)).0) i hi (not-true _ no_r) in
          let second : p.second i ≡ false =
          under n t l r l p.second (ignores_cleared n l p.second p.second_ignores) (λ j hj c. (or_parts _ _ ((allowed j hj).0 c)).1) i hi (not-true _ no_l) in
          both_ways _ (or_from _ _ first second) ((allowed i hi).1 (eqb-true _ _ one))

  -- the two parts of the rule
  pub or_parted : (left right : List ℕ) → or_rule ask table ≡ two_parts left right → Parts or_gate ask table left right
  or_parted left right e =
      let (stands, p, q) = ruled_parts _ _ _ left right e in
      rw (sym p, sym q)
      (codes_parts ◌||◌ ask table (or_left_code (2 ^ n) t l r) (or_right_code (2 ^ n) t l r) (λ i _. code_small (lower_left (2 ^ n) t l r i) (upper (2 ^ n) t r i))
      (λ i _. code_small (lower_right (2 ^ n) t l r i) (upper (2 ^ n) t l i))
      (λ i j hi hj e. ap₂ code_by (within_same (2 ^ n) r (left_one_at (2 ^ n) t l) i j e) (upper_same n t l r r i j e))
      (λ i j hi hj e. ap₂ code_by (within_same (2 ^ n) l (right_one_at (2 ^ n) t l r) i j e) (upper_same n t l r l i j e))
      (rows_join n t l r stands) (λ k _. left_still n t l r (2 ^ k)) (λ k _. right_still n t l r (2 ^ k)))

  -- are those that OR gives
  pub or_gives : (left right : List ℕ) → or_rule ask table ≡ two_parts left right → OrGives ask table left right
  or_gives left right e = record { rule = e; agrees = agree_decides n }
