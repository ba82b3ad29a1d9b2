-- What the rule of XOR says of a table: it refuses only a table without a pair, its rows are parts, and values of the cells found elsewhere give the same rows.
use Rattle.std.proofs.Common.{◌≡◌, ℕ, zero, suc, ◌+◌, ◌-◌, ◌^◌, ◌<◌, ◌≤◌, Bool, true, false, cond, ltb, List, get_or, sym, refl, ap, ◌∙◌, subst, ap₂, inl, inr, arith}
use Rattle.std.proofs.lemmas.Bool.{both_ways, cases_Bool, cond-false, cond-true, le-ltb, lt-ltb}
use Rattle.tables.specs.Groups.{clear}
use Rattle.tables.specs.Tables.{Allows}
use Rattle.tables.proofs.Clearing.{SameCleared, clear_again, clear_le, ignores_cleared}
use Rattle.gatesets.specs.declared.request.Request.{Request}
use Rattle.gatesets.specs.Rules.{codes, no_pair, ruled, two_parts}
use Rattle.gatesets.specs.Splits.{Pair, Parts, code}
use Rattle.xorset.specs.Cells.{Meets, Values, is_one, left_cell, right_cell, xor}
use Rattle.xorset.specs.Xor.{XorGives, linked, value_code, xor_gate, xor_left_code, xor_none, xor_right_code, xor_rule, xor_value}
use Rattle.gatesets.proofs.CodeRows.{codes_parts, codes_same, joined_of, ruled_none, ruled_parts}
use Rattle.xorset.proofs.Labels.{linked_cell, linked_decides, valued}
use Rattle.xorset.proofs.XorStill.{left_still, right_still}
use Rattle.xorset.proofs.XorValues.{only, value_met, values}

-- a value that a code 0 or 1 allows is that of the code
allowed_value : (c : ℕ) (v : Bool) → Allows c v → c < 2 → v ≡ is_one c
allowed_value zero v a h = a.0 refl
allowed_value (suc zero) v a h = a.1 refl
allowed_value (suc (suc c)) v a h = absurd (omega arith)

-- and a code allows that value
value_allowed : (c : ℕ) (v : Bool) → (c < 2 → v ≡ is_one c) → Allows c v
value_allowed c v h = (λ e. h (omega arith) ∙ ap is_one e, λ e. h (omega arith) ∙ ap is_one e)

-- the code of a cell with links allows its value alone
value_is : (b v x : Bool) → b ≡ true → Allows (value_code b v) x → x ≡ v
value_is true true x e a = a.1 refl
value_is true false x e a = a.0 refl
value_is false v x e a = absurd (both_ways false refl e)

-- the code of a cell is one of a table
value_code_lem : (b v : Bool) → value_code b v ≤ 2
value_code_lem true true = omega arith
value_code_lem true false = omega arith
value_code_lem false v = omega arith

module _ (ask : Request) (table : List ℕ) where
  -- the number of variables, the table and the groups
  abbrev n : ℕ
  n = ask.variables

  abbrev t : ℕ → ℕ
  t = code table

  abbrev l : ℕ
  l = ask.left

  abbrev r : ℕ
  r = ask.right

  -- a pair of functions for the table
  module _ (p : Pair xor_gate ask table) where
    -- it gives the cells values
    abbrev worth : ℕ → Bool
    worth c = cond (ltb c (2 ^ n)) (p.first c) (p.second (c - 2 ^ n))

    -- a left cell has that of the first function
    worth_left : (i : ℕ) → i < 2 ^ n → worth (left_cell r i) ≡ p.first i
    worth_left i hi =
        let k : left_cell r i < 2 ^ n = omega (arith, clear_le r i) in
        cond-true _ _ _ (lt-ltb _ _ k) ∙ ignores_cleared n r p.first p.first_ignores _ i k hi (clear_again r i)

    -- a right cell has that of the second
    worth_right : (i : ℕ) → i < 2 ^ n → worth (right_cell n l i) ≡ p.second i
    worth_right i hi =
        let k : clear l i < 2 ^ n = omega (arith, clear_le l i) in
        let z : right_cell n l i - 2 ^ n ≡ clear l i = omega arith in
        cond-false _ _ _ (le-ltb (right_cell n l i) (2 ^ n) (omega arith)) ∙ ap p.second z
        ∙ ignores_cleared n l p.second p.second_ignores _ i k hi (clear_again l i)

    -- and they meet the links
    worth_met : Meets n t l r worth (2 ^ n)
    worth_met i hi h =
        ap₂ xor (worth_left i hi) (worth_right i hi)
        ∙ allowed_value (t i) _ (subst (Allows (t i)) (joined_of xor (p.first i) (p.second i)) (p.admitted i hi)) h

  -- so a table that the rule refuses has no pair
  pub xor_refused : xor_rule ask table ≡ no_pair → Pair xor_gate ask table → ⊥
  xor_refused e p = both_ways (xor_none n t l r) (valued n t l r (worth p) (2 ^ n) (worth_met p)).1 (ruled_none _ _ _ e)

  -- where no values meet the links, the rule refuses
  pub values_none : ((f : ℕ → Bool) → Meets n t l r f (2 ^ n) → ⊥) → xor_rule ask table ≡ no_pair
  values_none h =
      elim (cases_Bool (xor_none n t l r)) [
        | inl e ↦ ap (λ b. ruled b (codes n (xor_left_code n t l r)) (codes n (xor_right_code n t l r))) e
        | inr e ↦ absurd (h (xor_value n t l r) (value_met n t l r e))
      ]

  -- the left row of the rule has one code for each left cell
  left_in_cell : SameCleared n r (xor_left_code n t l r)
  left_in_cell i j hi hj e = ap₂ value_code (linked_cell n t r i j hi hj e) (ap (xor_value n t l r) e)

  -- and the right row for each right cell
  right_in_cell : SameCleared n l (xor_right_code n t l r)
  right_in_cell i j hi hj e = ap₂ value_code (linked_cell n t l i j hi hj e) (ap (λ c. xor_value n t l r (2 ^ n + c)) e)

  -- where the rule does not refuse, they join to what the table allows: the cells of a code 0 or 1 have a link
  rows_join : xor_none n t l r ≡ false → (i : ℕ) → i < 2 ^ n → (u v : Bool) → Allows (xor_left_code n t l r i) u → Allows (xor_right_code n t l r i) v → Allows (t i) (xor u v)
  rows_join w i hi u v a b =
      value_allowed (t i) (xor u v)
      (λ h.
      ap₂ xor (value_is _ _ u ((linked_decides n t r i).1 (i, hi, (refl, h))) a) (value_is _ _ v ((linked_decides n t l i).1 (i, hi, (refl, h))) b)
      ∙ value_met n t l r w i hi h)

  -- so the rows are parts
  row_parts : xor_none n t l r ≡ false → Parts xor_gate ask table (codes n (xor_left_code n t l r)) (codes n (xor_right_code n t l r))
  row_parts w =
      codes_parts xor ask table (xor_left_code n t l r) (xor_right_code n t l r) (λ i _. value_code_lem (linked n t r i) (xor_value n t l r (left_cell r i)))
      (λ i _. value_code_lem (linked n t l i) (xor_value n t l r (right_cell n l i))) left_in_cell right_in_cell (rows_join w) (λ k kn. left_still n t l r k kn w)
      (λ k kn. right_still n t l r k kn w)

  -- the two parts of the rule
  pub xor_parted : (left right : List ℕ) → xor_rule ask table ≡ two_parts left right → Parts xor_gate ask table left right
  xor_parted left right e = let (w, p, q) = ruled_parts _ _ _ left right e in rw (sym p, sym q) (row_parts w)

  -- and they are the parts that XOR gives
  pub xor_gives : (left right : List ℕ) → xor_rule ask table ≡ two_parts left right → XorGives ask table left right
  xor_gives left right e =
      let w : xor_none n t l r ≡ false = (ruled_parts _ _ _ left right e).0 in
      record { rule = e; values = values n t l r w; only = only n t l r w }

  -- the rows of any values of the cells, free where a cell has no link, are those of the rule
  pub values_parts : (vs : List ℕ) → Values n t l r (λ c. is_one (get_or vs c 2))
      → ((i : ℕ) → i < 2 ^ n → get_or vs (left_cell r i) 2 ≡ value_code (linked n t r i) (is_one (get_or vs (left_cell r i) 2)))
      → ((i : ℕ) → i < 2 ^ n → get_or vs (right_cell n l i) 2 ≡ value_code (linked n t l i) (is_one (get_or vs (right_cell n l i) 2)))
      → (left right : List ℕ) → left ≡ codes n (λ i. get_or vs (left_cell r i) 2) → right ≡ codes n (λ i. get_or vs (right_cell n l i) 2)
      → xor_rule ask table ≡ two_parts left right
  values_parts vs h a b left right p q =
      ap (λ x. ruled x (codes n (xor_left_code n t l r)) (codes n (xor_right_code n t l r))) w
      ∙ ap₂ two_parts
      (codes_same n _ _ (λ i hi. ap (value_code (linked n t r i)) (sym (same (left_cell r i))) ∙ sym (a i hi)) ∙ sym p)
      (codes_same n _ _ (λ i hi. ap (value_code (linked n t l i)) (sym (same (right_cell n l i))) ∙ sym (b i hi)) ∙ sym q)
    where
      w : xor_none n t l r ≡ false
      w = (valued n t l r (λ c. is_one (get_or vs c 2)) (2 ^ n) h.met).1

      same : (c : ℕ) → is_one (get_or vs c 2) ≡ xor_value n t l r c
      same = only n t l r w (λ c. is_one (get_or vs c 2)) h
