-- How the split of a base set ended, by what it did with the fronts of the part rows.
use Rattle.std.proofs.Common.{◌≡◌, ℕ, ◌-◌, ◌*◌, ◌^◌, ◌<◌, Bool, cond, List, ◌++◌, length, take, drop, None, Ok, Err, sym, refl, ap, ◌∙◌, subst, inl, inr, arith, take-append-drop}
use native.Mathlib.Nat.{sub-zero}
use Rattle.std.proofs.lemmas.List.{length-take-le}
use Rattle.std.proofs.lemmas.Bool.{eq-eqb}
use Rattle.tables.specs.Gates.{no_answers}
use Rattle.tables.specs.Checks.{answered}
use Rattle.tables.proofs.Passing.{answered_err, answered_ok}
use Rattle.gatesets.specs.declared.refusal.SplitRefusal.{SplitRefusal}
use Rattle.gatesets.specs.declared.refusal.SplitRefusal.TheVariants.{NoPair}
use Rattle.gatesets.specs.declared.request.Request.{Request}
use Rattle.gatesets.specs.Splits.{Giving, Pair, Parts, Refused, Rows, Split, early, table_in}
use Rattle.gatesets.specs.Rules.{only_gate}
use Rattle.gatesets.proofs.Outcomes.{parted_by, passed_facts}

-- a set with one gate has no other number
only_gate_lem : (gate : List Bool) (k : ℕ) → k < 1 → only_gate gate k ≡ gate
only_gate_lem gate k below = ap (λ b. cond b gate no_answers) (eq-eqb k 0 (omega arith))

-- a split that is refused by an early check leaves the part rows
pub refused_early : (count : ℕ) (gate : List Bool) (ask : Request) (lent : Rows) (refusal : SplitRefusal) → Err refusal ≡ answered (early count ask lent) (2 ^ ask.variables)
    → Refused count gate ask lent lent.left lent.right refusal
refused_early count gate ask lent refusal e =
    record { reason = inl (answered_err (early count ask lent) (2 ^ ask.variables) refusal (sym e)); left_same = refl; right_same = refl }

module _ (gate : List Bool) (gives : Giving) (ask : Request) (lent : Rows) (points : ℕ) (checked : Ok points ≡ answered (early 1 ask lent) (2 ^ ask.variables)) where
  -- no check refuses
  passed : early 1 ask lent ≡ None
  passed = (answered_ok (early 1 ask lent) (2 ^ ask.variables) points (sym checked)).0

  -- the front of a row is as long as the table
  front : points - 0 ≡ 2 ^ ask.variables
  front = sub-zero points ∙ sym (answered_ok (early 1 ask lent) (2 ^ ask.variables) points (sym checked)).1

  -- so are the fronts of the table's row and of the part rows
  pub codes_long : (length (take (points - 0) lent.table) ≡ 2 ^ ask.variables)
      × ((length (take (points - 0) lent.left) ≡ 2 ^ ask.variables) × (length (take (points - 0) lent.right) ≡ 2 ^ ask.variables))
  codes_long =
      let room = passed_facts 1 ask lent passed in
      rw front (length-take-le _ _ room.table_room, (length-take-le _ _ room.left_room, length-take-le _ _ room.right_room))

  -- and those of the work rows twice as long
  pub numbers_long : (length (take (2 * points - 0) lent.first) ≡ 2 * 2 ^ ask.variables) × (length (take (2 * points - 0) lent.second) ≡ 2 * 2 ^ ask.variables)
  numbers_long =
      let room = passed_facts 1 ask lent passed in
      let twice : 2 * points - 0 ≡ 2 * 2 ^ ask.variables = sub-zero (2 * points) ∙ ap (λ k. 2 * k) (sym (sub-zero points) ∙ front) in
      rw twice (length-take-le _ _ room.first_room, length-take-le _ _ room.second_room)

  -- the gate that is asked for
  asked : only_gate gate ask.gate ≡ gate
  asked = only_gate_lem gate ask.gate (passed_facts 1 ask lent passed).gate_below

  -- the fronts hold two parts of the table
  pub based_parts : (left right : List ℕ) → gives ask (take (points - 0) lent.table) left right → Parts gate ask (take (points - 0) lent.table) left right
      → Split 1 (only_gate gate ask.gate) gives ask lent (left ++ drop (points - 0) lent.left) (right ++ drop (points - 0) lent.right) (Ok tt)
  based_parts left right given parts =
      let whole : Parts gate ask (table_in ask lent.table) left right = subst (λ k. Parts gate ask (take k lent.table) left right) front parts in
      parted_by 1 ask lent (only_gate gate ask.gate) gives left right _ _ passed (subst (λ k. gives ask (take k lent.table) left right) front given)
      (subst (λ g. Parts g ask (table_in ask lent.table) left right) (sym asked) whole)
      (ap (λ k. left ++ drop k lent.left) (front ∙ sym whole.left_long))
      (ap (λ k. right ++ drop k lent.right) (front ∙ sym whole.right_long))

  -- the fronts are as they were, since there is no pair
  pub based_none : (left right : List ℕ) → (Pair gate ask (take (points - 0) lent.table) → ⊥) → left ≡ take (points - 0) lent.left → right ≡ take (points - 0) lent.right
      → Split 1 (only_gate gate ask.gate) gives ask lent (left ++ drop (points - 0) lent.left) (right ++ drop (points - 0) lent.right) (Err NoPair)
  based_none left right none a b =
      record {
        reason = inr (passed, refl, subst (λ g. Pair g ask (table_in ask lent.table) → ⊥) (sym asked) (subst (λ k. Pair gate ask (take k lent.table) → ⊥) front none));
        left_same = ap (λ x. x ++ drop (points - 0) lent.left) a ∙ take-append-drop (points - 0) lent.left;
        right_same = ap (λ x. x ++ drop (points - 0) lent.right) b ∙ take-append-drop (points - 0) lent.right;
      }
