-- What the early checks say where the size and the rooms are known.
use Rattle.std.proofs.Common.{◌≡◌, ℕ, ◌-◌, ◌*◌, ◌^◌, ◌<◌, ◌≤◌, min, Bool, true, false, not, ltb, leb, [], ◌∷◌, length, take, Some, None, Ok, Err, Option, sym, refl, ap, ◌∙◌, arith}
use native.Mathlib.Nat.{sub-zero}
use Rattle.std.specs.List.{position}
use Rattle.std.specs.Option.{option_map}
use Rattle.std.specs.Bool.{then_some}
use Rattle.std.proofs.lemmas.Bool.{le-leb, lt-leb}
use Rattle.tables.specs.Checks.{answered, first, lowest}
use Rattle.tables.specs.Groups.{lawful_groups}
use Rattle.tables.specs.Tables.{lawful_size, sized}
use Rattle.tables.proofs.Positions.{position_front}
use Rattle.tables.proofs.Sizes.{sized-some}
use Rattle.gatesets.specs.declared.refusal.SplitRefusal.TheVariants.{Code, Gate, Groups}
use Rattle.gatesets.specs.declared.request.Request.{Request}
use Rattle.gatesets.specs.Splits.{Rows, code, early, roomy}

module _ (count : ℕ) (ask : Request) (lent : Rows) (points : ℕ) (known : Some points ≡ sized ask.variables)
    (codes : points ≤ min (min (length lent.table) (length lent.left)) (length lent.right)) (numbers : 2 * points ≤ min (length lent.first) (length lent.second)) where
  -- the size is lawful, and known
  size : (lawful_size ask.variables ≡ true) × (points ≡ 2 ^ ask.variables)
  size = sized-some ask.variables points known

  -- every row is long enough
  room : roomy ask.variables lent ≡ true
  room =
      let same = size.1 in
      rw (
        le-leb (2 ^ ask.variables) (length lent.table) (omega arith),
        le-leb (2 ^ ask.variables) (length lent.left) (omega arith),
        le-leb (2 ^ ask.variables) (length lent.right) (omega arith),
        le-leb (2 * 2 ^ ask.variables) (length lent.first) (omega arith),
        le-leb (2 * 2 ^ ask.variables) (length lent.second) (omega arith),
      ) refl

  -- so the last three checks are left
  early_late : (wrong : Option ℕ) (numbered lawful : Bool) → wrong ≡ position (λ c. ltb 2 c) (take (points - 0) lent.table)
      → leb count ask.gate ≡ numbered → lawful_groups ask.variables ask.left ask.right ≡ lawful
      → early count ask lent ≡ first (option_map Code wrong ∷ then_some numbered Gate ∷ then_some (not lawful) Groups ∷ [])
  early_late wrong numbered lawful found number groups =
      let same = size.1 in
      let front : points - 0 ≡ 2 ^ ask.variables = sub-zero points ∙ same in
      let lowest_is : lowest (2 ^ ask.variables) (λ i. ltb 2 (code lent.table i)) ≡ wrong =
      sym (found ∙ ap (λ k. position (λ c. ltb 2 c) (take k lent.table)) front ∙ position_front (λ c. ltb 2 c) lent.table 0 (2 ^ ask.variables) (omega arith)) in
      rw (size.0, room, lowest_is, number, groups) refl

  -- the answer where a code is wrong
  pub refused_code : (index : ℕ) → Some index ≡ position (λ c. ltb 2 c) (take (points - 0) lent.table) → Err (Code index) ≡ answered (early count ask lent) (2 ^ ask.variables)
  refused_code index found = ap (λ o. answered o (2 ^ ask.variables)) (sym (early_late (Some index) _ _ found refl refl))

  module _ (found : None ≡ position (λ c. ltb 2 c) (take (points - 0) lent.table)) where
    -- else where the gate number is none of the set's
    pub refused_gate : count ≤ ask.gate → Err Gate ≡ answered (early count ask lent) (2 ^ ask.variables)
    refused_gate past = ap (λ o. answered o (2 ^ ask.variables)) (sym (early_late None _ _ found (le-leb _ _ past) refl))

    -- else where the groups are not lawful
    pub refused_groups : ask.gate < count → lawful_groups ask.variables ask.left ask.right ≡ false → Err Groups ≡ answered (early count ask lent) (2 ^ ask.variables)
    refused_groups below groups = ap (λ o. answered o (2 ^ ask.variables)) (sym (early_late None false false found (lt-leb _ _ below) groups))

    -- else all checks pass
    pub checks_passed : ask.gate < count → lawful_groups ask.variables ask.left ask.right ≡ true → Ok points ≡ answered (early count ask lent) (2 ^ ask.variables)
    checks_passed below groups =
        ap Ok size.1 ∙ ap (λ o. answered o (2 ^ ask.variables)) (sym (early_late None false true found (lt-leb _ _ below) groups))
