-- An element is pushed, and how a cell is visited.
use Rattle.std.proofs.Common.{◌≡◌, ℕ, ◌+◌, ◌-◌, ◌^◌, ◌<◌, ◌≤◌, [], ◌∷◌, ◌++◌, length, set, Ok, Err, Result, sym, refl, ap, ◌∙◌, inl, inr, arith, MatchResult}
use lib.Bits.{bit_and}
use Rattle.tables.specs.Groups.{clear}
use Rattle.tables.specs.Stacks.{held}
use Rattle.tables.specs.declared.stack.Stack.{Stack}
use Rattle.tables.specs.declared.stack.StackRefusal.{StackRefusal}
use Rattle.tables.specs.declared.stack.StackRefusal.TheVariants.{Full}
use Rattle.tables.proofs.Clearing.{clear_and, clear_le}
use Rattle.xorset.specs.Search.{IsCell, Visits}
use Rattle.xorset.specs.declared.frame.Side.TheVariants.{Left, Right}

-- an element is pushed where the stack has room
pub has_pushed : (before after : Stack ℕ) (element : ℕ) (r : Result (Unit {0}) StackRefusal)
    → MatchResult r
    (λ _. (held after ≡ held before ++ element ∷ []) × (before.len < length before.cells.now) × (after.len ≡ before.len + 1)
    × (after.cells.now ≡ set before.cells.now before.len element))
    (λ refusal. (refusal ≡ Full) × (after ≡ before) × (length (held before) ≡ length before.cells.now))
    → length (held before) < length before.cells.now → held after ≡ held before ++ element ∷ []
has_pushed before after element (Ok _) h room = h.0
has_pushed before after element (Err _) h room = absurd (let z : ⊥ = omega (arith, h.2) in z)

-- a left cell is visited by the right group
pub visits_left : (n l r c : ℕ) → r < 2 ^ n → c < 2 ^ n → IsCell n l r c → Visits n l r (record { cell = c; base = c; group = r; other = Right })
visits_left n l r c hr hc (i, hi, inr q) = absurd (let z : ⊥ = omega arith in z)
visits_left n l r c hr hc (i, hi, inl q) =
    record {
      group = hr;
      base = hc;
      apart = ap (λ x. bit_and x r) (sym q) ∙ clear_and r i;
      ends = λ j _ f. inl (f, refl);
      all = λ j _ f. elim f [ inl g ↦ g | inr g ↦ absurd (let z : ⊥ = omega arith in z) ];
    }

-- a right cell by the left group
pub visits_right : (n l r c points : ℕ) → l < 2 ^ n → points ≡ 2 ^ n → points ≤ c → IsCell n l r c
    → Visits n l r (record { cell = c; base = c - points; group = l; other = Left })
visits_right n l r c points hl e hc (i, hi, inl q) = absurd (let low = clear_le r i in let z : ⊥ = omega arith in z)
visits_right n l r c points hl e hc (i, hi, inr q) =
    let base : clear l i ≡ c - points = omega arith in
    record {
      group = hl;
      base = omega (arith, clear_le l i);
      apart = ap (λ x. bit_and x l) (sym base) ∙ clear_and l i;
      ends = λ j _ f. inr (omega arith, refl);
      all = λ j hj f. elim f [ inl g ↦ absurd (let low = clear_le r j in let z : ⊥ = omega arith in z) | inr g ↦ omega arith ];
    }
