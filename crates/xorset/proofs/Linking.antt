-- Links and the values of their two cells.
use Rattle.std.proofs.Common.{◌≡◌, ℕ, ◌^◌, ◌<◌, Bool, true, false, cond, not, ◌⊎◌, List, [], get_or, sym, refl, ap, ◌∙◌, ap₂, inl, inr, arith}
use Rattle.std.specs.List.{Contains}
use Rattle.std.proofs.lemmas.Bool.Decides.{nat_tests}
use Rattle.tables.proofs.Passing.{clash}
use Rattle.xorset.specs.Cells.{Meets, Together, is_one, xor}
use Rattle.xorset.specs.Xor.{linked}
use Rattle.xorset.proofs.Labels.{IsLinked, linked_decides}
use Rattle.xorset.specs.Search.{Ends, Settled, Stands, wanted}

-- nothing is in an empty list
pub none_contained : (c : ℕ) → Contains [] c → ⊥
none_contained c (k, lt, _) = omega arith

-- differing is symmetric, and tells one value from the other
pub xor_comm : (a b : Bool) → xor a b ≡ xor b a
xor_comm true true = refl
xor_comm true false = refl
xor_comm false true = refl
xor_comm false false = refl

-- the second value follows from the first and how they differ
pub xor_solve : (a b c : Bool) → xor a b ≡ c → b ≡ xor a c
xor_solve true true c e = ap not e
xor_solve true false c e = ap not e
xor_solve false b c e = e

-- and then they differ so
pub xor_back : (a c : Bool) → xor a (xor a c) ≡ c
xor_back true true = refl
xor_back true false = refl
xor_back false c = refl

-- both values change and differ as before
pub xor_flip : (a b : Bool) → xor (not a) (not b) ≡ xor a b
xor_flip true true = refl
xor_flip true false = refl
xor_flip false true = refl
xor_flip false false = refl

-- a value as a number and as a truth value
pub one_cond : (b : Bool) → is_one (cond b 1 0) ≡ b
one_cond true = refl
one_cond false = refl

-- a truth value as a number is a value
pub cond_small : (b : Bool) → cond b 1 0 < 2
cond_small true = omega arith
cond_small false = omega arith

-- a value is the number of its truth value
pub cond_one : (v : ℕ) → v < 2 → v ≡ cond (is_one v) 1 0
cond_one v h = grind (arith, nat_tests)

-- the wanted value differs by the code
pub wanted_one : (v c : ℕ) → is_one (wanted v c) ≡ xor (is_one v) (is_one c)
wanted_one v c = one_cond (xor (is_one v) (is_one c))

-- and is a value
pub wanted_small : (v c : ℕ) → wanted v c < 2
wanted_small v c = cond_small (xor (is_one v) (is_one c))

-- a cell with a link is not free
pub stands_linked : (b : Bool) (v : ℕ) → b ≡ true → Stands b v → (v ≡ 3) ⊎ (v < 2)
stands_linked true v e h = h
stands_linked false v e h = clash (cc)

module _ (n : ℕ) (t : ℕ → ℕ) where
  -- the cells of a link are linked
  pub link_linked : (g i : ℕ) → i < 2 ^ n → t i < 2 → linked n t g i ≡ true
  link_linked g i hi ht = (linked_decides n t g i).1 (i, hi, (refl, ht))

  -- a linked cell is the cell of a link
  pub linked_link : (g i : ℕ) → linked n t g i ≡ true → IsLinked n t g i
  linked_link g i e = (linked_decides n t g i).0 e

  module _ (l r : ℕ) where
    -- the cells of a link are in one class
    pub ends_together : (i x y : ℕ) → i < 2 ^ n → t i < 2 → Ends n l r i x y → Together n t l r y x
    ends_together i x y hi ht (inl (a, b)) s closed = ap s (sym b) ∙ sym (closed i hi ht) ∙ ap s a
    ends_together i x y hi ht (inr (a, b)) s closed = ap s (sym b) ∙ closed i hi ht ∙ ap s a

    -- and values that meet the links differ there by the code
    pub ends_met : (f : ℕ → Bool) (i x y : ℕ) → Meets n t l r f (2 ^ n) → i < 2 ^ n → t i < 2 → Ends n l r i x y → f y ≡ xor (f x) (is_one (t i))
    ends_met f i x y met hi ht (inl (a, b)) = xor_solve (f x) (f y) (is_one (t i)) (ap₂ (λ c d. xor (f c) (f d)) (sym a) (sym b) ∙ met i hi ht)
    ends_met f i x y met hi ht (inr (a, b)) =
        xor_solve (f x) (f y) (is_one (t i)) (xor_comm (f x) (f y) ∙ ap₂ (λ c d. xor (f c) (f d)) (sym b) (sym a) ∙ met i hi ht)

    -- a link is settled when its cells differ by its code
    pub ends_settled : (vs : List ℕ) (i x y : ℕ) → Ends n l r i x y → get_or vs x 2 < 2 → get_or vs y 2 < 2
        → xor (is_one (get_or vs x 2)) (is_one (get_or vs y 2)) ≡ is_one (t i) → Settled n t l r vs i
    ends_settled vs i x y (inl (a, b)) hx hy e = rw (a, b) (hx, hy, e)
    ends_settled vs i x y (inr (a, b)) hx hy e = rw (a, b) (hy, hx, xor_comm (is_one (get_or vs y 2)) (is_one (get_or vs x 2)) ∙ e)
