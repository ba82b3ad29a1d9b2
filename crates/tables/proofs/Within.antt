-- A test at some assignment that agrees with another outside a group.
use Rattle.std.proofs.Common.{◌≡◌, ℕ, ◌^◌, ◌<◌, Bool, true, ◌&&◌, eqb, Decides, sym, refl, ap, ◌∙◌}
use Rattle.std.proofs.lemmas.Bool.Decides.{Decides-and, Decides-eqb, Decides-like, same_from_decides}
use Rattle.tables.specs.Groups.{clear, some, within}
use Rattle.tables.proofs.Bounded.{itself, some_decides}
use Rattle.tables.proofs.Clearing.{SameCleared, diamond}

-- some assignment below m that is the same as i when cleared of g passes the test
abbrev pub Within : ℕ → ℕ → (ℕ → Bool) → ℕ → Type 0
Within m g p i = (j : ℕ) × (j < m) × ((clear g i ≡ clear g j) × (p j ≡ true))

-- the test finds exactly that
pub within_decides : (m g : ℕ) (p : ℕ → Bool) (i : ℕ) → Decides (within m g p i) (Within m g p i)
within_decides m g p i = some_decides _ _ (λ j. Decides-and _ _ (Decides-eqb _ _) (itself (p j))) m

-- an assignment that passes finds itself
pub within_here : (m g : ℕ) (p : ℕ → Bool) (i : ℕ) → i < m → p i ≡ true → within m g p i ≡ true
within_here m g p i below e = (within_decides m g p i).1 (i, below, (refl, e))

-- the test is the same at assignments that are the same when cleared of the group
pub within_same : (m g : ℕ) (p : ℕ → Bool) (i j : ℕ) → clear g i ≡ clear g j → within m g p i ≡ within m g p j
within_same m g p i j e = ap (λ c. some m (λ k. eqb c (clear g k) && p k)) e

-- it ignores every other group that the test on single assignments ignores
pub within_still : (n g h : ℕ) (p : ℕ → Bool) → SameCleared n h p → SameCleared n h (within (2 ^ n) g p)
within_still n g h p still i j hi hj e =
    same_from_decides _ _ (within_decides (2 ^ n) g p i) (Decides-like _ (over j i hj hi (sym e)) (over i j hi hj e) (within_decides (2 ^ n) g p j))
  where
    over : (i j : ℕ) → i < 2 ^ n → j < 2 ^ n → clear h i ≡ clear h j → Within (2 ^ n) g p i → Within (2 ^ n) g p j
    over i j hi hj e (k, hk, (a, passes)) =
        let (x, hx, c, d) = diamond n h g i j k hi hj hk e a in
        (x, hx, (d, sym (still k x hk hx c) ∙ passes))
