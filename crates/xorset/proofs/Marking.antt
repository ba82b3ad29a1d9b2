-- The marking of the cells that have links, and the search at its start.
use Rattle.std.proofs.Common.{◌≡◌, ℕ, ◌+◌, ◌*◌, ◌^◌, ◌<◌, ◌≤◌, Bool, true, false, ◌&&◌, ◌||◌, eqb, ltb, ◌⊎◌, List, [], length, get_or, set, sym, refl, ap, ◌∙◌, inl, inr, add-one, arith}
use Rattle.std.proofs.lemmas.List.{length-set, get_or-set_same, get_or-set_other}
use Rattle.std.proofs.lemmas.List.Sums.{count_by-le-length}
use Rattle.std.proofs.lemmas.Bool.{cases_eq, cases_lt, eq-eqb, ne_eqb, lt-ltb, le-ltb, and_from, and_left, and_right}
use Rattle.tables.specs.Groups.{agree, clear, some}
use Rattle.tables.proofs.Clearing.{clear_le}
use Rattle.tables.proofs.Passing.{clash}
use Rattle.xorset.specs.Cells.{left_cell, right_cell}
use Rattle.xorset.specs.Xor.{linked}
use Rattle.xorset.proofs.Linking.{none_contained}
use Rattle.xorset.specs.Search.{Going, Marked, Stands, Waits, mark}

-- the row with two cells marked
abbrev both : List ℕ → ℕ → ℕ → List ℕ
both vs a b = set (set vs a 3) b 3

-- a cell is one of them, or as it was
abbrev Now : List ℕ → ℕ → ℕ → ℕ → Type 0
Now vs a b c = (((c ≡ a) ⊎ (c ≡ b)) × (get_or (both vs a b) c 2 ≡ 3)) ⊎ ((c ≡ a → ⊥) × (c ≡ b → ⊥) × (get_or (both vs a b) c 2 ≡ get_or vs c 2))

-- which of the two it is, or neither, is told by its number
two_marked : (vs : List ℕ) (a b c : ℕ) → a < length vs → b < length vs → Now vs a b c
two_marked vs a b c ha hb =
    elim (cases_eq c b) [
      | inl e ↦ inl (inr e, ap (λ x. get_or (both vs a b) x 2) e ∙ get_or-set_same (set vs a 3) b 3 2 (omega (arith, length-set vs a 3)))
      | inr ne ↦ elim (cases_eq c a) [
        | inl e ↦ inl (inl e, get_or-set_other (set vs a 3) b c 3 2 ne ∙ ap (λ x. get_or (set vs a 3) x 2) e ∙ get_or-set_same vs a 3 2 ha)
        | inr na ↦ inr (na, ne, get_or-set_other (set vs a 3) b c 3 2 ne ∙ get_or-set_other vs a c 3 2 na)
      ]
    ]

-- one assignment more: whether the cell of i has a link among those below m
abbrev has_link : (ℕ → ℕ) → ℕ → ℕ → ℕ → Bool
has_link t g i m = some m (λ j. agree g i j && ltb (t j) 2)

-- a cell that has the next link waits
mark_met : (b rest : Bool) → b ≡ true → 3 ≡ mark (b || rest)
mark_met true rest e = refl
mark_met false rest e = clash (cc)

-- one that does not is marked as before
mark_passed : (b rest : Bool) → b ≡ false → mark rest ≡ mark (b || rest)
mark_passed true rest e = clash (cc)
mark_passed false rest e = refl

-- the cell of an assignment with a link has that link
link_met : (t : ℕ → ℕ) (g i m : ℕ) → clear g i ≡ clear g m → t m < 2 → 3 ≡ mark (has_link t g i (m + 1))
link_met t g i m e h =
    rw add-one (mark_met (agree g i m && ltb (t m) 2) (has_link t g i m) (and_from (agree g i m) (ltb (t m) 2) (eq-eqb (clear g i) (clear g m) e) (lt-ltb (t m) 2 h)))

-- another cell, or the cell of an assignment without a link, has it not
link_passed : (t : ℕ → ℕ) (g i m : ℕ) → (clear g i ≡ clear g m → ⊥) ⊎ (2 ≤ t m) → mark (has_link t g i m) ≡ mark (has_link t g i (m + 1))
link_passed t g i m (inl ne) = rw add-one (mark_passed (agree g i m && ltb (t m) 2) (has_link t g i m) (and_left (agree g i m) (ltb (t m) 2) (ne_eqb (clear g i) (clear g m) ne)))
link_passed t g i m (inr le) = rw add-one (mark_passed (agree g i m && ltb (t m) 2) (has_link t g i m) (and_right (agree g i m) (ltb (t m) 2) (le-ltb (t m) 2 le)))

-- how a marked cell stands
marked_stands : (b : Bool) (v : ℕ) → v ≡ mark b → Stands b v
marked_stands true v e = inl e
marked_stands false v e = e

module _ (n : ℕ) (t : ℕ → ℕ) (l r : ℕ) where
  -- an assignment without a link
  pub mark_skip : (vs : List ℕ) (m : ℕ) → Marked n t l r m vs → 2 ≤ t m → Marked n t l r (m + 1) vs
  mark_skip vs m g h =
      record {
        left = λ i hi. g.left i hi ∙ link_passed t r i m (inr h);
        right = λ i hi. g.right i hi ∙ link_passed t l i m (inr h);
        cells = g.cells;
        none = g.none;
      }

  -- an assignment with a link
  pub mark_link : (vs : List ℕ) (m : ℕ) → Marked n t l r m vs → length vs ≡ 2 * 2 ^ n → m < 2 ^ n → t m < 2
      → Marked n t l r (m + 1) (set (set vs (left_cell r m) 3) (right_cell n l m) 3)
  mark_link vs m g long hm ht =
      record {
        left = λ i hi. left i hi (at (left_cell r i));
        right = λ i hi. right i hi (at (right_cell n l i));
        cells = λ c h. elim (at c) [
          | inl (inl e, _) ↦ (m, hm, inl (sym e))
          | inl (inr e, _) ↦ (m, hm, inr (sym e))
          | inr (_, _, q) ↦ g.cells c (λ e. h (q ∙ e))
        ];
        none = λ c h. elim (at c) [ inl (_, q) ↦ omega arith | inr (_, _, q) ↦ g.none c (omega arith) ];
      }
    where
      at : (c : ℕ) → Now vs (left_cell r m) (right_cell n l m) c
      at c = two_marked vs (left_cell r m) (right_cell n l m) c (omega (arith, clear_le r m)) (omega (arith, clear_le l m))

      left : (i : ℕ) → i < 2 ^ n → Now vs (left_cell r m) (right_cell n l m) (left_cell r i)
          → get_or (both vs (left_cell r m) (right_cell n l m)) (left_cell r i) 2 ≡ mark (has_link t r i (m + 1))
      left i hi (inl (inl e, q)) = q ∙ link_met t r i m e ht
      left i hi (inl (inr e, q)) = absurd (let low = clear_le r i in let z : ⊥ = omega arith in z)
      left i hi (inr (na, _, q)) = q ∙ g.left i hi ∙ link_passed t r i m (inl na)

      right : (i : ℕ) → i < 2 ^ n → Now vs (left_cell r m) (right_cell n l m) (right_cell n l i)
          → get_or (both vs (left_cell r m) (right_cell n l m)) (right_cell n l i) 2 ≡ mark (has_link t l i (m + 1))
      right i hi (inl (inl e, q)) = absurd (let low = clear_le r m in let z : ⊥ = omega arith in z)
      right i hi (inl (inr e, q)) = q ∙ link_met t l i m (omega arith) ht
      right i hi (inr (_, nb, q)) = q ∙ g.right i hi ∙ link_passed t l i m (inl (λ e. nb (ap (λ x. 2 ^ n + x) e)))

  -- a turn that marks the cells a and b
  pub mark_turn : (vs after : List ℕ) (m a b : ℕ) → Marked n t l r m vs → length vs ≡ 2 * 2 ^ n → m < 2 ^ n → t m < 2 → a ≡ left_cell r m → b ≡ right_cell n l m
      → after ≡ set (set vs a 3) b 3 → Marked n t l r (m + 1) after
  mark_turn vs after m a b g long hm ht ea eb e = rw (e, ea, eb) (mark_link vs m g long hm ht)

  -- the search begins: no cell has a value and none is to visit
  pub begin : (vs : List ℕ) → Marked n t l r (2 ^ n) vs → length vs ≡ 2 * 2 ^ n → Going n t l r vs [] (Waits n l r [])
  begin vs g long =
      record {
        long = long;
        cells = g.cells;
        left_stands = λ i hi. marked_stands (linked n t r i) _ (g.left i hi);
        right_stands = λ i hi. marked_stands (linked n t l i) _ (g.right i hi);
        extends = λ f met. (f, met, λ c h. absurd (g.none c h));
        links = λ i hi ht. inl (unvalued (left_cell r i), unvalued (right_cell n l i));
        rooted = λ c h. absurd (g.none c h);
        stacked = λ c z. absurd (none_contained c z);
        room = omega (arith, count_by-le-length (λ v. eqb v 3) vs);
      }
    where
      unvalued : (c : ℕ) → 2 ≤ get_or vs c 2
      unvalued c = elim (cases_lt (get_or vs c 2) 2) [ inl lt ↦ absurd (g.none c lt) | inr le ↦ le ]
