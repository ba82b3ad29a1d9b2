-- Cells while a pass over the assignments lays one code at some of them.
use Rattle.std.proofs.Common.{◌≡◌, ℕ, ◌+◌, ◌<◌, Bool, true, false, cond, not, ◌&&◌, ◌||◌, eqb, ◌⊎◌, length, get_or, set, sym, refl, ap, ◌∙◌, subst, inl, inr, add-one, arith, length-set}
use Rattle.std.proofs.lemmas.List.{get_or-set_same, get_or-set_other}
use Rattle.std.proofs.lemmas.Bool.{cases_eq, eq-eqb, ne_eqb}
use Rattle.tables.specs.Groups.{clear, within}
use Rattle.tables.proofs.Clearing.{clear_again, clear_le}
use Rattle.orset.specs.declared.cells.Cells.{Cells}
use Rattle.orset.specs.Cells.{Hold}
use Rattle.orset.specs.Or.{upper, lower_left}

-- an assignment that makes its cells 0
abbrev pub zero_at : (ℕ → ℕ) → ℕ → Bool
zero_at t i = eqb (t i) 0

-- one that makes its left cell 1
abbrev pub left_one_at : ℕ → (ℕ → ℕ) → ℕ → ℕ → Bool
left_one_at m t l i = eqb (t i) 1 && not (upper m t l i)

-- one that makes its right cell 1
abbrev pub right_one_at : ℕ → (ℕ → ℕ) → ℕ → ℕ → ℕ → Bool
right_one_at m t l r i = eqb (t i) 1 && not (lower_left m t l r i)

-- one where neither part may be 1
abbrev pub fails_at : ℕ → (ℕ → ℕ) → ℕ → ℕ → ℕ → Bool
fails_at m t l r i = eqb (t i) 1 && (not (upper m t r i) && not (upper m t l i))

-- the cells have the code v where one of the first k assignments of the cell passes a test, and elsewhere the code that they had
pub record Marked (m g : ℕ) (p : ℕ → Bool) (v : ℕ) (had : ℕ → ℕ) (k : ℕ) (cells : Cells) : Type 0 where
  pub held : Hold m g (λ i. cond (within k g p i) v (had i)) cells

-- the code that is read at the cell of an assignment
pub code_held : (m g : ℕ) (f : ℕ → ℕ) (cells : Cells) → Hold m g f cells → (i read : ℕ) → i < m → read ≡ get_or cells.codes.now (clear cells.ignored i) 0 → f i ≡ read
code_held m g f cells h i read below e = sym (e ∙ ap (λ x. get_or cells.codes.now (clear x i) 0) h.group ∙ h.codes i below)

module _ (m g : ℕ) (p : ℕ → Bool) (v : ℕ) (had : ℕ → ℕ) where
  -- one assignment more of a cell
  within-suc : (k i : ℕ) (here passes : Bool) → eqb (clear g i) (clear g k) ≡ here → p k ≡ passes → within (k + 1) g p i ≡ (here && passes) || within k g p i
  within-suc k i here passes e h = rw (add-one, e, h) refl

  -- the assignment k fails the test: the cells are as they were
  pub mark_kept : (k : ℕ) (cells : Cells) → p k ≡ false → Marked m g p v had k cells → Marked m g p v had (k + 1) cells
  mark_kept k cells fails h =
      record {
        held = record {
          group = h.held.group;
          long = h.held.long;
          codes = λ i inside.
              h.held.codes i inside
              ∙ ap (λ b. cond b v (had i)) (sym (within-suc k i (eqb (clear g i) (clear g k)) false refl fails ∙ and_false (eqb (clear g i) (clear g k)) (within k g p i)));
          rest = h.held.rest;
        };
      }
    where
      and_false : (a b : Bool) → (a && false) || b ≡ b
      and_false true b = refl
      and_false false b = refl

  -- it passes: the code is laid at its cell
  pub mark_more : (k : ℕ) (cells cells' : Cells) → cells'.ignored ≡ cells.ignored → cells'.codes.now ≡ set cells.codes.now (clear cells.ignored k) v
      → p k ≡ true → k < m → Marked m g p v had k cells → Marked m g p v had (k + 1) cells'
  mark_more k cells cells' kept laid passes below h =
      record {
        held = record {
          group = kept ∙ h.held.group;
          long = ap length laid ∙ length-set cells.codes.now (clear cells.ignored k) v ∙ h.held.long;
          codes = λ i inside. rw (laid, h.held.group) (here i inside (cases_eq (clear g i) (clear g k)));
          rest = λ c inside none.
              rw (laid, h.held.group) (get_or-set_other cells.codes.now (clear g k) c v 0 (λ is. none (ap (clear g) is ∙ clear_again g k ∙ sym is)) ∙ h.held.rest c inside none);
        };
      }
    where
      here : (i : ℕ) → i < m → (clear g i ≡ clear g k) ⊎ (clear g i ≡ clear g k → ⊥)
          → get_or (set cells.codes.now (clear g k) v) (clear g i) 0 ≡ cond (within (k + 1) g p i) v (had i)
      here i inside (inl same) =
          let at : clear g k < length cells.codes.now = omega (arith, clear_le g k, h.held.long) in
          ap (λ c. get_or (set cells.codes.now (clear g k) v) c 0) same ∙ get_or-set_same cells.codes.now (clear g k) v 0 at
          ∙ sym (ap (λ b. cond b v (had i)) (within-suc k i true true (eq-eqb _ _ same) passes))
      here i inside (inr other) =
          get_or-set_other cells.codes.now (clear g k) (clear g i) v 0 other ∙ h.held.codes i inside
          ∙ sym (ap (λ b. cond b v (had i)) (within-suc k i false true (ne_eqb _ _ other) passes))

  -- all assignments are passed
  pub marks_all : (k : ℕ) (cells : Cells) → k ≡ m → Marked m g p v had k cells → Hold m g (λ i. cond (within m g p i) v (had i)) cells
  marks_all k cells all h = subst (λ x. Hold m g (λ i. cond (within x g p i) v (had i)) cells) all h.held
