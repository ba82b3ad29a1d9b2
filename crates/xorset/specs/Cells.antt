-- Cells, their links and their values.
-- The left part has one value for each left cell, the right part for each right cell. A table over n variables is a function t from assignments to codes, l and r are the groups.
use Rattle.std.specs.Prelude.{◌≡◌, ℕ, ◌+◌, ◌^◌, ◌<◌, ◌≤◌, Bool, true, false, not, ◌==◌}
use Rattle.tables.specs.Groups.{clear}

-- the left cell of an assignment is the assignment with the right group's digits cleared
abbrev pub left_cell : ℕ → ℕ → ℕ
left_cell r i = clear r i

-- the right cell is the assignment with the left group's digits cleared; right cells are numbered from 2 ^ n on, so that they differ from all left cells
abbrev pub right_cell : ℕ → ℕ → ℕ → ℕ
right_cell n l i = 2 ^ n + clear l i

abbrev pub xor : Bool → Bool → Bool
xor true b = not b
xor false b = b

-- the value by which two cells differ that a code 0 or 1 links
abbrev pub is_one : ℕ → Bool
is_one c = c == 1

-- values of the cells that meet the links of the assignments below m: each assignment with code 0 or 1 links its two cells, whose values differ by that code
abbrev pub Meets : ℕ → (ℕ → ℕ) → ℕ → ℕ → (ℕ → Bool) → ℕ → Type 0
Meets n t l r f m = (i : ℕ) → i < m → t i < 2 → xor (f (left_cell r i)) (f (right_cell n l i)) ≡ is_one (t i)

-- a set of cells that no link leaves
abbrev pub Closed : ℕ → (ℕ → ℕ) → ℕ → ℕ → (ℕ → Bool) → Type 0
Closed n t l r s = (i : ℕ) → i < 2 ^ n → t i < 2 → s (left_cell r i) ≡ s (right_cell n l i)

-- two cells are in one class: every set of cells that no link leaves has both or none
abbrev pub Together : ℕ → (ℕ → ℕ) → ℕ → ℕ → ℕ → ℕ → Type 0
Together n t l r c d = (s : ℕ → Bool) → Closed n t l r s → s c ≡ s d

-- the values of the cells: the links are met, and the lowest cell of each class, a left one where it has links, is 0
pub record Values (n : ℕ) (t : ℕ → ℕ) (l r : ℕ) (f : ℕ → Bool) : Type 0 where
  pub met : Meets n t l r f (2 ^ n)
  pub lowest : (c : ℕ) → ((d : ℕ) → Together n t l r c d → c ≤ d) → f c ≡ false
