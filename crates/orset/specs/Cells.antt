-- What the cells of a part hold after each pass. A cell is an assignment cleared of the group that the part ignores.
use Rattle.std.specs.Prelude.{◌≡◌, ℕ, ◌<◌, Bool, if◌then◌else◌, List, length, ◌≢◌, slice_index}
use Rattle.tables.specs.Groups.{clear}
use Rattle.gatesets.specs.Splits.{code}
use Rattle.orset.specs.declared.cells.Cells.{Cells}
use Rattle.orset.specs.Or.{or_left_code, or_none, or_right_code, upper}

-- the cells of a part that ignores the group g hold the code f i at the cell of each assignment i; the row has an entry for each of the m assignments, and those that are no cell are free
pub record Hold (m g : ℕ) (f : ℕ → ℕ) (cells : Cells) : Type 0 where
  pub group : cells.ignored ≡ g
  pub long : length cells.codes.now ≡ m
  pub codes : (i : ℕ) → i < m → slice_index cells.codes.now (clear g i) ≡ f i
  pub rest : (c : ℕ) → c < m → (clear g c ≢ c) → slice_index cells.codes.now c ≡ 2

-- every cell is free
abbrev pub AllFree : List ℕ → Cells → Type 0
AllFree table cells = Hold (length table) cells.ignored (λ _. 2) cells

-- a code of a part that ignores the group g, before any 1 is laid: 0 where the part may not be 1, free elsewhere
abbrev pub zero_code : ℕ → (ℕ → ℕ) → ℕ → ℕ → ℕ
zero_code m t g i = if upper m t g i then 2 else 0

-- the cells have these codes
abbrev pub ZerosLaid : List ℕ → ℕ → Cells → Type 0
ZerosLaid table g cells = Hold (length table) g (zero_code (length table) (code table) g) cells

-- the left cells have the codes of the left part
abbrev pub LeftLaid : List ℕ → ℕ → ℕ → Cells → Type 0
LeftLaid table l r cells = Hold (length table) r (or_left_code (length table) (code table) l r) cells

-- the right cells have the codes of the right part
abbrev pub RightLaid : List ℕ → ℕ → ℕ → Cells → Type 0
RightLaid table l r cells = Hold (length table) l (or_right_code (length table) (code table) l r) cells

-- whether the table has no pair
abbrev pub lacks_pair : List ℕ → ℕ → ℕ → Bool
lacks_pair table l r = or_none (length table) (code table) l r
