-- The search for values of the cells: what holds while it runs, and what it finds.
-- The values stand in a row with a number for each cell: 2 where the cell has no link, 3 where it waits for a value, or else its value.
use Rattle.std.specs.Prelude.{◌≡◌, ℕ, ◌+◌, ◌*◌, ◌^◌, ◌<◌, ◌≤◌, Bool, true, false, ◌⊎◌, List, [], ◌∷◌, ◌++◌, length, Contains, count_by, ◌≢◌, bit_and, if◌then◌else◌, nat_eq, nat_lt, slice_index_or, slice_set}
use Rattle.tables.specs.Groups.{clear, within}
use Rattle.xorset.specs.Cells.{Values, Meets, Together, is_one, left_cell, right_cell, xor}
use Rattle.xorset.specs.Xor.{linked, value_code}
use Rattle.tables.specs.Stacks.{held}
use Rattle.gatesets.specs.Rules.{codes}
use Rattle.gatesets.specs.Splits.{code}
use Rattle.xorset.specs.declared.frame.Frame.{Frame}
use Rattle.xorset.specs.declared.frame.Side.{Side}
use Rattle.xorset.specs.declared.frame.Side.TheVariants.{Left, Right}
use Rattle.xorset.specs.declared.frame.Visit.{Visit}
use Rattle.xorset.specs.declared.search.Search.{Search}

-- values found: they are values of the cells, and each cell of an assignment has its code
pub record Valued (n : ℕ) (t : ℕ → ℕ) (l r : ℕ) (vs : List ℕ) : Type 0 where
  pub values : Values n t l r (λ c. is_one (slice_index_or vs c 2))
  pub left : (i : ℕ) → i < 2 ^ n → slice_index_or vs (left_cell r i) 2 ≡ value_code (linked n t r i) (is_one (slice_index_or vs (left_cell r i) 2))
  pub right : (i : ℕ) → i < 2 ^ n → slice_index_or vs (right_cell n l i) 2 ≡ value_code (linked n t l i) (is_one (slice_index_or vs (right_cell n l i) 2))

-- no values meet the links
abbrev pub NoValues : ℕ → (ℕ → ℕ) → ℕ → ℕ → Type 0
NoValues n t l r = (f : ℕ → Bool) → Meets n t l r f (2 ^ n) → ⊥

-- how many cells wait
abbrev pub waiting : List ℕ → ℕ
waiting vs = count_by (λ v. nat_eq v 3) vs

-- the number of a cell, which has a link or none, in the search
abbrev pub Stands : Bool → ℕ → Type 0
Stands true v = (v ≡ 3) ⊎ (v < 2)
Stands false v = v ≡ 2

-- the cell of an assignment on a side
abbrev pub cell_of : ℕ → ℕ → ℕ → Side → ℕ → ℕ
cell_of n l r Left i = left_cell r i
cell_of n l r Right i = right_cell n l i

-- a cell of an assignment
abbrev pub IsCell : ℕ → ℕ → ℕ → ℕ → Type 0
IsCell n l r c = (i : ℕ) × (i < 2 ^ n) × ((left_cell r i ≡ c) ⊎ (right_cell n l i ≡ c))

-- the number of a cell, which has a link or none, before any has a value
abbrev pub mark : Bool → ℕ
mark has = if has then 3 else 2

-- the links of the assignments below m are marked, and no cell has a value
pub record Marked (n : ℕ) (t : ℕ → ℕ) (l r m : ℕ) (vs : List ℕ) : Type 0 where
  pub left : (i : ℕ) → i < 2 ^ n → slice_index_or vs (left_cell r i) 2 ≡ mark (within m r (λ j. nat_lt (t j) 2) i)
  pub right : (i : ℕ) → i < 2 ^ n → slice_index_or vs (right_cell n l i) 2 ≡ mark (within m l (λ j. nat_lt (t j) 2) i)
  pub cells : (c : ℕ) → (slice_index_or vs c 2 ≢ 2) → IsCell n l r c
  pub none : (c : ℕ) → slice_index_or vs c 2 < 2 → ⊥

-- x and y are the two cells of i
abbrev pub Ends : ℕ → ℕ → ℕ → ℕ → ℕ → ℕ → Type 0
Ends n l r i x y = ((left_cell r i ≡ x) × (right_cell n l i ≡ y)) ⊎ ((right_cell n l i ≡ x) × (left_cell r i ≡ y))

-- neither cell of i has a value
abbrev pub Untouched : ℕ → ℕ → ℕ → List ℕ → ℕ → Type 0
Untouched n l r vs i = (2 ≤ slice_index_or vs (left_cell r i) 2) × (2 ≤ slice_index_or vs (right_cell n l i) 2)

-- both have, and they differ as the link of i says
abbrev pub Settled : ℕ → (ℕ → ℕ) → ℕ → ℕ → List ℕ → ℕ → Type 0
Settled n t l r vs i =
    (slice_index_or vs (left_cell r i) 2 < 2) × (slice_index_or vs (right_cell n l i) 2 < 2) × (xor (is_one (slice_index_or vs (left_cell r i) 2)) (is_one (slice_index_or vs (right_cell n l i) 2)) ≡ is_one (t i))

-- some values meet the links, and are those given so far
abbrev pub Extended : ℕ → (ℕ → ℕ) → ℕ → ℕ → List ℕ → Type 0
Extended n t l r vs = (g : ℕ → Bool) × Meets n t l r g (2 ^ n) × ((c : ℕ) → slice_index_or vs c 2 < 2 → g c ≡ is_one (slice_index_or vs c 2))

-- the class of c has a cell of value 0 that is not above c nor above any cell that waits
abbrev pub Rooted : ℕ → (ℕ → ℕ) → ℕ → ℕ → List ℕ → ℕ → Type 0
Rooted n t l r vs c = (d : ℕ) × (d ≤ c) × Together n t l r c d × (slice_index_or vs d 2 ≡ 0) × ((w : ℕ) → slice_index_or vs w 2 ≡ 3 → d ≤ w)

-- the search so far: the values given, the cells still to visit, and which links may still be open
pub record Going (n : ℕ) (t : ℕ → ℕ) (l r : ℕ) (vs held : List ℕ) (open_at : ℕ → Type 0) : Type 0 where
  pub long : length vs ≡ 2 * 2 ^ n
  pub cells : (c : ℕ) → (slice_index_or vs c 2 ≢ 2) → IsCell n l r c
  pub left_stands : (i : ℕ) → i < 2 ^ n → Stands (linked n t r i) (slice_index_or vs (left_cell r i) 2)
  pub right_stands : (i : ℕ) → i < 2 ^ n → Stands (linked n t l i) (slice_index_or vs (right_cell n l i) 2)
  pub extends : (f : ℕ → Bool) → Meets n t l r f (2 ^ n) → Extended n t l r vs
  pub links : (i : ℕ) → i < 2 ^ n → t i < 2 → Untouched n l r vs i ⊎ (Settled n t l r vs i ⊎ open_at i)
  pub rooted : (c : ℕ) → slice_index_or vs c 2 < 2 → Rooted n t l r vs c
  pub stacked : (c : ℕ) → Contains held c → slice_index_or vs c 2 < 2
  pub room : waiting vs + length held ≤ 2 * 2 ^ n

-- a cell of i is still to visit
abbrev pub Waits : ℕ → ℕ → ℕ → List ℕ → ℕ → Type 0
Waits n l r held i = Contains held (left_cell r i) ⊎ Contains held (right_cell n l i)

-- or is the cell that is visited
abbrev pub Touches : ℕ → ℕ → ℕ → List ℕ → ℕ → ℕ → Type 0
Touches n l r held c i = Waits n l r held i ⊎ ((left_cell r i ≡ c) ⊎ (right_cell n l i ≡ c))

-- or its link with the cell visited is not yet followed: the subsets of the group are passed from the highest on down to `bound`
abbrev pub Remains : ℕ → ℕ → ℕ → List ℕ → ℕ → ℕ → ℕ → ℕ → Type 0
Remains n l r held group base bound i = Waits n l r held i ⊎ ((clear group i ≡ base) × (bit_and i group < bound))

-- the value that a link asks of its other cell
abbrev pub wanted : ℕ → ℕ → ℕ
wanted value c = if xor (is_one value) (is_one c) then 1 else 0

-- a link that is followed: there is none, its other cell has the value wanted, or gets it
abbrev pub Followed : ℕ → ℕ → ℕ → List ℕ → List ℕ → List ℕ → List ℕ → Type 0
Followed c value other vs held vs' held' =
    (((2 ≤ c) ⊎ ((c < 2) × (slice_index_or vs other 2 ≡ wanted value c))) × (vs' ≡ vs) × (held' ≡ held))
    ⊎ ((c < 2) × (slice_index_or vs other 2 ≡ 3) × (vs' ≡ slice_set vs other (wanted value c)) × (held' ≡ held ++ other ∷ []))

-- a link whose other cell has the other value
abbrev pub Conflicts : ℕ → ℕ → ℕ → List ℕ → Type 0
Conflicts c value other vs = (c < 2) × (slice_index_or vs other 2 ≢ 3) × (slice_index_or vs other 2 ≢ wanted value c)

-- a visit of a cell: its links are those of the assignments that, cleared of the group, are the base
pub record Visits (n l r : ℕ) (visit : Visit) : Type 0 where
  pub group : visit.group < 2 ^ n
  pub base : visit.base < 2 ^ n
  pub apart : bit_and visit.base visit.group ≡ 0
  pub ends : (i : ℕ) → i < 2 ^ n → clear visit.group i ≡ visit.base → Ends n l r i visit.cell (cell_of n l r visit.other i)
  pub all : (i : ℕ) → i < 2 ^ n → (left_cell r i ≡ visit.cell) ⊎ (right_cell n l i ≡ visit.cell) → clear visit.group i ≡ visit.base

-- what a part of the search leads to: the search goes on, no cell waits that did not, and no more cells wait or are to visit
pub record Went (n : ℕ) (t : ℕ → ℕ) (l r : ℕ) (vs held vs' held' : List ℕ) : Type 0 where
  pub going : Going n t l r vs' held' (Waits n l r held')
  pub fewer : (c : ℕ) → slice_index_or vs' c 2 ≡ 3 → slice_index_or vs c 2 ≡ 3
  pub less : waiting vs' + length held' ≤ waiting vs + length held

-- between two classes: nothing is to visit, and no cell below k waits
pub record Between (n : ℕ) (t : ℕ → ℕ) (l r k : ℕ) (vs held : List ℕ) : Type 0 where
  pub empty : held ≡ []
  pub going : Going n t l r vs [] (Waits n l r [])
  pub past : (c : ℕ) → c < k → slice_index_or vs c 2 ≢ 3

-- the same of a frame and a search as the program holds them: a search has a table and a frame, the values in its row and the cells on its stack

-- the cell of an assignment on a side
abbrev pub cell_at : Frame → Side → ℕ → ℕ
cell_at frame = cell_of frame.variables frame.left frame.right

-- a cell of an assignment
abbrev pub HasCell : Frame → ℕ → Type 0
HasCell frame = IsCell frame.variables frame.left frame.right

-- a visit of a cell
abbrev pub HasVisit : Frame → Visit → Type 0
HasVisit frame = Visits frame.variables frame.left frame.right

-- the links of the assignments below m are marked
abbrev pub IsMarked : Frame → List ℕ → ℕ → List ℕ → Type 0
IsMarked frame table = Marked frame.variables (code table) frame.left frame.right

-- a search keeps its table and its frame
pub record Kept (before after : Search) : Type 0 where
  pub table : after.table ≡ before.table
  pub frame : after.frame ≡ before.frame

-- the search so far, and which links may still be open
abbrev pub IsGoing : Search → (ℕ → Type 0) → Type 0
IsGoing s = Going s.frame.variables (code s.table.now) s.frame.left s.frame.right s.values.now (held s.stack)

-- a cell of i is still to visit
abbrev pub IsOpen : Search → ℕ → Type 0
IsOpen s = Waits s.frame.variables s.frame.left s.frame.right (held s.stack)

-- or is the cell that is visited
abbrev pub IsTouched : Search → ℕ → ℕ → Type 0
IsTouched s = Touches s.frame.variables s.frame.left s.frame.right (held s.stack)

-- the cells that wait have room on the stack
abbrev pub HasRoom : Search → Type 0
HasRoom s = waiting s.values.now + length (held s.stack) ≤ length s.stack.cells.now

-- the link of i is followed from a cell of this value to the cell of this side
abbrev pub FollowsLink : Search → ℕ → ℕ → Side → Search → Type 0
FollowsLink before i value side after =
    Followed (code before.table.now i) value (cell_at before.frame side i) before.values.now (held before.stack) after.values.now (held after.stack)

-- or leads to a cell of the other value
abbrev pub LinkConflicts : Search → ℕ → ℕ → Side → Type 0
LinkConflicts s i value side = Conflicts (code s.table.now i) value (cell_at s.frame side i) s.values.now

-- what a part of the search leads to
abbrev pub WentOn : Search → Search → Type 0
WentOn before after =
    Went before.frame.variables (code before.table.now) before.frame.left before.frame.right before.values.now (held before.stack)
    after.values.now (held after.stack)

-- nothing is to visit, and no cell below k waits
abbrev pub IsBetween : Search → ℕ → Type 0
IsBetween s k = Between s.frame.variables (code s.table.now) s.frame.left s.frame.right k s.values.now (held s.stack)

-- the values are found
abbrev pub HasValues : Search → Type 0
HasValues s = Valued s.frame.variables (code s.table.now) s.frame.left s.frame.right s.values.now

-- or there are none
abbrev pub HasNoValues : Search → Type 0
HasNoValues s = NoValues s.frame.variables (code s.table.now) s.frame.left s.frame.right

-- the codes of the cells of a side
abbrev pub part_codes : Search → Side → List ℕ
part_codes s side = codes s.frame.variables (λ i. slice_index_or s.values.now (cell_at s.frame side i) 2)
