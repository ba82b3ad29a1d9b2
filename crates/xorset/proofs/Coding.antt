-- The codes of the cells as the rows of two parts.
use Rattle.std.proofs.Common.{◌≡◌, ℕ, ◌+◌, ◌*◌, ◌^◌, ◌<◌, List, ◌++◌, map, length, get_or, set, ap, ◌∙◌, arith}
use lib.Seq.{paste}
use Rattle.std.specs.List.{range_with_len}
use Rattle.std.proofs.lemmas.List.{append-nil, drop_all, get_or_default}
use Rattle.tables.proofs.Clearing.{clear_le}
use Rattle.tables.proofs.Fills.{fill_more, fill_all}
use Rattle.xorset.specs.Search.{cell_of}
use Rattle.xorset.specs.declared.frame.Side.{Side}
use Rattle.xorset.specs.declared.frame.Side.TheVariants.{Left, Right}

-- both cells of an assignment stand in the row
pub cell_inside : (n l r : ℕ) (side : Side) (i : ℕ) → i < 2 ^ n → cell_of n l r side i < 2 * 2 ^ n
cell_inside n l r Left i h = omega (arith, clear_le r i)
cell_inside n l r Right i h = omega (arith, clear_le l i)

module _ (vs : List ℕ) (cell : ℕ → ℕ) (m : ℕ) (row : List ℕ) (long : length row ≡ m) where
  -- one turn writes the code of the next assignment, which stands in the row of values at c
  pub code_more : (now : List ℕ) (i c : ℕ) → now ≡ paste row 0 (map (λ j. get_or vs (cell j) 2) (range_with_len 0 m)) i → c ≡ cell i → c < length vs → i < m
      → set now i (get_or vs c 0) ≡ paste row 0 (map (λ j. get_or vs (cell j) 2) (range_with_len 0 m)) (i + 1)
  code_more now i c e at inside below =
      fill_more (λ j. get_or vs (cell j) 2) m row 0 now i i (get_or vs c 0) e (get_or_default vs c 0 2 inside ∙ ap (λ x. get_or vs x 2) at) (omega arith) (omega arith) below

  -- after the last turn the row is written
  pub code_all : (now : List ℕ) (i : ℕ) → i ≡ m → now ≡ paste row 0 (map (λ j. get_or vs (cell j) 2) (range_with_len 0 m)) i → now ≡ map (λ j. get_or vs (cell j) 2) (range_with_len 0 m)
  code_all now i all e =
      fill_all (λ j. get_or vs (cell j) 2) m row 0 now (e ∙ ap (paste row 0 (map (λ j. get_or vs (cell j) 2) (range_with_len 0 m))) all)
      ∙ ap (λ x. map (λ j. get_or vs (cell j) 2) (range_with_len 0 m) ++ x) (drop_all (0 + m) row (omega arith)) ∙ append-nil (map (λ j. get_or vs (cell j) 2) (range_with_len 0 m))
