-- A loop that writes the values f 0, f 1, .. into a row, from a place on.
use Rattle.std.proofs.Common.{◌≡◌, ℕ, ◌+◌, ◌<◌, List, ◌++◌, map, length, get_or, take, drop, set, sym, ◌∙◌, arith}
use lib.Seq.{paste}
use Rattle.std.specs.List.{range_with_len}
use Rattle.std.proofs.lemmas.List.FromFn.{length-map-range_with_len, get_or-map-range_with_len}
use Rattle.std.proofs.lemmas.List.Edits.{paste_more, paste_all}

module _ (f : ℕ → ℕ) (m : ℕ) (row : List ℕ) (start : ℕ) where
  -- one turn: the value y goes to the place p
  pub fill_more : (now : List ℕ) (i p y : ℕ) → now ≡ paste row start (map f (range_with_len 0 m)) i → y ≡ f i → p ≡ start + i
      → start + i < length row → i < m → set now p y ≡ paste row start (map f (range_with_len 0 m)) (i + 1)
  fill_more now i p y e v at inside below =
      let value : y ≡ get_or (map f (range_with_len 0 m)) i 0 = v ∙ sym (get_or-map-range_with_len f 0 m i i 0 below (omega arith)) in
      let long : i < length (map f (range_with_len 0 m)) = rw (length-map-range_with_len f 0 m) below in
      rw (e, at, value) (paste_more row start (map f (range_with_len 0 m)) i 0 inside long)

  -- after the last turn
  pub fill_all : (now : List ℕ) → now ≡ paste row start (map f (range_with_len 0 m)) m → now ≡ take start row ++ (map f (range_with_len 0 m) ++ drop (start + m) row)
  fill_all now e = e ∙ paste_all row start (map f (range_with_len 0 m)) m (sym (length-map-range_with_len f 0 m))
