-- Each turn writes one byte of the row.
use Rattle.std.proofs.Common.{◌≡◌, ℕ, ◌+◌, ◌-◌, ◌*◌, ◌<◌, ◌≤◌, min, List, length, get_or, take, drop, set, sym, ap, ◌∙◌, subst, arith}
use Rattle.std.proofs.lemmas.List.{get_or-take, get_or-drop, length-take-le, length-drop}
use Rattle.std.proofs.lemmas.List.Edits.{fill_by_more}
use Rattle.questions.specs.declared.form.Side.{Side}
use Rattle.questions.specs.Writing.{digit_of, packed}
use Rattle.questions.proofs.Packing.{packed_same}
use Rattle.questions.proofs.writer.put_row.Goals as goal

-- the digits of a part of a table, packed
part_packed : (side : Side) (table : List ℕ) (start count : ℕ) → start + count ≤ length table
    → packed (λ k. digit_of side (get_or (take (start + count - start) (drop start table)) k 0)) (length (take (start + count - start) (drop start table)))
    ≡ packed (λ k. digit_of side (get_or table (start + k) 0)) count
part_packed side table start count l =
    let size : length (take (start + count - start) (drop start table)) ≡ count =
    length-take-le (start + count - start) (drop start table) (omega (arith, length-drop start table)) ∙ (omega arith) in
    ap (packed (λ k. digit_of side (get_or (take (start + count - start) (drop start table)) k 0))) size
    ∙ packed_same (λ k. digit_of side (get_or (take (start + count - start) (drop start table)) k 0)) (λ k. digit_of side (get_or table (start + k) 0)) count
    (λ k m. ap (digit_of side) (get_or-take (start + count - start) (drop start table) k 0 (omega arith) ∙ get_or-drop start table k 0))

pub loop-place-preserved : goal.loop-place-preserved
loop-place-preserved c =
    let side = c.args.side in
    let table : List ℕ = c.args.table.now in
    let i : ℕ = c.loop-place.place in
    let byte : ℕ → ℕ = λ j. packed (λ k. digit_of side (get_or table (8 * j + k) 0)) (min 8 (length table)) in
    let count : c.min-count.result ≡ min 8 (length table) = omega arith in
    let inside : 8 * i + c.min-count.result ≤ length table = omega (arith, c.requires i) in
    let here : c.pack.result ≡ byte i =
    c.pack.ensures ∙ part_packed side table (8 * i) c.min-count.result inside ∙ ap (packed (λ k. digit_of side (get_or table (8 * i + k) 0))) count in
    subst (λ b. (j : ℕ) → j < i + 1 → get_or (set c.loop-place.row i b) j 0 ≡ byte j) (sym here) (fill_by_more byte c.loop-place.row i 0 (omega arith) c.loop-place.invariant)
