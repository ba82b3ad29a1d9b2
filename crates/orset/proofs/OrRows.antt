-- The rows that are written from the cells are those of the rule.
use Rattle.std.proofs.Common.{◌≡◌, ℕ, ◌^◌, false, List, map, length, slice_index, sym, ap, ◌∙◌, ap₂}
use Rattle.std.specs.List.{range_with_len}
use Rattle.tables.specs.Groups.{clear}
use Rattle.gatesets.specs.declared.request.Request.{Request}
use Rattle.gatesets.specs.Rules.{codes, two_parts}
use Rattle.gatesets.specs.Splits.{code}
use Rattle.gatesets.proofs.CodeRows.{codes_same}
use Rattle.orset.specs.declared.cells.Cells.{Cells}
use Rattle.orset.specs.Cells.{Hold, LeftLaid, RightLaid, lacks_pair}
use Rattle.orset.specs.Or.{or_left_code, or_right_code, or_rule}

-- a row of a part that ignores the group g, written from its cells
abbrev pub written : ℕ → Cells → ℕ → List ℕ
written g cells k = map (λ i. slice_index cells.codes.now (clear g i)) (range_with_len 0 k)

-- it is made from the codes that the cells hold
written_codes : (n k g : ℕ) (f : ℕ → ℕ) (cells : Cells) → k ≡ 2 ^ n → Hold (2 ^ n) g f cells → codes n f ≡ written g cells k
written_codes n k g f cells size h =
    codes_same n f (λ i. slice_index cells.codes.now (clear g i)) (λ i below. sym (h.codes i below)) ∙ ap (written g cells) (sym size)

-- the rule gives the rows that are written
pub parts_by : (ask : Request) (table : List ℕ) (lefts rights : Cells) (l r a b : ℕ) → length table ≡ 2 ^ ask.variables → l ≡ ask.left → r ≡ ask.right
    → a ≡ length table → b ≡ length table → lacks_pair table l r ≡ false → LeftLaid table l r lefts → RightLaid table l lefts.ignored rights
    → or_rule ask table ≡ two_parts (written ask.right lefts a) (written ask.left rights b)
parts_by ask table lefts rights l r a b size left_group right_group left_long right_long stands in_lefts in_rights =
    let stands' = rw (size, left_group, right_group) at stands in
    let in_lefts' = rw (size, left_group, right_group) at in_lefts in
    let in_rights' = rw (size, left_group, in_lefts.group, right_group) at in_rights in
    rw stands'
    (ap₂ two_parts
    (written_codes ask.variables a ask.right (or_left_code (2 ^ ask.variables) (code table) ask.left ask.right) lefts (left_long ∙ size) in_lefts')
    (written_codes ask.variables b ask.left (or_right_code (2 ^ ask.variables) (code table) ask.left ask.right) rights (right_long ∙ size) in_rights'))
