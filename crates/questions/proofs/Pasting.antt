-- The rows of an entry, written one behind the other into a row of bytes behind the first.
use Rattle.std.proofs.Common.{◌≡◌, ℕ, ◌+◌, ◌-◌, ◌*◌, ◌/◌, ◌^◌, ◌<◌, ◌≤◌, min, ltb, List, [], ◌∷◌, ◌++◌, length, get_or, take, drop, set, sym, refl, ap, ◌∙◌, ap₂, arith}
use borrow.Rule.Slice.PartMut.{put_mid}
use Rattle.std.proofs.lemmas.List.FromFn.{length-map-range_with_len, fill_by_all}
use Rattle.std.proofs.lemmas.List.{append-nil, drop_all, length-drop, length-set, length-append, length-take-le}
use Rattle.std.proofs.lemmas.Slice.{take-put_mid}
use Rattle.std.proofs.lemmas.Bool.{cond_both, ltb-false}
use Rattle.questions.specs.declared.form.Form.TheVariants.{TwoRows, OneRow}
use Rattle.questions.specs.declared.form.Side.{Side}
use Rattle.questions.specs.declared.form.Side.TheVariants.{Lower, Upper}
use Rattle.questions.specs.declared.layout.Layout.{Layout}
use Rattle.questions.specs.Layouts.{row_length, upper_start, entry_length}
use Rattle.questions.specs.Writing.{digit_of, packed, row_byte, row_bytes, first_byte, entry_in}
use Rattle.questions.proofs.RowSizes.{whole_bytes, lower_inside, entry_some}

-- how many bytes a row has
pub length-row_bytes : (n : ℕ) (side : Side) (codes : List ℕ) → length (row_bytes n side codes) ≡ row_length n
length-row_bytes n side codes = length-map-range_with_len (row_byte n side codes) 0 (row_length n)

-- the digits of each byte of a row, eight or all, are those of assignments
pub digits_inside : (n j : ℕ) → j < row_length n → 8 * j + min 8 (2 ^ n) ≤ 2 ^ n
digits_inside n j =
    cond_both (ltb n 3) 1 (2 ^ n / 8) (λ r. j < r → 8 * j + min 8 (2 ^ n) ≤ 2 ^ n)
    (λ e l. omega arith)
    (λ e l. omega (arith, whole_bytes n (ltb-false n 3 e)))

-- a row of which each byte is written
pub row_written : (n : ℕ) (side : Side) (row table : List ℕ) → length table ≡ 2 ^ n → length row ≡ row_length n
    → ((j : ℕ) → j < length row → get_or row j 0 ≡ packed (λ k. digit_of side (get_or table (8 * j + k) 0)) (min 8 (length table))) → row ≡ row_bytes n side table
row_written n side row table long size h =
    fill_by_all (row_byte n side table) row (row_length n) 0 size (λ j l.
    h j (omega arith) ∙ ap (λ m. packed (λ k. digit_of side (get_or table (8 * j + k) 0)) (min 8 m)) long)

-- the length of a part of a list
part_size : (a k : ℕ) (xs : List ℕ) → a + k ≤ length xs → length (take k (drop a xs)) ≡ k
part_size a k xs l = length-take-le k (drop a xs) (omega (arith, length-drop a xs))

-- a list keeps its length where a part of it is written
put_size : (a k : ℕ) (xs ys : List ℕ) → a + k ≤ length xs → length ys ≡ k → length (put_mid a k xs ys) ≡ length xs
put_size a k xs ys l e =
    omega (
      arith,
      length-append (take a xs) (ys ++ drop k (drop a xs)),
      length-append ys (drop k (drop a xs)),
      length-take-le a xs (omega arith),
      length-drop k (drop a xs),
      length-drop a xs,
    )

-- a part that is written at the end of a list
put_end : (a k : ℕ) (xs ys : List ℕ) → length xs ≤ a + k → put_mid a k xs ys ≡ take a xs ++ ys
put_end a k xs ys l =
    ap (λ rest. take a xs ++ (ys ++ rest)) (drop_all k (drop a xs) (omega (arith, length-drop a xs))) ∙ ap (λ zs. take a xs ++ zs) (append-nil ys)

-- the first byte, where it is written
first_written : (out : List ℕ) (first : ℕ) → 0 < length out → take 1 (set out 0 first) ≡ first ∷ []
first_written [] first l = absurd (let z : ⊥ = omega arith in z)
first_written (x ∷ out) first l = refl

-- the lower row, where each of its bytes is written
pub low_written : (layout : Layout) (out table low : List ℕ) (first : ℕ) → length out ≡ layout.length → length table ≡ layout.points
    → length low ≡ length (take (1 + layout.row - 1) (drop 1 (set out 0 first)))
    → ((j : ℕ) → j < length low → get_or low j 0 ≡ packed (λ k. digit_of Lower (get_or table (8 * j + k) 0)) (min 8 (length table)))
    → low ≡ row_bytes layout.variables Lower table
low_written layout out table low first long points size h =
    let part = part_size 1 (1 + layout.row - 1) (set out 0 first) (omega (arith, lower_inside layout.variables layout.form, length-set out 0 first)) in
    row_written layout.variables Lower low table (points ∙ layout.points_are) (omega arith) h

module _ (layout : Layout) (out table : List ℕ) (first : ℕ) (long : length out ≡ layout.length) (says : first ≡ first_byte layout.variables layout.form)
    (low : List ℕ) (lower : low ≡ row_bytes layout.variables Lower table) where
  -- the lower row behind the first byte
  front : take 1 (set out 0 first) ++ low ≡ first_byte layout.variables layout.form ∷ row_bytes layout.variables Lower table
  front = ap (λ xs. xs ++ low) (first_written out first (omega (arith, entry_some layout.variables layout.form))) ∙ ap₂ ◌∷◌ says lower

  -- how many bytes the lower row has
  low_size : length low ≡ row_length layout.variables
  low_size = ap length lower ∙ length-row_bytes layout.variables Lower table

  -- how many bytes are left for the upper row
  pub upper_size : layout.form ≡ TwoRows
      → length (take (length (put_mid 1 (1 + layout.row - 1) (set out 0 first) low) - layout.upper) (drop layout.upper (put_mid 1 (1 + layout.row - 1) (set out 0 first) low)))
      ≡ row_length layout.variables
  upper_size is =
      let n : ℕ = layout.variables in
      let lows : List ℕ = put_mid 1 (1 + layout.row - 1) (set out 0 first) low in
      let start : layout.upper ≡ upper_start n TwoRows = layout.upper_at ∙ ap (upper_start n) is in
      let size : layout.length ≡ entry_length n TwoRows = layout.length_is ∙ ap (entry_length n) is in
      let same : length lows ≡ length (set out 0 first) =
      put_size 1 (1 + layout.row - 1) (set out 0 first) low (omega (arith, length-set out 0 first)) (omega (arith, low_size)) in
      let all : length lows ≡ layout.length = same ∙ length-set out 0 first ∙ long in
      part_size layout.upper (length lows - layout.upper) lows (omega arith) ∙ (omega arith)

  -- an entry with one row
  pub entry_one : layout.form ≡ OneRow → put_mid 1 (1 + layout.row - 1) (set out 0 first) low ≡ entry_in layout.form layout.variables table
  entry_one is =
      let n : ℕ = layout.variables in
      let size : layout.length ≡ entry_length n OneRow = layout.length_is ∙ ap (entry_length n) is in
      put_end 1 (1 + layout.row - 1) (set out 0 first) low (omega (arith, length-set out 0 first)) ∙ front
      ∙ ap (λ form. first_byte n form ∷ row_bytes n Lower table) is ∙ ap (λ form. entry_in form n table) (sym is)

  -- an entry with two rows
  pub entry_two : (high : List ℕ) → layout.form ≡ TwoRows → high ≡ row_bytes layout.variables Upper table
      → put_mid layout.upper (length (put_mid 1 (1 + layout.row - 1) (set out 0 first) low) - layout.upper) (put_mid 1 (1 + layout.row - 1) (set out 0 first) low) high
      ≡ entry_in layout.form layout.variables table
  entry_two high is upper =
      let n : ℕ = layout.variables in
      let lows : List ℕ = put_mid 1 (1 + layout.row - 1) (set out 0 first) low in
      let start : layout.upper ≡ upper_start n TwoRows = layout.upper_at ∙ ap (upper_start n) is in
      let row : length low ≡ row_length n = low_size in
      let some : 1 ≤ length (set out 0 first) = omega (arith, entry_some n layout.form, length-set out 0 first) in
      put_end layout.upper (length lows - layout.upper) lows high (omega arith)
      ∙ ap (λ xs. xs ++ high) (take-put_mid 1 (1 + layout.row - 1) (set out 0 first) low layout.upper (omega arith) some ∙ front)
      ∙ ap₂ (λ form xs. first_byte n form ∷ (row_bytes n Lower table ++ xs)) is upper ∙ ap (λ form. entry_in form n table) (sym is)
