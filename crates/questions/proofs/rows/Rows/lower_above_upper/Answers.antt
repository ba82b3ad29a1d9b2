-- The first byte that is not met has the first such assignment, where it is one of the table's.
use Rattle.std.proofs.Common.{◌≡◌, ℕ, ◌+◌, ◌-◌, ◌*◌, ◌/◌, ◌^◌, ◌<◌, ◌==◌, Bool, not, ltb, List, length, get_or, position, Some, None, sym, ap, ◌∙◌, ap₂, arith}
use lib.Bits.{bit_and}
use Rattle.std.specs.Bool.{then_some}
use Rattle.std.specs.Int.{trailing_zeros, w8}
use Rattle.std.specs.List.{zip}
use Rattle.std.proofs.lemmas.List.Quantifiers.{position-Some}
use Rattle.std.proofs.lemmas.Slice.Zip.{length-zip, get_or-zip}
use Rattle.std.proofs.lemmas.Nat.{trailing_le}
use Rattle.std.proofs.lemmas.Bool.Decides.{nat_tests}
use Rattle.tables.specs.Checks.{lowest}
use Rattle.tables.proofs.Passing.{lowest-none}
use Rattle.questions.specs.declared.rows.Rows.{Rows}
use Rattle.questions.specs.Layouts.{row_length, row_from, upper_start}
use Rattle.questions.specs.Entries.{above_at}
use Rattle.questions.proofs.RowSizes.{row_most, place_in_row}
use Rattle.tables.proofs.Positions.{position-None}
use Rattle.questions.proofs.Bytewise.{lower_within, upper_within, length-row_from, get_or-row_from, Met, none_above_met, missed, first_above}
use Rattle.questions.proofs.rows.Rows.lower_above_upper.Goals as goal

-- the test of two bytes
abbrev unmet : ℕ × ℕ → Bool
unmet p = not (bit_and p.0 p.1 == p.0)

module _ (rows : Rows) where
  abbrev low : List ℕ
  low = row_from rows.layout.variables rows.bytes.now 1

  abbrev high : List ℕ
  high = row_from rows.layout.variables rows.bytes.now (upper_start rows.layout.variables rows.layout.form)

  -- there are as many pairs of bytes as a row has bytes
  length_pairs : length (zip low high) ≡ row_length rows.layout.variables
  length_pairs =
      omega (
        arith,
        length-zip low high,
        length-row_from rows.layout.variables rows.bytes.now 1 (lower_within rows),
        length-row_from rows.layout.variables rows.bytes.now (upper_start rows.layout.variables rows.layout.form) (upper_within rows),
      )

  -- the test of each pair
  pair_test : (j : ℕ) → j < row_length rows.layout.variables
      → unmet (get_or (zip low high) j (0, 0)) ≡ unmet (get_or rows.bytes.now (1 + j) 0, get_or rows.bytes.now (upper_start rows.layout.variables rows.layout.form + j) 0)
  pair_test j l =
      let size : length low ≡ row_length rows.layout.variables = length-row_from rows.layout.variables rows.bytes.now 1 (lower_within rows) in
      let upper_size : length high ≡ row_length rows.layout.variables =
      length-row_from rows.layout.variables rows.bytes.now (upper_start rows.layout.variables rows.layout.form) (upper_within rows) in
      ap unmet (get_or-zip low high j (0, 0) (omega arith) (omega arith))
      ∙ ap₂ (λ x y. unmet (x, y)) (get_or-row_from rows.layout.variables rows.bytes.now 1 (lower_within rows) j l)
      (get_or-row_from rows.layout.variables rows.bytes.now (upper_start rows.layout.variables rows.layout.form) (upper_within rows) j l)

  -- where none is found, each byte is met
  all_met : position unmet (zip low high) ≡ None → (j : ℕ) → j < row_length rows.layout.variables → Met rows.layout.variables rows.layout.form rows.bytes.now j
  all_met e j l =
      let passed = sym (pair_test j l) ∙ position-None unmet (zip low high) (0, 0) e j (omega (arith, length_pairs)) in
      grind (arith, nat_tests)

  -- the one that is found is the first that is not met
  first_unmet : (place : ℕ) → position unmet (zip low high) ≡ Some place
      → (place < row_length rows.layout.variables)
      × (Met rows.layout.variables rows.layout.form rows.bytes.now place → ⊥)
      × ((j : ℕ) → j < place → Met rows.layout.variables rows.layout.form rows.bytes.now j)
  first_unmet place e =
      let found = position-Some unmet (zip low high) place (0, 0) e in
      let inside : place < row_length rows.layout.variables = omega (arith, length_pairs, found.0) in (
        inside,
        λ met. let some = sym (pair_test place inside) ∙ found.1 in grind (arith, nat_tests),
        λ j l. let passed = sym (pair_test j (omega arith)) ∙ found.2 j l in grind (arith, nat_tests),
      )

  -- so no assignment is above
  none_found : position unmet (zip low high) ≡ None → lowest (2 ^ rows.layout.variables) (above_at rows.layout.variables rows.layout.form rows.bytes.now) ≡ None
  none_found e =
      lowest-none (above_at rows.layout.variables rows.layout.form rows.bytes.now) (2 ^ rows.layout.variables)
      (λ i l. none_above_met rows.layout.variables rows.layout.form rows.bytes.now i (all_met e (i / 8) (place_in_row rows.layout.variables i l)))

  -- the place and its assignment are small numbers
  small_place : (place : ℕ) → position unmet (zip low high) ≡ Some place → place < 128
  small_place place e = let found = first_unmet place e in omega (arith, found.0, row_most rows.layout.variables rows.layout.lawful.1)

  -- the assignment that the two bytes at the place give
  found_assignment : (place : ℕ) (lows highs : List ℕ) → position unmet (zip low high) ≡ Some place → lows ≡ low → highs ≡ high → get_or lows place 0 < 256 → get_or highs place 0 < 256
      → then_some (ltb (8 * place + trailing_zeros w8 (bit_and (get_or lows place 0) (255 - get_or highs place 0))) rows.layout.points)
      (8 * place + trailing_zeros w8 (bit_and (get_or lows place 0) (255 - get_or highs place 0)))
      ≡ lowest (2 ^ rows.layout.variables) (above_at rows.layout.variables rows.layout.form rows.bytes.now)
  found_assignment place lows highs e a b small fits =
      let n : ℕ = rows.layout.variables in
      let bytes : List ℕ = rows.bytes.now in
      let start : ℕ = upper_start n rows.layout.form in
      let found = first_unmet place e in
      let low_is : get_or lows place 0 ≡ get_or bytes (1 + place) 0 = ap (λ xs. get_or xs place 0) a ∙ get_or-row_from n bytes 1 (lower_within rows) place found.0 in
      let high_is : get_or highs place 0 ≡ get_or bytes (start + place) 0 = ap (λ xs. get_or xs place 0) b ∙ get_or-row_from n bytes start (upper_within rows) place found.0 in
      let first = first_above n rows.layout.form bytes place (omega arith) (omega arith) found.1 found.2 in
      ap₂ (λ x y. then_some (ltb (8 * place + trailing_zeros w8 (bit_and x (255 - y))) rows.layout.points) (8 * place + trailing_zeros w8 (bit_and x (255 - y)))) low_is high_is
      ∙ ap (λ points. then_some (ltb (8 * place + trailing_zeros w8 (missed n rows.layout.form bytes place)) points) (8 * place + trailing_zeros w8 (missed n rows.layout.form bytes place))) rows.layout.points_are
      ∙ first

pub returns-in_err-place : goal.returns-in_err-place
returns-in_err-place c = c.from_residual.ensures ∙ sym (none_found c.args.self.now (sym c.in_err-place.ensures))

pub bounds-lower-place : goal.bounds-lower-place
bounds-lower-place c =
    let found = first_unmet c.args.self.now c.in_ok-place.place (sym c.in_ok-place.ensures) in
    omega (arith, found.0, ap length c.lower.ensures, length-row_from c.args.self.now.layout.variables c.args.self.now.bytes.now 1 (lower_within c.args.self.now))

pub bounds-upper-place : goal.bounds-upper-place
bounds-upper-place c =
    let layout = c.args.self.now.layout in
    let found = first_unmet c.args.self.now c.in_ok-place.place (sym c.in_ok-place.ensures) in
    omega (
      arith,
      found.0,
      ap length c.upper.ensures,
      length-row_from layout.variables c.args.self.now.bytes.now (upper_start layout.variables layout.form) (upper_within c.args.self.now),
    )

pub overflow_mul-assignment : goal.overflow_mul-assignment
overflow_mul-assignment c = let small = small_place c.args.self.now c.in_ok-place.place (sym c.in_ok-place.ensures) in omega arith

pub overflow_add-assignment : goal.overflow_add-assignment
overflow_add-assignment c = let small = small_place c.args.self.now c.in_ok-place.place (sym c.in_ok-place.ensures) in omega (arith, trailing_le)

pub returns : goal.returns
returns c =
    c.then_some.ensures
    ∙ found_assignment c.args.self.now c.in_ok-place.place c.lower.result.now c.upper.result.now (sym c.in_ok-place.ensures) c.lower.ensures c.upper.ensures (omega arith) (omega arith)
