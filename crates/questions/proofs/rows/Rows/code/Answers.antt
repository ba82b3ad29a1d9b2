-- The two digits are those of the entry, and the code is what they say.
use Rattle.std.proofs.Common.{◌≡◌, ℕ, ◌/◌, ◌%◌, ◌^◌, ◌<◌, List, length, get_or, ap, ◌∙◌, ap₂, arith}
use Rattle.tables.specs.Tables.{digit}
use Rattle.questions.specs.declared.rows.Rows.{Rows}
use Rattle.questions.specs.Layouts.{row_from, upper_start, code_by, code}
use Rattle.questions.proofs.Bytewise.{lower_within, upper_within, row_from_place, row_from_digit}
use Rattle.questions.proofs.rows.Rows.code.Goals as goal

module _ (rows : Rows) (i : ℕ) (inside : i < rows.layout.points) where
  -- the assignment is one of the table's
  below : i < 2 ^ rows.layout.variables
  below = omega arith

  -- the byte of the assignment lies within the lower row
  lower_place : (row : List ℕ) → row ≡ row_from rows.layout.variables rows.bytes.now 1 → i / 8 < length row
  lower_place row e = rw e (row_from_place rows.layout.variables rows.bytes.now 1 (lower_within rows) i below)

  -- and within the upper row
  upper_place : (row : List ℕ) → row ≡ row_from rows.layout.variables rows.bytes.now (upper_start rows.layout.variables rows.layout.form) → i / 8 < length row
  upper_place row e = rw e (row_from_place rows.layout.variables rows.bytes.now (upper_start rows.layout.variables rows.layout.form) (upper_within rows) i below)

  -- the code by the digits that were read
  digits_code : (low high : List ℕ) (x y : ℕ) → low ≡ row_from rows.layout.variables rows.bytes.now 1
      → high ≡ row_from rows.layout.variables rows.bytes.now (upper_start rows.layout.variables rows.layout.form)
      → x ≡ digit (i % 8) (get_or low (i / 8) 0) → y ≡ digit (i % 8) (get_or high (i / 8) 0)
      → code_by x y ≡ code rows.layout.variables rows.layout.form rows.bytes.now i
  digits_code low high x y a b e f =
      ap₂ code_by
      (e ∙ ap (λ row. digit (i % 8) (get_or row (i / 8) 0)) a ∙ row_from_digit rows.layout.variables rows.bytes.now 1 (lower_within rows) i below)
      (f ∙ ap (λ row. digit (i % 8) (get_or row (i / 8) 0)) b ∙ row_from_digit rows.layout.variables rows.bytes.now (upper_start rows.layout.variables rows.layout.form) (upper_within rows) i below)

pub digit-requires : goal.digit-requires
digit-requires c = lower_place c.args.self.now c.args.assignment c.requires _ c.lower.ensures

pub digit-requires-2 : goal.digit-requires-2
digit-requires-2 c = upper_place c.args.self.now c.args.assignment c.requires _ c.upper.ensures

pub returns : goal.returns
returns c =
    c.code_of.ensures ∙ digits_code c.args.self.now c.args.assignment c.requires _ _ _ _ c.lower.ensures c.upper.ensures c.digit.ensures c.digit-2.ensures
