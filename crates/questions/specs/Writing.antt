-- How a table is written as an entry: its bytes, and the order of the writer's checks.
use Rattle.std.specs.Prelude.{◌≡◌, ℕ, zero, suc, ◌+◌, ◌*◌, ◌^◌, ◌≤◌, min, Bool, if◌then◌else◌, not, ◌||◌, List, [], ◌∷◌, ◌++◌, map, length, take, drop, is_some, Some, None, Ok, Err, Option, Result, ◌==◌, nat_lt, slice_index}
use Rattle.std.specs.List.{range_with_len}
use Rattle.std.specs.Option.{option_map}
use Rattle.std.specs.Bool.{then_some}
use Rattle.tables.specs.Checks.{first, lowest, answered}
use Rattle.tables.specs.Tables.{lawful_size}
use Rattle.questions.specs.Layouts.{row_length, entry_length, table}
use Rattle.questions.specs.Entries.{reading}
use Rattle.questions.specs.declared.fault.WriteFault.{WriteFault}
use Rattle.questions.specs.declared.fault.WriteFault.TheVariants.{Variables, TooShort, Code}
use Rattle.questions.specs.declared.form.Form.{Form}
use Rattle.questions.specs.declared.form.Form.TheVariants.{TwoRows, OneRow}
use Rattle.questions.specs.declared.form.Side.{Side}
use Rattle.questions.specs.declared.form.Side.TheVariants.{Lower, Upper}
use Rattle.questions.specs.declared.layout.Layout.{Layout}

-- a code's digit in either row: the lower row is 1 where the code is 1, the upper row is 0 where the code is 0
abbrev pub digit_of : Side → ℕ → ℕ
digit_of Lower c = if c == 1 then 1 else 0
digit_of Upper c = if c == 0 then 0 else 1

-- the number whose digit of weight 2 ^ k is f k, for k below m
abbrev pub packed : (ℕ → ℕ) → ℕ → ℕ
packed f zero = 0
packed f (suc m) = packed f m + f m * 2 ^ m

-- the byte j of a row: eight of its digits, or all of them where it has fewer
abbrev pub row_byte : ℕ → Side → List ℕ → ℕ → ℕ
row_byte n side codes j = packed (λ k. digit_of side (slice_index codes (8 * j + k))) (min 8 (2 ^ n))

abbrev pub row_bytes : ℕ → Side → List ℕ → List ℕ
row_bytes n side codes = map (row_byte n side codes) (range_with_len 0 (row_length n))

-- the one-row form is used exactly when nothing is free
abbrev pub free_at : List ℕ → ℕ → Bool
free_at codes i = slice_index codes i == 2

abbrev pub form_for : ℕ → List ℕ → Form
form_for n codes = if is_some (lowest (2 ^ n) (free_at codes)) then TwoRows else OneRow

abbrev pub first_byte : ℕ → Form → ℕ
first_byte n TwoRows = n
first_byte n OneRow = 16 + n

abbrev pub rows_in : Form → ℕ → List ℕ → List ℕ
rows_in TwoRows n codes = row_bytes n Lower codes ++ row_bytes n Upper codes
rows_in OneRow n codes = row_bytes n Lower codes

abbrev pub entry_in : Form → ℕ → List ℕ → List ℕ
entry_in form n codes = first_byte n form ∷ rows_in form n codes

-- the entry of a table
abbrev pub entry_bytes : ℕ → List ℕ → List ℕ
entry_bytes n codes = entry_in (form_for n codes) n codes

-- the checks of the writer, in their order, for a row of codes and an output row of so many bytes
abbrev pub wrong_at : List ℕ → ℕ → Bool
wrong_at codes i = nat_lt 2 (slice_index codes i)

abbrev pub write_checks : ℕ → List ℕ → ℕ → List (Option WriteFault)
write_checks n codes room =
    then_some (not (lawful_size n)) Variables
    ∷ then_some (nat_lt (length codes) (2 ^ n) || nat_lt room (entry_length n (form_for n codes))) TooShort
    ∷ option_map Code (lowest (2 ^ n) (wrong_at codes))
    ∷ []

-- what the writer answers: the length of the entry
abbrev pub writing : ℕ → List ℕ → ℕ → Result ℕ WriteFault
writing n codes room = answered (first (write_checks n codes room)) (entry_length n (form_for n codes))

-- what the output row holds then: the entry and what stood behind it, or after a refusal what it held
abbrev pub out_after : Result ℕ WriteFault → ℕ → List ℕ → List ℕ → List ℕ
out_after (Ok length) n codes out = entry_bytes n codes ++ drop length out
out_after (Err fault) n codes out = out

-- at a byte number of a file the reader finds this table of n variables in this form, and the next entry at this byte number
pub record ReadAs (file : List ℕ) (at room n : ℕ) (form : Form) (codes : List ℕ) (next : ℕ) : Type 0 where
  pub answer : reading file at room ≡ Ok (record { variables = n; form = form; next = next })
  pub table_read : table n form (drop at file) ≡ codes

-- wherever in a file these bytes stand, they are read as the table that the codes begin with, with the next entry behind them
abbrev pub ReadsBackIn : Form → ℕ → List ℕ → List ℕ → Type 0
ReadsBackIn form n codes bytes =
    (before after : List ℕ) (room : ℕ) → 2 ^ n ≤ room
    → ReadAs (before ++ (bytes ++ after)) (length before) room n form (take (2 ^ n) codes) (length before + length bytes)

abbrev pub ReadsBack : ℕ → List ℕ → List ℕ → Type 0
ReadsBack n codes bytes = ReadsBackIn (form_for n codes) n codes bytes

-- the checks end with the layout that the codes ask for, or with the refusal
abbrev pub Writable : ℕ → List ℕ → ℕ → Layout → Type 0
Writable n codes room layout =
    (first (write_checks n codes room) ≡ None) × (layout.variables ≡ n) × (layout.form ≡ form_for n codes)
    × (layout.points ≤ length codes) × (layout.length ≤ room)

abbrev pub Unwritable : ℕ → List ℕ → ℕ → WriteFault → Type 0
Unwritable n codes room fault = first (write_checks n codes room) ≡ Some fault
