-- The layout of a dictionary entry.
-- First byte n, then the lower row, then the upper row; or first byte 16 + n and one row that serves as both.
-- A row of 2 ^ n digits takes one byte for n below 3, else 2 ^ n / 8 bytes:
-- assignment i is the digit of weight 2 ^ (i mod 8) in byte i div 8, and digits from 2 ^ n on are 0.
use Rattle.std.specs.Prelude.{◌≡◌, ℕ, ◌+◌, ◌-◌, ◌/◌, ◌%◌, ◌^◌, ◌<◌, Bool, true, false, if◌then◌else◌, not, ◌&&◌, List, map, take, drop, ◌==◌, nat_lt, slice_index}
use Rattle.std.specs.List.{range_with_len}
use Rattle.tables.specs.Tables.{digit, Admits}
use Rattle.questions.specs.declared.form.Form.{Form}
use Rattle.questions.specs.declared.form.Form.TheVariants.{TwoRows, OneRow}

-- what the first byte says
abbrev pub variables_of : ℕ → ℕ
variables_of b = if nat_lt b 16 then b else (b - 16)

abbrev pub form_of : ℕ → Form
form_of b = if nat_lt b 16 then TwoRows else OneRow

-- how many bytes a row takes
abbrev pub row_length : ℕ → ℕ
row_length n = if nat_lt n 3 then 1 else (2 ^ n / 8)

-- the byte of the entry at which the upper row starts; the lower row starts at byte 1
abbrev pub upper_start : ℕ → Form → ℕ
upper_start n TwoRows = 1 + row_length n
upper_start n OneRow = 1

abbrev pub entry_length : ℕ → Form → ℕ
entry_length n form = upper_start n form + row_length n

-- the bytes of the row that starts at a byte
abbrev pub row_from : ℕ → List ℕ → ℕ → List ℕ
row_from n bytes start = take (row_length n) (drop start bytes)

-- the digit for assignment i in the row that starts at a byte
abbrev pub row_digit : List ℕ → ℕ → ℕ → ℕ
row_digit bytes start i = digit (i % 8) (slice_index bytes (start + i / 8))

abbrev pub lower : List ℕ → ℕ → ℕ
lower bytes i = row_digit bytes 1 i

abbrev pub upper : ℕ → Form → List ℕ → ℕ → ℕ
upper n form bytes i = row_digit bytes (upper_start n form) i

-- the code of an assignment: 1 where the lower row is 1, 0 where the upper row is 0, 2 elsewhere
abbrev pub code_by : ℕ → ℕ → ℕ
code_by low high = if low == 1 then 1 else (if high == 0 then 0 else 2)

abbrev pub code : ℕ → Form → List ℕ → ℕ → ℕ
code n form bytes i = code_by (lower bytes i) (upper n form bytes i)

abbrev pub table : ℕ → Form → List ℕ → List ℕ
table n form bytes = map (code n form bytes) (range_with_len 0 (2 ^ n))

-- a byte of a row has a digit set from 2 ^ n on, which only a row of fewer than 8 digits can have
abbrev pub spare : ℕ → ℕ → Bool
spare n byte = nat_lt n 3 && not (byte / 2 ^ 2 ^ n == 0)

-- a function lies between the rows of an entry: it is 1 where the lower row is 1, and 0 where the upper row is 0
abbrev pub Between : ℕ → Form → List ℕ → (ℕ → Bool) → Type 0
Between n form bytes f = (i : ℕ) → i < 2 ^ n → (lower bytes i ≡ 1 → f i ≡ true) × (upper n form bytes i ≡ 0 → f i ≡ false)

-- the functions that a row's table admits are those between the rows of the entry
abbrev pub AdmitsBetween : ℕ → Form → List ℕ → List ℕ → Type 0
AdmitsBetween n form bytes row = (f : ℕ → Bool) → (Admits n row f → Between n form bytes f) × (Between n form bytes f → Admits n row f)
