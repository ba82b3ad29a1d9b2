-- How an entry is read: the order of the reader's checks, its answer, and what the row then holds.
use Rattle.std.specs.Prelude.{◌≡◌, ℕ, ◌+◌, ◌^◌, ◌≤◌, Bool, not, ◌&&◌, ◌||◌, List, [], ◌∷◌, ◌++◌, length, drop, Some, None, Ok, Err, Option, Result, ◌==◌, nat_le, nat_lt, slice_index}
use Rattle.std.specs.Option.{option_map}
use Rattle.std.specs.Bool.{then_some}
use Rattle.tables.specs.Checks.{first, lowest, answered}
use Rattle.tables.specs.Tables.{lawful_size}
use Rattle.questions.specs.Layouts.{variables_of, form_of, entry_length, spare, lower, upper, table}
use Rattle.questions.specs.declared.fault.EntryFault.{EntryFault}
use Rattle.questions.specs.declared.fault.EntryFault.TheVariants.{NoByte, Variables, TooShort, SpareDigit, LowerAboveUpper}
use Rattle.questions.specs.declared.form.Form.{Form}
use Rattle.questions.specs.declared.layout.Layout.{Layout}
use Rattle.questions.specs.declared.reader.Entry.{Entry}

-- the byte k of an entry, one of its rows', has a spare digit set
abbrev pub spare_at : ℕ → List ℕ → ℕ → Bool
spare_at n bytes k = nat_le 1 k && spare n (slice_index bytes k)

-- the lower row is above the upper row at the assignment i
abbrev pub above_at : ℕ → Form → List ℕ → ℕ → Bool
above_at n form bytes i = nat_lt (upper n form bytes i) (lower bytes i)

-- the checks, in their order, over the bytes from the entry's start on and a row of so many codes
abbrev pub entry_checks : ℕ → Form → List ℕ → ℕ → List (Option EntryFault)
entry_checks n form bytes room =
    then_some (length bytes == 0) NoByte
    ∷ then_some (not (lawful_size n)) Variables
    ∷ then_some (nat_lt (length bytes) (entry_length n form) || nat_lt room (2 ^ n)) TooShort
    ∷ option_map SpareDigit (lowest (entry_length n form) (spare_at n bytes))
    ∷ option_map LowerAboveUpper (lowest (2 ^ n) (above_at n form bytes))
    ∷ []

-- the refusal of the bytes from an entry's start on, whose first byte says the layout
abbrev pub refusal : List ℕ → ℕ → Option EntryFault
refusal bytes room = first (entry_checks (variables_of (slice_index bytes 0)) (form_of (slice_index bytes 0)) bytes room)

-- what the reader answers at a byte number of a file: the bytes from there on are the entry's and what follows
abbrev pub reading_from : List ℕ → ℕ → ℕ → Result Entry EntryFault
reading_from bytes at room =
    let n : ℕ = variables_of (slice_index bytes 0) in
    let form : Form = form_of (slice_index bytes 0) in
    answered (refusal bytes room) (record { variables = n; form = form; next = at + entry_length n form })

abbrev pub reading : List ℕ → ℕ → ℕ → Result Entry EntryFault
reading file at room = reading_from (drop at file) at room

-- what the row holds then: the table and what stood behind it, or after a refusal what it held
abbrev pub row_after : Result Entry EntryFault → List ℕ → ℕ → List ℕ → List ℕ
row_after (Ok entry) file at row = table entry.variables entry.form (drop at file) ++ drop (2 ^ entry.variables) row
row_after (Err fault) file at row = row

-- the checks of an entry's bytes end with the layout that its first byte says, or with the refusal
abbrev pub Accepted : List ℕ → ℕ → Layout → Type 0
Accepted bytes room layout =
    (refusal bytes room ≡ None) × (layout.variables ≡ variables_of (slice_index bytes 0)) × (layout.form ≡ form_of (slice_index bytes 0))
    × (layout.length ≤ length bytes) × (layout.points ≤ room)

abbrev pub Refused : List ℕ → ℕ → EntryFault → Type 0
Refused bytes room fault = refusal bytes room ≡ Some fault
