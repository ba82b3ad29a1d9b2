-- A dictionary: a file of entries that follow one another, and a list of tables written as such a file.
use Rattle.std.specs.Prelude.{All, ◌≡◌, ℕ, ◌^◌, ◌<◌, ◌≤◌, IsTrue, List, [], ◌∷◌, ◌++◌, map, length, take, drop, Some, None, Ok, Err, Option}
use Rattle.std.specs.List.{flat_map}
use Rattle.tables.specs.Checks.{first}
use Rattle.tables.specs.Tables.{lawful_size, counted}
use Rattle.questions.specs.Layouts.{table}
use Rattle.questions.specs.Entries.{reading}
use Rattle.questions.specs.Writing.{form_for, entry_bytes, write_checks, ReadsBack}
use Rattle.questions.specs.declared.append.AppendError.{AppendError}
use Rattle.questions.specs.declared.append.AppendError.TheVariants.{Refused, Memory}
use Rattle.questions.specs.declared.listing.Listed.{Listed}
use Rattle.questions.specs.declared.listing.Stop.{Stop}
use Rattle.questions.specs.declared.fault.EntryFault.{EntryFault}
use Rattle.questions.specs.declared.reader.Entry.{Entry}

-- a table: its number of variables and its codes
pub record Table : Type 0 where
  pub variables : ℕ
  pub codes : List ℕ

-- a table has 1 to 10 variables, a code for each assignment, and no code above 2
abbrev pub Lawful : Table → Type 0
Lawful t = IsTrue (lawful_size t.variables) × (length t.codes ≡ 2 ^ t.variables) × All (λ c. c ≤ 2) t.codes

-- an entry as it stands in a file: its byte number, what was read, and its codes
pub record Item : Type 0 where
  pub at : ℕ
  pub entry : Entry
  pub codes : List ℕ

abbrev pub table_of : Item → Table
table_of item = record { variables = item.entry.variables; codes = item.codes }

-- the number of codes of a row that takes any table
abbrev pub any_table : ℕ
any_table = 1024

-- the number of bytes of an output row that takes any entry
abbrev pub any_entry : ℕ
any_entry = 257

abbrev pub item_at : List ℕ → ℕ → Entry → Item
item_at file at e = record { at = at; entry = e; codes = table e.variables e.form (drop at file) }

-- what a file holds from a byte number on: the entries one after the other, up to its end or to the first that is refused
pub data Holds (file : List ℕ) : ℕ → List Item → Option Stop → Type 0 where
  ended : (at : ℕ) → length file ≤ at → Holds file at [] None
  stopped : (at : ℕ) (fault : EntryFault) → at < length file → reading file at any_table ≡ Err fault → Holds file at [] (Some (record { at = at; fault = fault }))
  entry : (at : ℕ) (e : Entry) (items : List Item) (ending : Option Stop) → at < length file → reading file at any_table ≡ Ok e
      → Holds file e.next items ending → Holds file at (item_at file at e ∷ items) ending

-- a file holds one list of entries, with one ending
abbrev pub HoldsOneList : Type 0
HoldsOneList =
    (file : List ℕ) (at : ℕ) (items others : List Item) (ending other : Option Stop)
    → Holds file at items ending → Holds file at others other → (items ≡ others) × (ending ≡ other)

-- the tables of a file that holds nothing but entries
abbrev pub ReadsAs : List ℕ → List Table → Type 0
ReadsAs file tables = (items : List Item) × Holds file 0 items None × (map table_of items ≡ tables)

-- a list of tables written one after the other
abbrev pub written : List Table → List ℕ
written = flat_map (λ t. entry_bytes t.variables t.codes)

-- an entry appended to a file: the writer accepts the table, its bytes are added, and the reader finds it there, with the answer that was given
pub record Appended (n : ℕ) (codes before after : List ℕ) (answer : Entry) : Type 0 where
  pub passes : first (write_checks n codes any_entry) ≡ None
  pub bytes : after ≡ before ++ entry_bytes n codes
  pub entry_is : answer ≡ record { variables = n; form = form_for n codes; next = length after }
  pub read_there : reading after (length before) any_table ≡ Ok answer
  pub table_there : (item_at after (length before) answer).codes ≡ take (2 ^ n) codes

-- why none is: the writer's own refusal, or want of memory where the writer would accept
abbrev pub NotAppended : ℕ → List ℕ → AppendError → Type 0
NotAppended n codes (Refused fault) = first (write_checks n codes any_entry) ≡ Some fault
NotAppended n codes Memory = first (write_checks n codes any_entry) ≡ None

-- what is written of any table is read back as that table, with the next byte number behind it, wherever in a file it stands
abbrev pub EveryTableReadsBack : Type 0
EveryTableReadsBack = (t : Table) → Lawful t → ReadsBack t.variables t.codes (entry_bytes t.variables t.codes)

-- a file made by writing any list of tables reads back as that list, in that order
abbrev pub EveryListReadsBack : Type 0
EveryListReadsBack = (tables : List Table) → All Lawful tables → ReadsAs (written tables) tables

-- what a listing says of an entry
abbrev pub listed : Item → Listed
listed item = record { at = item.at; entry = item.entry; counts = counted item.codes }
