-- A walk through a file: what each step gives of the entries that the file holds.
use Rattle.std.specs.Prelude.{ℕ, List, [], ◌∷◌, Some, None, Ok, Err, Option, Result}
use Rattle.questions.specs.Layouts.{table}
use Rattle.questions.specs.Dictionaries.{Item, Holds}
use Rattle.questions.specs.declared.listing.Stop.{Stop}
use Rattle.questions.specs.declared.found.Found.{Found}

-- the entry that a walk found
abbrev pub item_of : Found → Item
item_of found = record { at = found.at; entry = found.entry; codes = table found.entry.variables found.entry.form found.rows.bytes.now }

-- what a step from a byte number gives: the file holds nothing from there on, or stops there, or holds an entry and then what it holds from the next byte number on
abbrev pub WalksTo : List ℕ → ℕ → Option (Result Found Stop) → ℕ → Type 0
WalksTo file at None next = Holds file at [] None
WalksTo file at (Some (Err stop)) next = Holds file at [] (Some stop)
WalksTo file at (Some (Ok found)) next =
    (items : List Item) (ending : Option Stop) → Holds file next items ending → Holds file at (item_of found ∷ items) ending
