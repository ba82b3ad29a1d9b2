-- A dictionary written anew: the same tables in the same order, each entry as the writer gives it.
use Rattle.std.specs.Prelude.{◌≡◌, ℕ, ◌+◌, List, [], ◌∷◌, map, length, Some, None}
use Rattle.questions.specs.Writing.{form_for, entry_bytes}
use Rattle.questions.specs.Dictionaries.{Item, table_of, Holds, ReadsAs, written}
use Rattle.questions.specs.declared.rewrite.Rewritten.{Rewritten}
use Rattle.questions.specs.declared.rewrite.RewriteError.{RewriteError}
use Rattle.questions.specs.declared.rewrite.RewriteError.TheVariants.{Stopped, Memory}

-- where an entry of a file goes when its table is written anew at a byte number, and in which form
abbrev pub rewritten : ℕ → Item → Rewritten
rewritten to item = record { from = item.at; to = to; before = item.entry.form; after = form_for item.entry.variables item.codes }

-- and all entries, one after the other from a byte number on
abbrev pub rewrites : ℕ → List Item → List Rewritten
rewrites to [] = []
rewrites to (item ∷ items) = rewritten to item ∷ rewrites (to + length (entry_bytes item.entry.variables item.codes)) items

-- a file whose entries are all accepted, and the file that its tables are written as
pub record RewrittenAs (file bytes : List ℕ) (entries : List Rewritten) : Type 0 where
  pub items : List Item
  pub held : Holds file 0 items None
  pub bytes_are : bytes ≡ written (map table_of items)
  pub entries_are : entries ≡ rewrites 0 items
  pub same_tables : ReadsAs bytes (map table_of items)

-- the file stops at an entry that is refused; of want of memory nothing is said
abbrev pub NotRewritten : List ℕ → RewriteError → Type 0
NotRewritten file (Stopped stop) = (items : List Item) × Holds file 0 items (Some stop)
NotRewritten file Memory = Unit {0}
