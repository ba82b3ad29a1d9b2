-- Walking through a dictionary, entry by entry.
use Rattle.std.proofs.Common.{◌≡◌, ℕ, ◌<◌, ◌≤◌, true, not, List, [], ◌∷◌, ◌++◌, length, get_or, drop, Some, None, Ok, Option, Result, sym, subst, subst₂, arith}
use Rattle.std.proofs.lemmas.List.{append_assoc, append-nil, length-drop}
use Rattle.std.proofs.lemmas.Bool.{not-false, or_parts, ltb-false}
use Rattle.tables.specs.Tables.{lawful_size}
use Rattle.tables.proofs.Passing.{all_pass, then_some-none, answered_ok}
use Rattle.questions.specs.declared.listing.Stop.{Stop}
use Rattle.questions.specs.declared.fault.EntryFault.TheVariants.{Variables, TooShort}
use Rattle.questions.specs.declared.form.Form.{Form}
use Rattle.questions.specs.declared.reader.Entry.{Entry}
use Rattle.questions.specs.Layouts.{variables_of, form_of, entry_length}
use Rattle.questions.specs.Entries.{entry_checks, refusal, reading}
use Rattle.questions.specs.declared.found.Found.{Found}
use Rattle.questions.specs.Walks.{item_of, WalksTo}
use Rattle.questions.specs.Dictionaries.{Item, Holds}
use Rattle.questions.proofs.RowSizes.{entry_some}
use Rattle.questions.proofs.Answering.{entry_of}

-- what an accepted entry says of its sizes
pub record Sized (file : List ℕ) (at : ℕ) (e : Entry) : Type 0 where
  pub lawful : lawful_size e.variables ≡ true
  pub onward : at < e.next
  pub within : at < length file → e.next ≤ length file

-- by its checks
pub sized_entry : (file : List ℕ) (at room : ℕ) (e : Entry) → reading file at room ≡ Ok e → Sized file at e
sized_entry file at room e h = subst (Sized file at) ok.1 here
  where
    ok : (refusal (drop at file) room ≡ None) × (entry_of (drop at file) at ≡ e)
    ok = answered_ok (refusal (drop at file) room) (entry_of (drop at file) at) e h

    here : Sized file at (entry_of (drop at file) at)
    here =
        let n : ℕ = variables_of (get_or (drop at file) 0 0) in
        let form : Form = form_of (get_or (drop at file) 0 0) in
        let passed = all_pass (entry_checks n form (drop at file) room) ok.0 in
        let short = or_parts _ _ (then_some-none _ TooShort passed.1.1.0) in
        let long : entry_length n form ≤ length (drop at file) = ltb-false (length (drop at file)) (entry_length n form) short.0 in
        record {
          lawful = not-false (lawful_size n) (then_some-none (not (lawful_size n)) Variables passed.1.0);
          onward = omega (arith, entry_some n form);
          within = λ l. omega (arith, length-drop at file);
        }

-- so it has 1 to 10 variables
pub lawful_read : (file : List ℕ) (at room : ℕ) (e : Entry) → reading file at room ≡ Ok e → lawful_size e.variables ≡ true
lawful_read file at room e h = (sized_entry file at room e h).lawful

-- the entries passed on the way to a byte number: whatever the file holds from there on, from its start it holds these before
abbrev pub Passed : List ℕ → List Item → ℕ → Type 0
Passed file done at = (items : List Item) (ending : Option Stop) → Holds file at items ending → Holds file 0 (done ++ items) ending

-- one entry more
passed_more : (file : List ℕ) (done : List Item) (item : Item) (at next : ℕ) → Passed file done at
    → ((items : List Item) (ending : Option Stop) → Holds file next items ending → Holds file at (item ∷ items) ending) → Passed file (done ++ item ∷ []) next
passed_more file done item at next p step items ending h =
    subst (λ all. Holds file 0 all ending) (sym (append_assoc done (item ∷ []) items)) (p (item ∷ items) ending (step items ending h))

-- at the end of the file, or at an entry that is refused
pub passed_all : (file : List ℕ) (done : List Item) (at : ℕ) (ending : Option Stop) → Passed file done at → Holds file at [] ending → Holds file 0 done ending
passed_all file done at ending p h = subst (λ all. Holds file 0 all ending) (append-nil done) (p [] ending h)

-- a step of a walk through the file that found an entry
pub found_more : (file walked : List ℕ) (done : List Item) (at next : ℕ) (r : Result Found Stop) (found : Found) → walked ≡ file → Passed file done at
    → WalksTo walked at (Some r) next → r ≡ Ok found → Passed file (done ++ item_of found ∷ []) next
found_more file walked done at next r found same p step e =
    passed_more file done (item_of found) at next p (subst₂ (λ f o. WalksTo f at (Some o) next) same e step)
