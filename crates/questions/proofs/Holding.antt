-- A file holds one list of entries only, since the reader gives one answer at each byte number.
use Rattle.std.proofs.Common.{◌≡◌, ℕ, ◌<◌, ◌≤◌, ◌∷◌, length, Some, Ok, Err, Result, sym, refl, ap, subst, ap₂, arith}
use Rattle.tables.proofs.Passing.{clash}
use Rattle.questions.specs.declared.fault.EntryFault.{EntryFault}
use Rattle.questions.specs.declared.reader.Entry.{Entry}
use Rattle.questions.specs.Entries.{reading}
use Rattle.questions.specs.Dictionaries.{item_at, any_table, Holds, ended, stopped, entry, HoldsOneList}

-- two answers to one question are one
same_entry : (r : Result Entry EntryFault) (e f : Entry) → r ≡ Ok e → r ≡ Ok f → e ≡ f
same_entry r e f p q = cc

-- as to a refusal
same_fault : (r : Result Entry EntryFault) (e f : EntryFault) → r ≡ Err e → r ≡ Err f → e ≡ f
same_fault r e f p q = cc

-- an answer is no refusal
not_both : {X : Type 0} (r : Result Entry EntryFault) (e : Entry) (f : EntryFault) → r ≡ Ok e → r ≡ Err f → X
not_both r e f p q = clash (cc)

-- a byte number is not both past the end and before it
past : {X : Type 0} (m n : ℕ) → m ≤ n → n < m → X
past m n l h = absurd (let y : ⊥ = omega arith in y)

-- two lists that a file holds from one byte number on are one
pub holds_one_list : HoldsOneList
holds_one_list file at items others ending other (ended _ l) (ended _ m) = (refl, refl)
holds_one_list file at items others ending other (ended _ l) (stopped _ fault m r) = past (length file) at l m
holds_one_list file at items others ending other (ended _ l) (entry _ e is o m r h) = past (length file) at l m
holds_one_list file at items others ending other (stopped _ fault l q) (ended _ m) = past (length file) at m l
holds_one_list file at items others ending other (stopped _ fault l q) (stopped _ gault m r) =
    (refl, ap (λ f. Some (record { at = at; fault = f })) (same_fault (reading file at any_table) fault gault q r))
holds_one_list file at items others ending other (stopped _ fault l q) (entry _ e is o m r h) = not_both (reading file at any_table) e fault r q
holds_one_list file at items others ending other (entry _ e is o l q h) (ended _ m) = past (length file) at m l
holds_one_list file at items others ending other (entry _ e is o l q h) (stopped _ fault m r) = not_both (reading file at any_table) e fault q r
holds_one_list file at items others ending other (entry _ e is o l q h) (entry _ f js p m r k) =
    let same = same_entry (reading file at any_table) e f q r in
    let rest = holds_one_list file e.next is js o p h (subst (λ x. Holds file x.next js p) (sym same) k) in
    (ap₂ (λ x xs. item_at file at x ∷ xs) same rest.0, rest.1)
