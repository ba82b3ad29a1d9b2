-- What an accepted entry means: its table admits the functions between its rows.
use Rattle.std.proofs.Common.{◌≡◌, ℕ, ◌^◌, ◌<◌, ◌≤◌, Bool, true, false, List, ◌++◌, length, get_or, drop, None, Ok, sym, ap, ◌∙◌, subst, arith}
use Rattle.std.proofs.lemmas.List.FromFn.{length-map-range_with_len, get_or-map-range_with_len}
use Rattle.std.proofs.lemmas.List.{get_or_append_left}
use Rattle.std.proofs.lemmas.Bool.{ltb-false}
use Rattle.std.proofs.lemmas.Bool.Decides.{nat_tests}
use Rattle.tables.specs.Tables.{Allows}
use Rattle.tables.specs.Checks.{first, lowest}
use Rattle.tables.proofs.Passing.{all_pass, option_map-none, none_below, answered_ok}
use Rattle.questions.specs.declared.form.Form.{Form}
use Rattle.questions.specs.declared.reader.Entry.{Entry}
use Rattle.questions.specs.declared.fault.EntryFault.TheVariants.{LowerAboveUpper}
use Rattle.questions.specs.Layouts.{lower, upper, code_by, code, table, AdmitsBetween}
use Rattle.questions.specs.Entries.{entry_checks, above_at, refusal, reading}
use Rattle.questions.proofs.Answering.{entry_of}

-- the code of two digits, the lower not above the upper, allows the values between them
code_allows : (low high : ℕ) (v : Bool) → low ≤ high
    → (Allows (code_by low high) v → (low ≡ 1 → v ≡ true) × (high ≡ 0 → v ≡ false))
    × ((low ≡ 1 → v ≡ true) × (high ≡ 0 → v ≡ false) → Allows (code_by low high) v)
code_allows low high v within = (
  λ h. (
    λ e. let one : code_by low high ≡ 1 = grind (arith, nat_tests) in h.1 one,
    λ e. let zero : code_by low high ≡ 0 = grind (arith, nat_tests) in h.0 zero,
  ),
  λ h. (
    λ e. let none : high ≡ 0 = grind (arith, nat_tests) in h.1 none,
    λ e. let one : low ≡ 1 = grind (arith, nat_tests) in h.0 one,
  ),
)

-- a row that holds the codes of an entry, none of whose assignments is lower above upper
admits_between : (n : ℕ) (form : Form) (bytes row : List ℕ) → ((i : ℕ) → i < 2 ^ n → above_at n form bytes i ≡ false)
    → ((i : ℕ) → i < 2 ^ n → get_or row i 0 ≡ code n form bytes i) → AdmitsBetween n form bytes row
admits_between n form bytes row within codes f = (
  λ h i l. (at i l).0 (subst (λ x. Allows x (f i)) (codes i l) (h i l)),
  λ h i l. subst (λ x. Allows x (f i)) (sym (codes i l)) ((at i l).1 (h i l)),
)
  where
    at : (i : ℕ) → i < 2 ^ n
        → (Allows (code n form bytes i) (f i) → (lower bytes i ≡ 1 → f i ≡ true) × (upper n form bytes i ≡ 0 → f i ≡ false))
        × ((lower bytes i ≡ 1 → f i ≡ true) × (upper n form bytes i ≡ 0 → f i ≡ false) → Allows (code n form bytes i) (f i))
    at i l = code_allows (lower bytes i) (upper n form bytes i) (f i) (ltb-false (upper n form bytes i) (lower bytes i) (within i l))

-- an accepted entry: the last check found nothing
pub none_above : (n : ℕ) (form : Form) (bytes : List ℕ) (room : ℕ) → first (entry_checks n form bytes room) ≡ None
    → (i : ℕ) → i < 2 ^ n → above_at n form bytes i ≡ false
none_above n form bytes room e =
    let passed = all_pass (entry_checks n form bytes room) e in
    none_below (above_at n form bytes) (2 ^ n) (option_map-none LowerAboveUpper (lowest (2 ^ n) (above_at n form bytes)) passed.1.1.1.1.0)

-- the row after an accepted entry
table-codes : (n : ℕ) (form : Form) (bytes rest : List ℕ) (i : ℕ) → i < 2 ^ n → get_or (table n form bytes ++ rest) i 0 ≡ code n form bytes i
table-codes n form bytes rest i l =
    let long : i < length (table n form bytes) = rw (length-map-range_with_len (code n form bytes) 0 (2 ^ n)) l in
    get_or_append_left (table n form bytes) rest 0 i long ∙ get_or-map-range_with_len (code n form bytes) 0 (2 ^ n) i i 0 l (omega arith)

-- so the row after an entry that was read admits the functions between the entry's rows
pub read_between : (file : List ℕ) (at room : ℕ) (e : Entry) (rest row : List ℕ) → reading file at room ≡ Ok e
    → row ≡ table e.variables e.form (drop at file) ++ rest → AdmitsBetween e.variables e.form (drop at file) row
read_between file at room e rest row read r =
    let bytes = drop at file in
    let n = e.variables in
    let form = e.form in
    let ok = answered_ok (refusal bytes room) (entry_of bytes at) e read in
    let passed : first (entry_checks n form bytes room) ≡ None = subst (λ x. first (entry_checks x.variables x.form bytes room) ≡ None) ok.1 ok.0 in
    admits_between n form bytes row (none_above n form bytes room passed) (λ i l. ap (λ xs. get_or xs i 0) r ∙ table-codes n form bytes rest i l)
