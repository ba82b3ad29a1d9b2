-- Assignments, codes, and the functions that a table admits.
-- An assignment is a number below 2 ^ n, and variable k has in it the value of the digit of weight 2 ^ k.
-- A table of n variables is a row of 2 ^ n codes, one for each assignment.
use Rattle.std.specs.Prelude.{◌≡◌, ℕ, ◌/◌, ◌%◌, ◌^◌, ◌<◌, Bool, true, false, if◌then◌else◌, ◌&&◌, List, Some, None, count_by, Option, nat_eq, nat_le, slice_index}
use Rattle.tables.specs.declared.counts.Counts.{Counts}

-- the digit of weight 2 ^ k in the number i
abbrev pub digit : ℕ → ℕ → ℕ
digit k i = i / 2 ^ k % 2

-- a table has 1 to 10 variables
abbrev pub lawful_size : ℕ → Bool
lawful_size n = nat_le 1 n && nat_le n 10

-- the number of assignments of n variables, where a table may have so many
abbrev pub sized : ℕ → Option ℕ
sized n = if lawful_size n then Some (2 ^ n) else None

-- the code c allows the value v: 0 must be 0, 1 must be 1, 2 is free
abbrev pub Allows : ℕ → Bool → Type 0
Allows c v = (c ≡ 0 → v ≡ false) × (c ≡ 1 → v ≡ true)

-- a table of n variables admits the function f: at every assignment the code allows its value
abbrev pub Admits : ℕ → List ℕ → (ℕ → Bool) → Type 0
Admits n codes f = (i : ℕ) → i < 2 ^ n → Allows (slice_index codes i) (f i)

-- how often each code stands in a row
abbrev pub counted : List ℕ → Counts
counted row =
    record {
      zeros = count_by (λ c. nat_eq c 0) row;
      ones = count_by (λ c. nat_eq c 1) row;
      frees = count_by (λ c. nat_eq c 2) row;
    }
