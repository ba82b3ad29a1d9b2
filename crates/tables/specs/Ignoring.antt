-- The ignore-test: the order of its checks, and the numbers and spots of its refusals.
use Rattle.std.specs.Prelude.{ℕ, ◌^◌, not, List, [], ◌∷◌, Option, nat_lt}
use Rattle.std.specs.Bool.{then_some}
use Rattle.tables.specs.Tables.{lawful_size}
use Rattle.tables.specs.declared.ignoring.IgnoreRefusal.{IgnoreRefusal}
use Rattle.tables.specs.declared.ignoring.IgnoreRefusal.TheVariants.{Size, Short}

-- the checks of the ignore-test, in their order, for n variables and a row of so many entries
abbrev pub ignore_checks : ℕ → ℕ → List (Option IgnoreRefusal)
ignore_checks n entries = then_some (not (lawful_size n)) Size ∷ then_some (nat_lt entries (2 ^ n)) Short ∷ []

-- the number that each refusal reports
abbrev pub ignore_number : IgnoreRefusal → ℕ
ignore_number Size = 1
ignore_number Short = 2

-- no refusal of the ignore-test names a spot
abbrev pub ignore_spot : IgnoreRefusal → ℕ
ignore_spot Size = 0
ignore_spot Short = 0
