-- The number that each refusal of a split reports, and the spot that it names, 0 where it names none.
use Rattle.std.specs.Prelude.{ℕ}
use Rattle.gatesets.specs.declared.refusal.SplitRefusal.{SplitRefusal}
use Rattle.gatesets.specs.declared.refusal.SplitRefusal.TheVariants.{Variables, TooShort, Code, Gate, Groups, NoPair}

abbrev pub split_number : SplitRefusal → ℕ
split_number Variables = 1
split_number TooShort = 2
split_number (Code index) = 5
split_number Gate = 8
split_number Groups = 9
split_number NoPair = 20

abbrev pub split_spot : SplitRefusal → ℕ
split_spot Variables = 0
split_spot TooShort = 0
split_spot (Code index) = index
split_spot Gate = 0
split_spot Groups = 0
split_spot NoPair = 0
