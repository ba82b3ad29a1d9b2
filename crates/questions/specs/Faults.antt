-- The number that each refusal reports, and the spot that it names, 0 where it names none.
use Rattle.std.specs.Prelude.{ℕ}
use Rattle.questions.specs.declared.fault.EntryFault.{EntryFault}
use Rattle.questions.specs.declared.fault.EntryFault.TheVariants as entry
use Rattle.questions.specs.declared.fault.WriteFault.{WriteFault}
use Rattle.questions.specs.declared.fault.WriteFault.TheVariants as write

abbrev pub entry_number : EntryFault → ℕ
entry_number entry.NoByte = 2
entry_number entry.Variables = 1
entry_number entry.TooShort = 2
entry_number (entry.SpareDigit byte) = 3
entry_number (entry.LowerAboveUpper assignment) = 4

abbrev pub entry_spot : EntryFault → ℕ
entry_spot entry.NoByte = 0
entry_spot entry.Variables = 0
entry_spot entry.TooShort = 0
entry_spot (entry.SpareDigit byte) = byte
entry_spot (entry.LowerAboveUpper assignment) = assignment

abbrev pub write_number : WriteFault → ℕ
write_number write.Variables = 1
write_number write.TooShort = 2
write_number (write.Code index) = 5

abbrev pub write_spot : WriteFault → ℕ
write_spot write.Variables = 0
write_spot write.TooShort = 0
write_spot (write.Code index) = index
