-- The worked questions, as one table.
use Rattle.std.specs.Prelude.{◌≡◌, ℕ, List, [], ◌∷◌, map, drop, Ok, Err, Result}
use Rattle.questions.specs.Faults.{entry_number, entry_spot, write_number, write_spot}
use Rattle.questions.specs.Layouts as layouts
use Rattle.questions.specs.Entries.{reading}
use Rattle.questions.specs.Writing.{writing, entry_bytes}
use Rattle.questions.specs.declared.fault.EntryFault.{EntryFault}
use Rattle.questions.specs.declared.fault.WriteFault.{WriteFault}
use Rattle.questions.specs.declared.reader.Entry.{Entry}

-- what is asked
pub data Question : Type 0 where
  -- the entry at a byte number of a file, read into a row of so many codes
  read : List ℕ → ℕ → ℕ → Question
  -- a table of n variables with these codes, written into an output row of so many bytes
  write : ℕ → List ℕ → ℕ → Question

-- what the definitions answer
pub data Answer : Type 0 where
  -- n, the byte number of the next entry, and the codes
  table : ℕ → ℕ → List ℕ → Answer
  -- the bytes of an entry
  entry : List ℕ → Answer
  -- the number of a refusal and its spot
  refused : ℕ → ℕ → Answer

abbrev pub read_answer : List ℕ → Result Entry EntryFault → Answer
read_answer bytes (Ok e) = table e.variables e.next (layouts.table e.variables e.form bytes)
read_answer bytes (Err fault) = refused (entry_number fault) (entry_spot fault)

abbrev pub write_answer : List ℕ → Result ℕ WriteFault → Answer
write_answer bytes (Ok size) = entry bytes
write_answer bytes (Err fault) = refused (write_number fault) (write_spot fault)

abbrev pub answer : Question → Answer
answer (read file at room) = read_answer (drop at file) (reading file at room)
answer (write n codes room) = write_answer (entry_bytes n codes) (writing n codes room)

pub record Case : Type 0 where
  pub asked : Question
  pub gives : Answer

abbrev pub case : Question → Answer → Case
case question reply = record { asked = question; gives = reply }

abbrev pub questions : List Case
questions =
    -- lower above upper, at the lowest such assignment
    case (read (0x02 ∷ 0x0E ∷ 0x01 ∷ []) 0 4) (refused 4 1)
    -- both forms, at n = 1, 2 and 3, and behind other bytes
    ∷ case (read (0x01 ∷ 0x01 ∷ 0x03 ∷ []) 0 2) (table 1 3 (1 ∷ 2 ∷ []))
    ∷ case (read (0x11 ∷ 0x02 ∷ []) 0 2) (table 1 2 (0 ∷ 1 ∷ []))
    ∷ case (read (0x02 ∷ 0x04 ∷ 0x0E ∷ []) 0 4) (table 2 3 (0 ∷ 2 ∷ 1 ∷ 2 ∷ []))
    ∷ case (read (0x12 ∷ 0x06 ∷ 0xFF ∷ []) 0 4) (table 2 2 (0 ∷ 1 ∷ 1 ∷ 0 ∷ []))
    ∷ case (read (0x03 ∷ 0x80 ∷ 0x81 ∷ []) 0 8) (table 3 3 (2 ∷ 0 ∷ 0 ∷ 0 ∷ 0 ∷ 0 ∷ 0 ∷ 1 ∷ []))
    ∷ case (read (0x12 ∷ 0x06 ∷ 0x11 ∷ 0x01 ∷ []) 2 9) (table 1 4 (1 ∷ 0 ∷ []))
    -- no byte there
    ∷ case (read [] 0 4) (refused 2 0)
    ∷ case (read (0x11 ∷ 0x01 ∷ []) 2 4) (refused 2 0)
    -- first bytes that name no number of variables, before any length is looked at
    ∷ case (read (0x00 ∷ []) 0 0) (refused 1 0)
    ∷ case (read (0x0B ∷ []) 0 0) (refused 1 0)
    ∷ case (read (0x10 ∷ []) 0 0) (refused 1 0)
    ∷ case (read (0x1B ∷ []) 0 0) (refused 1 0)
    -- too few bytes, or a row too short, before spare digits
    ∷ case (read (0x02 ∷ 0xFF ∷ []) 0 4) (refused 2 0)
    ∷ case (read (0x12 ∷ 0xFF ∷ []) 0 3) (refused 2 0)
    -- a spare digit in either row, before lower above upper
    ∷ case (read (0x02 ∷ 0x1E ∷ 0x01 ∷ []) 0 4) (refused 3 1)
    ∷ case (read (0x01 ∷ 0x03 ∷ 0x04 ∷ []) 0 2) (refused 3 2)
    -- the one-row form exactly when nothing is free
    ∷ case (write 2 (0 ∷ 1 ∷ 1 ∷ 0 ∷ []) 2) (entry (0x12 ∷ 0x06 ∷ []))
    ∷ case (write 2 (0 ∷ 2 ∷ 1 ∷ 2 ∷ 7 ∷ []) 3) (entry (0x02 ∷ 0x04 ∷ 0x0E ∷ []))
    -- what the writer refuses, in its order
    ∷ case (write 11 [] 0) (refused 1 0)
    ∷ case (write 2 (9 ∷ 2 ∷ 1 ∷ 0 ∷ []) 2) (refused 2 0)
    ∷ case (write 2 (0 ∷ 1 ∷ 3 ∷ 9 ∷ []) 2) (refused 5 2)
    ∷ []

-- each worked question is answered as the table says
abbrev pub Worked : Type 0
Worked = map (λ c. answer c.asked) questions ≡ map (λ c. c.gives) questions
