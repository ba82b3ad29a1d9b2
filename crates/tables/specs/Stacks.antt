-- Stacks over lent cells: the elements that one holds, and the numbers and spots of its refusals.
use Rattle.std.specs.Prelude.{ℕ, List, take}
use Rattle.tables.specs.declared.stack.Stack.{Stack}
use Rattle.tables.specs.declared.stack.StackRefusal.{StackRefusal}
use Rattle.tables.specs.declared.stack.StackRefusal.TheVariants.{Full, Empty}

-- the elements held, the latest last: all cells where the length is above their number
abbrev pub held : {T : Type 0} → Stack T → List T
held stack = take stack.len stack.cells.now

-- the number that each refusal reports
abbrev pub stack_number : StackRefusal → ℕ
stack_number Full = 23
stack_number Empty = 22

-- no refusal of a stack names a spot
abbrev pub stack_spot : StackRefusal → ℕ
stack_spot Full = 0
stack_spot Empty = 0
