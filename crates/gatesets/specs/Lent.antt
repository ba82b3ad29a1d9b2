-- The rows that are lent to a split, as the code holds them.
use Rattle.std.specs.Prelude.{◌≡◌}
use Rattle.gatesets.specs.Splits.{Rows, rows}
use Rattle.gatesets.specs.declared.rows.LentRows.{LentRows}

-- what lent rows hold
abbrev pub rows_of : LentRows → Rows
rows_of lent = rows lent.table.now lent.left.now lent.right.now lent.first.now lent.second.now

-- they are the same rows of the lender, whatever each holds
abbrev pub SameRows : LentRows → LentRows → Type 0
SameRows before after =
    (after.table.ghost_name ≡ before.table.ghost_name) × (after.left.ghost_name ≡ before.left.ghost_name) × (after.right.ghost_name ≡ before.right.ghost_name)
    × (after.first.ghost_name ≡ before.first.ghost_name) × (after.second.ghost_name ≡ before.second.ghost_name)
