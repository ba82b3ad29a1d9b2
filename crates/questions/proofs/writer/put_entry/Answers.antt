-- The first byte, and the rows behind it.
use Rattle.std.proofs.Common.{◌≡◌, ◌∙◌}
use Rattle.questions.specs.Writing.{row_bytes}
use Rattle.questions.specs.declared.form.Side.TheVariants.{Lower, Upper}
use Rattle.questions.proofs.Pasting.{row_written, low_written, upper_size, entry_one, entry_two}
use Rattle.questions.proofs.writer.put_entry.Goals as goal

pub returns-in-OneRow : goal.returns-in-OneRow
returns-in-OneRow c =
    let layout = c.args.layout in
    let lower : c.put_row.new.row ≡ row_bytes layout.variables Lower c.args.table.now =
    low_written layout c.args.entry.now c.args.table.now c.put_row.new.row c.from.result c.requires.entry c.requires.table c.put_row.auto.row c.put_row.ensures in
    entry_one layout c.args.entry.now c.args.table.now c.from.result c.requires.entry c.from.ensures c.put_row.new.row lower c.in-OneRow.is

pub returns-in-TwoRows : goal.returns-in-TwoRows
returns-in-TwoRows c =
    let layout = c.args.layout in
    let lower : c.put_row.new.row ≡ row_bytes layout.variables Lower c.args.table.now =
    low_written layout c.args.entry.now c.args.table.now c.put_row.new.row c.from.result c.requires.entry c.requires.table c.put_row.auto.row c.put_row.ensures in
    let size = upper_size layout c.args.entry.now c.args.table.now c.from.result c.requires.entry c.from.ensures c.put_row.new.row lower c.in-TwoRows.is in
    let upper : c.put_row-in-TwoRows.new.row ≡ row_bytes layout.variables Upper c.args.table.now =
    row_written layout.variables Upper c.put_row-in-TwoRows.new.row c.args.table.now (c.requires.table ∙ layout.points_are) (c.put_row-in-TwoRows.auto.row ∙ size) c.put_row-in-TwoRows.ensures in
    entry_two layout c.args.entry.now c.args.table.now c.from.result c.requires.entry c.from.ensures c.put_row.new.row lower c.put_row-in-TwoRows.new.row c.in-TwoRows.is upper
