-- The answer is that of the entry found; the row then begins with its table, which admits the functions between its rows.
use Rattle.std.proofs.Common.{◌≡◌, ◌^◌, ◌++◌, length, drop, sym, ap, ◌∙◌, ap₂}
use Rattle.questions.specs.Layouts.{table}
use Rattle.questions.proofs.Meaning.{read_between}
use Rattle.questions.proofs.reader.read_entry.Goals as goal

pub returns : goal.returns
returns c =
    let found = c.in_ok-found.found in
    let e = found.entry in
    let file = c.args.file.now in
    let rest = drop (2 ^ e.variables) c.args.row.now in
    let told = c.in_ok-found.ensures in
    let row : c.fill.new.row ≡ table e.variables e.form (drop c.args.at file) ++ rest =
    c.fill.ensures ∙ ap₂ (λ n form. table n form found.rows.bytes.now ++ drop (2 ^ n) c.args.row.now) found.variables found.form
    ∙ ap (λ bytes. table e.variables e.form bytes ++ rest) told.2 in
    record {
      answer = sym told.0;
      row = row;
      between = read_between file c.args.at (length c.args.row.now) e rest c.fill.new.row told.0 row;
    }
