-- The answer follows the checks of the table; what is written is then read back.
use Rattle.questions.proofs.Accepting.{written_answer, written_out, written_returns}
use Rattle.questions.proofs.writer.write_entry.Goals as goal

pub returns : goal.returns
returns c =
    let n = c.args.variables in
    let codes = c.args.codes.now in
    let out = c.args.out.now in
    let layout = c.in_ok-layout.layout in
    let ok = c.in_ok-layout.ensures.0 in
    let now = c.in_ok-layout.ensures.1 in
    record {
      answer = written_answer n codes out layout ok;
      out = written_out n codes out layout ok c.write_table.new.out now;
      reads_back = written_returns n codes out layout ok c.write_table.new.out now;
    }
