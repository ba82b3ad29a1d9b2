-- No cell has a value yet, and none is to visit.
use Rattle.std.proofs.Common.{arith}
use Rattle.gatesets.specs.Splits.{code}
use Rattle.xorset.proofs.Marking.{begin}
use Rattle.xorset.proofs.search.Search.new.Goals as goal

pub returns-clause-begun : goal.returns-clause-begun
returns-clause-begun c =
    let frame = c.args.frame in
    record {
      empty = c.new.ensures.empty.0;
      going = begin frame.variables (code c.args.table.now) frame.left frame.right c.mark_links.new.values c.mark_links.ensures (omega (arith, c.requires.work.0));
      past = λ k lt. absurd (let z : ⊥ = omega arith in z);
    }
