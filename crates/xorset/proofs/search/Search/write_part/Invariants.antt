-- The codes before this one are written.
use Rattle.std.proofs.Common.{◌≡◌}
use lib.Seq.{paste}
use Rattle.xorset.specs.Search.{part_codes}
use Rattle.xorset.proofs.search.Search.write_part.Given as goal

abbrev pub invariant-loop-i : goal.invariant-loop-i
invariant-loop-i l = l.row ≡ paste l.initial.row 0 (part_codes l.self l.side) l.i
