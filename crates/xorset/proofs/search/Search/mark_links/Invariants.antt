-- The links of the assignments before this one are marked.
use Rattle.xorset.specs.Search.{IsMarked}
use Rattle.xorset.proofs.search.Search.mark_links.Given as goal

abbrev pub invariant-loop-i : goal.invariant-loop-i
invariant-loop-i l = IsMarked l.frame l.table l.i l.values
