-- No left cell before this one waits.
use Rattle.xorset.specs.Search.{IsBetween, Kept}
use Rattle.xorset.proofs.search.Search.find_values.Given as goal

abbrev pub invariant-loop-root : goal.invariant-loop-root
invariant-loop-root l = record { kept : Kept l.initial.self l.self; between : IsBetween l.self l.root }
