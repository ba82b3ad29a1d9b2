-- The links of the parts that came are followed.
use Rattle.std.proofs.Common.{◌≡◌}
use Rattle.xorset.specs.Search.{Kept}
use Rattle.xorset.proofs.Searches.{Turns}
use Rattle.xorset.proofs.Visiting.{IsBound}
use Rattle.xorset.proofs.search.Search.visit_links.Given as goal

abbrev pub invariant-loop-subset : goal.invariant-loop-subset
invariant-loop-subset l =
    record {
      group : l.subset-iterator.group ≡ l.visit.group;
      bound : IsBound l.visit.group l.subset-iterator.bound;
      kept : Kept l.initial.self l.self;
      turn : Turns l.initial.self l.visit l.value l.subset-iterator.bound l.self;
    }
