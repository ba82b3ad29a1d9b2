-- The entries listed so far are those passed on the way to the byte number.
use Rattle.std.proofs.Common.{◌≡◌, List, map, vec_items}
use Rattle.questions.specs.Dictionaries.{Item, listed}
use Rattle.questions.proofs.Walking.{Passed}
use Rattle.questions.proofs.listing.list_dictionary.Given as goal

abbrev pub invariant-loop-found : goal.invariant-loop-found
invariant-loop-found l =
    record {
      can_go_on : (goal.iterator-loop-found).can_next l.found-iterator;
      ends : (goal.iterator-loop-found).is_finite l.found-iterator;
      same_file : l.found-iterator.file.now ≡ l.fn.file;
      passed : (done : List Item) × (vec_items l.entries ≡ map listed done) × Passed l.fn.file done l.found-iterator.at;
    }
