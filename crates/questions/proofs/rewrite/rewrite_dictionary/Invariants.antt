-- The bytes so far are those of the tables passed on the way to the byte number.
use Rattle.std.proofs.Common.{All, ◌≡◌, List, map, vec_items}
use Rattle.questions.specs.Dictionaries.{Item, table_of, Lawful, written}
use Rattle.questions.specs.Rewriting.{rewrites}
use Rattle.questions.proofs.Walking.{Passed}
use Rattle.questions.proofs.rewrite.rewrite_dictionary.Given as goal

abbrev pub invariant-loop-found : goal.invariant-loop-found
invariant-loop-found l =
    record {
      can_go_on : (goal.iterator-loop-found).can_next l.found-iterator;
      ends : (goal.iterator-loop-found).is_finite l.found-iterator;
      same_file : l.found-iterator.file.now ≡ l.fn.file;
      passed : (done : List Item)
          × (vec_items l.bytes ≡ written (map table_of done))
          × (vec_items l.entries ≡ rewrites 0 done)
          × Passed l.fn.file done l.found-iterator.at
          × All Lawful (map table_of done);
    }
