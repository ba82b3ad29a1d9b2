-- Before each turn the counters are the counts of the codes passed so far.
use Rattle.std.proofs.Common.{◌≡◌, ◌≤◌, eqb, take, count_by}
use Rattle.tables.proofs.counts.count_codes.Given as goal

abbrev pub invariant-loop-code : goal.invariant-loop-code
invariant-loop-code l =
    (l.zeros ≡ count_by (λ c. eqb c 0) (take l.code-index l.row))
    × (l.ones ≡ count_by (λ c. eqb c 1) (take l.code-index l.row))
    × (l.frees ≡ count_by (λ c. eqb c 2) (take l.code-index l.row))
    × (l.zeros ≤ l.code-index) × (l.ones ≤ l.code-index) × (l.frees ≤ l.code-index)
