-- The byte has the digits passed so far, so it is below the next weight.
use Rattle.std.proofs.Common.{◌≡◌, get_or}
use Rattle.questions.specs.Writing.{digit_of, packed}
use Rattle.questions.proofs.writer.pack.Given as goal

abbrev pub invariant-loop-place : goal.invariant-loop-place
invariant-loop-place l = l.byte ≡ packed (λ k. digit_of l.side (get_or l.codes k 0)) l.place
