-- The bytes before this one are written.
use Rattle.std.proofs.Common.{◌≡◌, ℕ, ◌+◌, ◌*◌, ◌<◌, min, length, get_or}
use Rattle.questions.specs.Writing.{digit_of, packed}
use Rattle.questions.proofs.writer.put_row.Given as goal

abbrev pub invariant-loop-place : goal.invariant-loop-place
invariant-loop-place l =
    (j : ℕ) → j < l.place → get_or l.row j 0 ≡ packed (λ k. digit_of l.side (get_or l.table (8 * j + k) 0)) (min 8 (length l.table))
