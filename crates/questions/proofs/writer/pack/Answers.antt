-- One digit more: its weight is the power of two that the digits so far stay below.
use Rattle.std.proofs.Common.{ℕ, ◌+◌, ◌<◌, get_or, arith}
use Rattle.questions.specs.Writing.{digit_of, packed}
use Rattle.questions.proofs.Packing.{digit_le, packed_more, packed_fits}
use Rattle.questions.proofs.writer.pack.Goals as goal

abbrev digit_at : goal.After-digit → ℕ → ℕ
digit_at c k = digit_of c.args.side (get_or c.args.codes.now k 0)

pub loop-place-preserved : goal.loop-place-preserved
loop-place-preserved c =
    packed_more (digit_at c) (λ k. digit_le c.args.side _) c.loop-place.place c.loop-place.byte c.digit.result (omega (arith, c.requires)) c.loop-place.invariant c.digit.ensures

pub overflow_add-byte : goal.overflow_add-byte
overflow_add-byte c =
    let sum = loop-place-preserved c in
    let fits : packed (digit_at c) (c.loop-place.place + 1) < 256 = packed_fits (digit_at c) (λ k. digit_le c.args.side _) (c.loop-place.place + 1) (omega (arith, c.requires)) in
    omega arith
