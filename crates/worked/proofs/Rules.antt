-- The rules of the sets in the worked questions, and the parts that these sets may give.
use Rattle.std.proofs.Common.{ap, ◌∙◌, ap₂}
use Rattle.gatesets.specs.Rules.{both_complemented, left_complemented, two_parts}
use Rattle.gatesets.proofs.Complements.{complements_twice}
use Rattle.worked.specs.WorkedSplits.{and_set, or_set, Ruled, xor_set, left_inverted}

-- complementing twice gives the parts back
pub ruled : Ruled
ruled or_set ask codes left right given = given.rule
ruled xor_set ask codes left right given = given.rule
ruled and_set ask codes left right given = ap both_complemented given.rule ∙ ap₂ two_parts (complements_twice left) (complements_twice right)
ruled (left_inverted set) ask codes left right given =
    ap left_complemented (ruled set ask codes _ right given) ∙ ap (λ part. two_parts part right) (complements_twice left)
