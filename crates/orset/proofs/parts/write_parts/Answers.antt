-- All cells are laid, and both parts are written from them.
use Rattle.std.proofs.Common.{◌∙◌}
use Rattle.std.proofs.lemmas.Bool.{false_from_ne_true, false≢true}
use Rattle.orset.proofs.OrRows.{parts_by}
use Rattle.orset.proofs.parts.write_parts.Goals as goal

pub returns : goal.returns
returns c =
    rw (c.write.ensures, c.write-2.ensures)
    (parts_by c.args.ask c.args.table.now c.lay_left_ones.new.lefts c.lay_right_ones.new.rights _ _ _ _ c.requires.table
    (c.lay_zeros.ensures.rights.group ∙ c.free-rights.ensures.group) (c.lay_zeros.ensures.lefts.group ∙ c.free-lefts.ensures.group)
    c.requires.parts.0 c.requires.parts.1 (false_from_ne_true _ (λ lacks. false≢true (c.in_ok-lay_left_ones.ensures.pair.1 lacks)))
    c.in_ok-lay_left_ones.ensures.laid c.lay_right_ones.ensures)
