-- The assignments passed so far have the codes of their cells.
use Rattle.std.proofs.Common.{◌≡◌, ℕ, ◌<◌, slice_index}
use Rattle.tables.specs.Groups.{clear}
use Rattle.orset.proofs.cells.Cells.write.Given as goal

abbrev pub invariant-loop-index : goal.invariant-loop-index
invariant-loop-index l = (i : ℕ) → i < l.index → slice_index l.part i ≡ slice_index l.self.codes.now (clear l.ignored i)
