-- `iisph_rows::boundary_volumes::volume` meets its contract: the count and the weights stand in the record.
-- Assumes nothing.
use mathlib.Core.Path.{sym, ◌∙◌}
use Rattle.iisph_rows.proofs.Volumes.{volume_zero, volume_inverse}
use Rattle.iisph_rows.proofs.boundary_volumes.volume.Goals as goal

pub returns-then-is_zero : goal.returns-then-is_zero
returns-then-is_zero c =
    volume_zero _ _ _ (rw c.axes.ensures.0 at c.boundary_count-count.ensures.0) c.byte-n.ensures.0
    c.weight_sum-denominator.ensures (sym c.if-is_zero.true ∙ c.is_zero.ensures)

pub returns-else-is_zero : goal.returns-else-is_zero
returns-else-is_zero c =
    volume_inverse _ _ _ (rw c.axes.ensures.0 at c.boundary_count-count.ensures.0) c.byte-n.ensures.0
    c.weight_sum-denominator.ensures (sym c.if-is_zero.false ∙ c.is_zero.ensures)
