-- `iisph_passes::traverse::put_coefficients` meets its contract: the stores one after the other are those of the slots.
-- Assumes nothing.
use Rattle.math.specs.Vector.{coordinates}
use Rattle.math.proofs.Vectors.{coordinates_sized}
use Rattle.iisph_passes.proofs.Turns.{coefficients-set}
use Rattle.iisph_passes.proofs.traverse.put_coefficients.Goals as goal

pub returns : goal.returns
returns c =
    let a = c.args in
    coefficients-set a.dim a.n a.i a.pressure (coordinates a.dim a.c.dii) a.c.density
    a.c.predicted_density a.c.aii a.work.now (coordinates_sized a.dim a.c.dii c.requires.0.most)
    c.pressure_slot.ensures c.density_column.ensures c.predicted_column.ensures
    c.aii_column.ensures c.put_in_row.ensures c.put_column.ensures c.put_column-2.ensures
    c.put_column-3.ensures
