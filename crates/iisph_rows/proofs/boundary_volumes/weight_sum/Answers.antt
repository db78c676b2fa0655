-- `iisph_rows::boundary_volumes::weight_sum` meets its contract: weight by weight. Assumes nothing.
use mathlib.Core.Path.{refl}
use Rattle.lists.specs.Lists.{fold, table}
use Rattle.iisph_rows.proofs.Volumes.{sum_next}
use Rattle.iisph_rows.proofs.boundary_volumes.weight_sum.Goals as goal

pub loop-j-init : goal.loop-j-init
unfolding table fold
loop-j-init c = refl

pub loop-j-preserved : goal.loop-j-preserved
loop-j-preserved c = sum_next _ c.loop-j.j c.loop-j.invariant c.double-sum.ensures
