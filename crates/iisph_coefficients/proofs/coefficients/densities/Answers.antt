-- `iisph_coefficients::coefficients::densities` meets its contract. The invariant: each sum is the rule's over the
-- contacts passed; a turn takes in one more. Assumes nothing.
use mathlib.Core.Path.{refl}
use Rattle.lists.specs.Lists.{fold, table}
use Rattle.scene_format.specs.SceneOf.{contact_list}
use Rattle.iisph_coefficients.proofs.Sums.{weighed_next, approached_next}
use Rattle.iisph_coefficients.proofs.coefficients.densities.Goals as goal

pub loop-k-init : goal.loop-k-init
unfolding contact_list table fold
loop-k-init g c = (refl, refl)

pub loop-k-preserved : goal.loop-k-preserved
loop-k-preserved g c =
    let w = c.contact_width-width.ensures.0 in (
      weighed_next _ _ _ c.args.list _ w c.mass-m.ensures _ c.loop-k.invariant.0 c.double.ensures,
      approached_next _ _ _ c.args.list _ w c.mass-m.ensures refl _ _ c.loop-k.invariant.1
          c.velocity-vj.ensures (c.sub.ensures c.args.over.dim) c.approach.ensures,
    )
