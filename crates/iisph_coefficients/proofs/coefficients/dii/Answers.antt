-- `iisph_coefficients::coefficients::dii` meets its contract. The invariant: the sum is the rule's over the contacts
-- passed; a turn takes in one more. Assumes nothing.
use mathlib.Core.Path.{refl}
use Rattle.lists.specs.Lists.{fold, table}
use Rattle.scene_format.specs.SceneOf.{contact_list}
use Rattle.iisph_coefficients.proofs.Sums.{pushed_next}
use Rattle.iisph_coefficients.proofs.coefficients.dii.Goals as goal

pub loop-k-init : goal.loop-k-init
unfolding contact_list table fold
loop-k-init g c = refl

pub loop-k-preserved : goal.loop-k-preserved
loop-k-preserved g c =
    pushed_next _ _ _ c.args.list _ c.contact_width-width.ensures.0 c.mass-m.ensures c.vector.ensures _ _
    c.loop-k.invariant (c.scale.ensures c.args.over.dim) (c.add-sum.ensures c.args.over.dim)
