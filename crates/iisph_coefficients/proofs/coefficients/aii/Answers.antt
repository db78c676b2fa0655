-- `iisph_coefficients::coefficients::aii` meets its contract. The invariant: the sum is the rule's over the contacts
-- passed; a turn takes in one more. Assumes nothing.
use mathlib.Core.Path.{refl}
use Rattle.lists.specs.Lists.{fold, table}
use Rattle.scene_format.specs.SceneOf.{contact_list}
use Rattle.iisph_coefficients.proofs.Sums.{returned_next}
use Rattle.iisph_coefficients.proofs.coefficients.aii.Goals as goal

pub loop-k-init : goal.loop-k-init
unfolding contact_list table fold
loop-k-init g c = refl

pub loop-k-preserved : goal.loop-k-preserved
loop-k-preserved g c =
    returned_next _ _ _ c.args.list _ c.contact_width-width.ensures.0 c.mass-m.ensures refl _ _ _
    c.loop-k.invariant refl refl c.returning.ensures
