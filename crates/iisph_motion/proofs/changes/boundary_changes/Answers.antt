-- `iisph_motion::changes::boundary_changes` meets its contract: a turn takes off what the rule takes off for the next
-- contact. Assumes nothing.
use Rattle.iisph_pressures.proofs.ContactTurns.{none_passed}
use Rattle.scene_format.specs.SceneOf.{scene_of}
use Rattle.scene_format.specs.declared.Kind.TheVariants.{Boundary}
use Rattle.iisph_motion.specs.Changes.{boundary_change}
use Rattle.iisph_motion.proofs.PressureChanges.{boundary_change_lem, change_next}
use Rattle.iisph_motion.proofs.changes.boundary_changes.Goals as goal

pub loop-k-init : goal.loop-k-init
loop-k-init c = none_passed _ _ _ _ _ _

pub loop-k-preserved : goal.loop-k-preserved
loop-k-preserved c =
    let l = c.loop-k in
    let a = c.args in
    let d = a.over.dim in
    change_next Boundary d _ (boundary_change (scene_of a.over.scene.now) a.dt a.state) a.list.at l.k _
    c.contact_width-width.ensures.0 l.invariant
    (boundary_change_lem _ a.state a.dt _ c.boundary_acceleration.ensures (c.scale.ensures d))
    (c.sub-change.ensures d)
