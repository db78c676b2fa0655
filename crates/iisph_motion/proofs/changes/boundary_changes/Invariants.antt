-- `iisph_motion::changes::boundary_changes` meets its contract. The invariant: the change is what the rule leaves of it
-- after the contacts passed; a turn takes off one more. Assumes nothing.
use mathlib.Core.Path.{◌≡◌}
use Rattle.math.specs.Vector.{coordinates}
use Rattle.scene_format.specs.SceneOf.{scene_of}
use Rattle.scene_format.specs.declared.Kind.TheVariants.{Boundary}
use Rattle.scene_index.specs.Contacts.{over_first}
use Rattle.iisph_motion.specs.Changes.{boundary_change, less_by}
use Rattle.iisph_motion.proofs.changes.boundary_changes.Given as goal

abbrev pub invariant-loop-k : goal.invariant-loop-k
invariant-loop-k l =
    let b = l.over.scene.now in
    let d = l.over.dim in
    coordinates d l.change
    ≡ over_first Boundary d b l.at (less_by (boundary_change (scene_of b) l.dt l.state))
    (coordinates d l.initial.change) l.k
