-- `iisph_pressures::iteration::boundary_pressure_sum` meets its contract. The invariant: the sum is the rule's over the
-- contacts passed; a turn takes in one more. Assumes nothing.
use mathlib.Core.Path.{◌≡◌}
use Rattle.math.specs.Vector.{coordinates}
use Rattle.scene_format.specs.SceneOf.{scene_of}
use Rattle.scene_format.specs.declared.Kind.TheVariants.{Boundary}
use Rattle.scene_index.specs.Contacts.{over_first}
use Rattle.iisph_pressures.specs.IterationRows.{boundary_term, with_term}
use Rattle.iisph_pressures.proofs.iteration.boundary_pressure_sum.Given as goal

abbrev pub invariant-loop-k : goal.invariant-loop-k
invariant-loop-k l =
    let b = l.over.scene.now in
    let d = l.over.dim in
    l.sum
    ≡ over_first Boundary d b l.at (with_term (boundary_term (scene_of b) l.density0 (coordinates d l.d))) l.initial.sum
    l.k
