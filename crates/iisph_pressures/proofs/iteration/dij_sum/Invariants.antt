-- `iisph_pressures::iteration::dij_sum` meets its contract. The invariant: the sum is the rule's over the contacts
-- passed; a turn takes in one more. Assumes nothing.
use mathlib.Core.Path.{◌≡◌}
use Rattle.math.specs.Vector.{coordinates, origin}
use Rattle.scene_format.specs.SceneOf.{scene_of}
use Rattle.iisph_pressures.specs.IterationRows.{pressures_in, with_dij}
use Rattle.scene_format.specs.declared.Kind.TheVariants.{Fluid}
use Rattle.scene_index.specs.Contacts.{over_first}
use Rattle.iisph_pressures.proofs.iteration.dij_sum.Given as goal

abbrev pub invariant-loop-k : goal.invariant-loop-k
invariant-loop-k l =
    let b = l.over.scene.now in
    let d = l.over.dim in
    coordinates d l.sum
    ≡ over_first Fluid d b l.at (with_dij (scene_of b) (pressures_in d l.over.n l.work)) (origin d) l.k
