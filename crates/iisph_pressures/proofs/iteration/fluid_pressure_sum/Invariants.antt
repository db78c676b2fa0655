-- `iisph_pressures::iteration::fluid_pressure_sum` meets its contract. The invariant: the sum is the rule's over the
-- contacts passed; a turn takes in one more. Assumes nothing.
use mathlib.Core.Path.{◌≡◌}
use Rattle.math.specs.Real.{+0}
use Rattle.scene_format.specs.SceneOf.{scene_of}
use Rattle.scene_format.specs.declared.Kind.TheVariants.{Fluid}
use Rattle.scene_index.specs.Contacts.{over_first}
use Rattle.iisph_pressures.specs.IterationRows.{pressures_in, dijs_in, fluid_term, with_term}
use Rattle.iisph_pressures.proofs.iteration.fluid_pressure_sum.Given as goal

abbrev pub invariant-loop-k : goal.invariant-loop-k
invariant-loop-k l =
    let b = l.over.scene.now in
    let d = l.over.dim in
    let n = l.over.n in
    l.sum
    ≡ over_first Fluid d b l.at
    (with_term (fluid_term d (scene_of b) (pressures_in d n l.work) (dijs_in d n l.work) l.owner)) +0 l.k
