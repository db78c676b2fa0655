-- `iisph_forces::gather::gather_list` meets its contract. The invariant: the answer list is what the contacts passed
-- make of it; a turn takes in one more. Assumes nothing.
use mathlib.Core.Path.{◌≡◌}
use Rattle.scene_format.specs.SceneOf.{scene_of}
use Rattle.scene_format.specs.declared.Kind.TheVariants.{Boundary}
use Rattle.scene_index.specs.Contacts.{over_first}
use Rattle.iisph_forces.specs.Forces.{gathered, state_gain}
use Rattle.iisph_forces.proofs.gather.gather_list.Given as goal

abbrev pub invariant-loop-k : goal.invariant-loop-k
invariant-loop-k l =
    let d = l.over.dim in
    let b = l.over.scene.now in
    let s = scene_of b in
    l.answers ≡ over_first Boundary d b l.at (gathered d s (state_gain s l.state)) l.initial.answers l.k
