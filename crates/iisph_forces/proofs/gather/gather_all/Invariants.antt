-- `iisph_forces::gather::gather_all` meets its contract. The invariant: the answer list is what the particles passed
-- make of it. Assumes nothing.
use mathlib.Core.Path.{◌≡◌}
use Rattle.scene_format.specs.SceneOf.{scene_of}
use Rattle.iisph_pressures.specs.IterationRows.{pressures_in}
use Rattle.iisph_forces.specs.Forces.{gathered_all}
use Rattle.iisph_forces.proofs.gather.gather_all.Given as goal

abbrev pub invariant-loop-i : goal.invariant-loop-i
invariant-loop-i l =
    let o = l.over in
    l.answers ≡ gathered_all o.dim (scene_of o.scene.now) (pressures_in o.dim o.n l.work) l.i l.initial.answers
