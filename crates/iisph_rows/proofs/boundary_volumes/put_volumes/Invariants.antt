-- `iisph_rows::boundary_volumes::put_volumes` meets its contract: particle by particle. Assumes nothing.
use Prim.Native.Nat.{◌+◌}
use Rattle.iisph_rules.specs.Coefficients.{boundary_volume}
use Rattle.lists.proofs.Fills.{Filling}
use Rattle.scene_format.specs.Scene.{boundary}
use Rattle.scene_format.specs.SceneOf.{scene_of}
use Rattle.iisph_rows.proofs.boundary_volumes.put_volumes.Given as goal

abbrev pub invariant-loop-p : goal.invariant-loop-p
invariant-loop-p l =
    Filling l.initial.work l.k (λ q. boundary_volume (boundary (scene_of l.scene) (l.first + q))) l.count l.p l.work
