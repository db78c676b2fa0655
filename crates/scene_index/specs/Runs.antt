-- The particles of one boundary: a run of numbers among all boundary particles, which all keep forces or none.
-- Scaffolding: no promise rests on it. Definitions only.
use Rattle.std.specs.Prelude.{ℕ, ◌+◌, ◌<◌, ◌≤◌, ◌≡◌, List}
use Rattle.scene_format.specs.Format.{keeps_at, location_of}
use Rattle.scene_format.specs.Scene.{boundary_size}
use Rattle.scene_format.specs.SceneOf.{scene_of}
use Rattle.scene_format.specs.declared.Kind.TheVariants.{Boundary}

-- `count` boundary particles from number `first` on, whose boundary keeps forces if `keeps` is 1 and else does not
pub record BoundaryRun (b : List ℕ) (first count keeps : ℕ) : Type 0 where
  pub within : first + count ≤ boundary_size (scene_of b)
  pub bit : keeps < 2
  pub same : (p : ℕ) → p < count → keeps_at b (location_of Boundary b (first + p)).head ≡ keeps
