-- What an accepted packed scene gives, particle by particle: the statements that contracts of a solver ask for and that
-- proofs/ shows of every accepted scene. Scaffolding: no promise rests on it. Definitions only.
use Rattle.std.specs.Prelude.{ℕ, ◌+◌, ◌*◌, ◌<◌, ◌≡◌, List, length}
use Rattle.scene_walk.specs.Accepted.{FluidRecordOk, BoundaryRecordOk}
use Rattle.scene_format.specs.Bytes.{FiniteAt}
use Rattle.scene_format.specs.Format.{axes_of, density0_offset, keeps_at, model_at, contact_width, contact_count}
use Rattle.scene_format.specs.Format.{contacts_start}
use Rattle.scene_format.specs.Format.{starts_of, Location}
use Rattle.scene_format.specs.Scene as Scene
use Rattle.scene_format.specs.Scene.{size_of}
use Rattle.scene_format.specs.SceneOf.{target_at, fluid_particle_at, boundary_particle_at, scene_of}
use Rattle.scene_format.specs.declared.Kind.{Kind}
use Rattle.scene_format.specs.declared.Kind.TheVariants.{Fluid, Boundary}

-- a contact names a model that is there, and a particle among all of its kind
pub record TargetOk (κ : Kind) (b : List ℕ) (at : ℕ) : Type 0 where
  pub model : model_at b at < length (starts_of κ b)
  pub below : target_at (starts_of κ b) b at < size_of κ (scene_of b)

-- n contacts of w bytes
abbrev pub TargetsOk : Kind → List ℕ → ℕ → ℕ → ℕ → Type 0
TargetsOk κ b w n at = (k : ℕ) → k < n → TargetOk κ b (at + w * k)

-- all that a step may use of fluid particle i, whose record stands at p
pub record FluidParticleOk (b : List ℕ) (p : Location) (i : ℕ) : Type 0 where
  pub particle : Scene.particle (scene_of b) i ≡ fluid_particle_at (starts_of Fluid b) (starts_of Boundary b) b p
  pub density0 : FiniteAt b (p.head + density0_offset)
  pub own : FluidRecordOk b p.at
  pub targets : (κ : Kind) → TargetsOk κ b (contact_width (axes_of b)) (contact_count κ b p.at)
      (contacts_start κ b p.at)

-- all that a step may use of boundary particle j, whose record stands at p
pub record BoundaryParticleOk (b : List ℕ) (p : Location) (j : ℕ) : Type 0 where
  pub boundary : Scene.boundary (scene_of b) j ≡ boundary_particle_at b p
  pub own : BoundaryRecordOk b (keeps_at b p.head) p.at
