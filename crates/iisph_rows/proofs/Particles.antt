-- A fluid particle through the index of an accepted scene: what the rules say of it follows from the doubles read in
-- its record, from dt and from gravity. By what an accepted scene gives. Assumes nothing.
use Prim.Native.Nat.{ℕ, ◌+◌, ◌<◌, ◌≤◌}
use mathlib.Core.Path.{◌≡◌, refl}
use mathlib.Core.List.{List}
use native.Mathlib.Omega.{arith}
use lib.Ieee.{Float}
use lib.ListN.{length}
use Rattle.iisph_rules.specs.Coefficients.{dt, zero_vector, particle_mass, velocity_change, advected_velocity}
use Rattle.math.specs.Real.{◌⊗◌, half}
use Rattle.math.specs.Vector.{Axes, space, Vector, origin, ◌⊞◌, ◌⊡◌}
use Rattle.scene_check.specs.Accepted.{FluidParticleOk}
use Rattle.scene_format.specs.Bytes.{FiniteAt, AllFinite, double_at, vector_at}
use Rattle.scene_format.specs.Format.{axes_of, density0_offset, velocity_offset, acceleration_offset, volume_offset}
use Rattle.scene_format.specs.Format.{warm_pressure_offset}
use Rattle.scene_format.specs.Format.{Location, location_of}
use Rattle.scene_format.specs.Scene.{fluid_size, size_of, particle}
use Rattle.scene_format.specs.SceneOf.{header_of, fluid_particle_at, scene_of}
use Rattle.scene_format.proofs.Forms.{axes_of_lem}
use Rattle.scene_index.specs.Index.{Indexed}
use Rattle.scene_index.proofs.ContactLists.{particle_here}
use Rattle.scene_format.specs.declared.Kind.TheVariants.{Fluid}
use Rattle.iisph_rows.specs.Passes.{PassOver, first_pressure}

-- ---- the number of axes

pub zero_is : (b : List ℕ) → origin (axes_of b) ≡ zero_vector (scene_of b)
unfolding scene_of header_of
zero_is b = refl

-- the code's vectors have room for them
pub few_axes : (b : List ℕ) {d : ℕ} → d ≡ axes_of b → d ≤ space
few_axes b e = rw e (axes_of_lem b).most

-- ---- the particle's record, where the index says

-- the record of particle i may be read at an offset
abbrev pub RecordOk : List ℕ → ℕ → ℕ → Type 0
RecordOk b i at = FluidParticleOk b (record { head = (location_of Fluid b i).head; at = at }) i

module _ {b index : List ℕ} {d n : ℕ} (pass : PassOver b index d n) {i : ℕ} (h : i < n) where
  pub fluid_below : i < fluid_size (scene_of b)
  fluid_below = omega (arith, pass.size)

  -- what `record_of` and `head_of` ask
  pub record_asked : Indexed b index × (i < size_of Fluid (scene_of b))
  unfolding size_of
  record_asked = (pass.indexed, fluid_below)

  pub head_asked : Indexed b index × (i < fluid_size (scene_of b))
  head_asked = (pass.indexed, fluid_below)

  -- where they say
  pub over_here : {at head : ℕ} → at ≡ (location_of Fluid b i).at → head ≡ (location_of Fluid b i).head
      → FluidParticleOk b (record { head = head; at = at }) i
  over_here = particle_here pass.indexed i fluid_below

  pub record_here : {at : ℕ} → at ≡ (location_of Fluid b i).at → RecordOk b i at
  record_here e = over_here e refl

-- ---- the rules' values from the doubles of a record, where the code has d for the number of axes

module _ {b : List ℕ} {d : ℕ} (axes : d ≡ axes_of b) {p : Location} {i : ℕ} (h : FluidParticleOk b p i) where
  pub mass_made : {o : ℕ} {x y : Float} → o ≡ volume_offset d → x ≡ double_at b (p.at + o)
      → y ≡ double_at b (p.head + density0_offset) → x ⊗ y ≡ particle_mass (particle (scene_of b) i)
  unfolding particle_mass fluid_particle_at
  mass_made oe e q = rw (h.particle, e, q, oe, axes)

  pub pressure_made : {o : ℕ} {x : Float} → o ≡ warm_pressure_offset d → x ≡ double_at b (p.at + o)
      → x ⊗ half ≡ first_pressure (scene_of b) i
  unfolding fluid_particle_at
  pressure_made oe e = rw (h.particle, e, oe, axes)

  pub change_made : {o : ℕ} {a g zero : Vector} {t : Float} → o ≡ acceleration_offset d → a ≡ vector_at d b (p.at + o)
      → g ≡ (scene_of b).header.gravity → t ≡ dt (scene_of b) → zero ≡ origin d
      → zero ⊞ (a ⊞ g) ⊡ t ≡ velocity_change (scene_of b) (particle (scene_of b) i)
  unfolding velocity_change fluid_particle_at
  change_made oe e₁ e₂ e₃ e₄ = rw (h.particle, e₁, e₂, e₃, e₄, oe, axes, zero_is b)

  pub velocity_at : {o : ℕ} → o ≡ velocity_offset d
      → vector_at d b (p.at + o) ≡ (particle (scene_of b) i).velocity
  unfolding fluid_particle_at
  velocity_at oe = rw (h.particle, oe, axes)

  pub advected_made : {o : ℕ} {v x : Vector} → o ≡ velocity_offset d → v ≡ vector_at d b (p.at + o)
      → x ≡ velocity_change (scene_of b) (particle (scene_of b) i)
      → v ⊞ x ≡ advected_velocity (scene_of b) (particle (scene_of b) i)
  unfolding advected_velocity
  advected_made oe e q = rw (e, q, velocity_at oe)

  -- what a read of a double or of a vector asks
  module _ {o : ℕ} where
    pub volume_read : o ≡ volume_offset d → FiniteAt b (p.at + o)
    volume_read oe = rw (oe, axes) h.own.volume

    pub pressure_read : o ≡ warm_pressure_offset d → FiniteAt b (p.at + o)
    pressure_read oe = rw (oe, axes) h.own.warm_pressure

    pub velocity_read : o ≡ velocity_offset d → Axes d × AllFinite b (p.at + o) d
    velocity_read oe = rw (oe, axes) (axes_of_lem b, h.own.velocity)

    pub acceleration_read : o ≡ acceleration_offset d → Axes d × AllFinite b (p.at + o) d
    acceleration_read oe = rw (oe, axes) (axes_of_lem b, h.own.acceleration)

    -- and where a vector begins: before the counts
    pub velocity_within : o ≡ velocity_offset d → p.at + o ≤ length b
    velocity_within oe = rw (oe, axes) (omega (arith, h.own.counts))

    pub acceleration_within : o ≡ acceleration_offset d → p.at + o ≤ length b
    acceleration_within oe = rw (oe, axes) (omega (arith, h.own.counts))
