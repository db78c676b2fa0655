-- The mass and velocity of a fluid particle and of what a contact names, as the work list and the boundary records
-- hold them, where the code has k for the place of a row or of a volume. By the kind of contact. Assumes nothing.
use Prim.Native.Nat.{ℕ, ◌+◌, ◌<◌, ◌≤◌}
use mathlib.Core.Path.{◌≡◌, refl, sym, ap, ◌∙◌}
use mathlib.Core.Bool.{not}
use mathlib.Core.List.{List}
use native.Mathlib.Omega.{arith}
use lib.Ieee.{Float}
use lib.Dec.{eqb}
use lib.ListN.{length}
use Rattle.std.proofs.lemmas.Bool.{ne_eqb}
use Rattle.iisph_rows.specs.Passes.{PassOver, CoefficientsReady}
use Rattle.iisph_rows.specs.Rows.{dij_slot, mass_slot, row_at, row_width, volumes_at, element_at, vector_from}
use Rattle.iisph_rows.proofs.RowReads.{mass_at, volume_at_lem, advected_at}
use Rattle.iisph_rows.proofs.RowStores.{row_within}
use Rattle.iisph_rules.specs.Coefficients.{particle_mass, advected_velocity, fluid_mass, boundary_mass}
use Rattle.iisph_rules.proofs.Sizes.{length_advected}
use Rattle.math.specs.Real.{◌⊗◌}
use Rattle.math.specs.Vector.{Axes}
use Rattle.scene_format.specs.Bytes.{AllFinite, vector_at}
use Rattle.scene_format.specs.Format.{starts_of, location_of}
use Rattle.scene_format.specs.Scene.{fluid_size, boundary_size, particle}
use Rattle.scene_format.specs.SceneOf.{target_at, contact_at, scene_of}
use Rattle.scene_format.specs.declared.Kind.{Kind}
use Rattle.scene_format.specs.declared.Kind.TheVariants.{Fluid, Boundary}
use Rattle.scene_format.proofs.Forms.{axes_of_lem}
use Rattle.scene_index.specs.Contacts.{ContactReady}
use Rattle.scene_index.proofs.Targets.{fluid_named, boundary_named, boundary-velocity_finite, boundary-velocity_at}
use Rattle.iisph_coefficients.specs.Neighbours.{kind_of, mass_of, velocity_of}

-- the kind of contact, where the code's const parameter FLUID is a number: 0 or 1
abbrev pub kind_by : ℕ → Kind
kind_by fluid = kind_of (not (eqb fluid 0))

pub is_fluid : (fluid : ℕ) → (fluid ≡ 0 → ⊥) → kind_by fluid ≡ Fluid
is_fluid fluid h = ap (λ t. kind_of (not t)) (ne_eqb fluid 0 h)

pub is_boundary : (fluid : ℕ) → fluid ≡ 0 → kind_by fluid ≡ Boundary
is_boundary fluid e = ap kind_by e

pub pass_axes : {b index : List ℕ} {d n : ℕ} → PassOver b index d n → Axes d
pass_axes {b} pass = rw pass.axes (axes_of_lem b)

module _ {b index : List ℕ} {d n : ℕ} {work : List Float} (pass : PassOver b index d n)
    (p : CoefficientsReady (scene_of b) d n work) where
  -- ---- fluid particle i

  module _ (i : ℕ) (h : i < fluid_size (scene_of b)) where
    below : i < n
    below = omega (arith, pass.size)

    pub own_row : row_at d i + row_width d ≤ length work
    own_row = omega (arith, row_within d below, p.room)

    -- with its row at k
    module _ {k : ℕ} (q : k ≡ row_at d i) where
      pub own_mass : element_at work (k + mass_slot) ≡ particle_mass (particle (scene_of b) i)
      own_mass = ap (λ (k : ℕ). element_at work (k + mass_slot)) q ∙ mass_at p i below

      pub own_velocity : vector_from d work (k + dij_slot) ≡ advected_velocity (scene_of b) (particle (scene_of b) i)
      own_velocity =
          ap (λ (k : ℕ). vector_from d work (k + dij_slot)) q
          ∙ advected_at p i below (length_advected b i h ∙ sym pass.axes)

  -- ---- the particle j that a contact names

  module _ {κ : Kind} {at j : ℕ} (ready : ContactReady κ d b at) where
    module _ (e : κ ≡ Fluid) (named : j ≡ target_at (starts_of Fluid b) b at) where
      named_fluid : j < fluid_size (scene_of b)
      named_fluid = fluid_named (rw e at ready.target) named refl

      pub fluid_row : row_at d j + row_width d ≤ length work
      fluid_row = own_row j named_fluid

      -- with its row at k
      module _ {k : ℕ} (q : k ≡ row_at d j) where
        pub fluid_mass_lem : (density0 : Float)
            → element_at work (k + mass_slot) ≡ mass_of κ (scene_of b) density0 (contact_at d (starts_of κ b) b at)
        unfolding mass_of fluid_mass contact_at
        fluid_mass_lem density0 = own_mass j named_fluid q ∙ rw (named, e)

        pub fluid-velocity : vector_from d work (k + dij_slot)
            ≡ velocity_of κ (scene_of b) (contact_at d (starts_of κ b) b at)
        unfolding velocity_of contact_at
        fluid-velocity = own_velocity j named_fluid q ∙ rw (named, e)

    module _ (e : κ ≡ Boundary) (named : j ≡ target_at (starts_of Boundary b) b at) where
      named_boundary : j < boundary_size (scene_of b)
      named_boundary = boundary_named (rw e at ready.target) named refl

      pub boundary_volume_lem : volumes_at d n + j < length work
      boundary_volume_lem = omega (arith, named_boundary, p.room)

      pub boundary_mass_lem : (density0 : Float) {k : ℕ} → k ≡ volumes_at d n + j
          → element_at work k ⊗ density0 ≡ mass_of κ (scene_of b) density0 (contact_at d (starts_of κ b) b at)
      unfolding mass_of boundary_mass contact_at
      boundary_mass_lem density0 q =
          ap (λ (k : ℕ). element_at work k ⊗ density0) q
          ∙ ap (λ v. v ⊗ density0) (volume_at_lem p j named_boundary) ∙ rw (named, e)

      -- in the boundary particle's record
      module _ {from : ℕ} (q : from ≡ (location_of Boundary b j).at) where
        pub boundary-velocity_read : Axes d × AllFinite b from d
        boundary-velocity_read = rw pass.axes (axes_of_lem b, boundary-velocity_finite pass.indexed named_boundary q)

        pub boundary-velocity : vector_at d b from ≡ velocity_of κ (scene_of b) (contact_at d (starts_of κ b) b at)
        unfolding velocity_of contact_at
        boundary-velocity =
            ap (λ (d : ℕ). vector_at d b from) pass.axes
            ∙ boundary-velocity_at pass.indexed named_boundary q ∙ rw (named, e)
