-- A fluid particle's pressure state from the work list, and a of METHOD 7.2 from the state: each is the one field of
-- IterationReady that says it, and a boundary contact's mass is the volume that stands there. Assumes
-- nothing.
use Prim.Native.Nat.{ℕ, ◌+◌, ◌*◌, ◌<◌}
use mathlib.Core.Path.{◌≡◌, refl, ap, ◌∙◌}
use mathlib.Core.List.{List}
use native.Mathlib.Omega.{arith}
use lib.Ieee.{Float}
use Rattle.iisph_pressures.specs.IterationRows.{row_share, pressures_in, IterationReady, Iterating}
use Rattle.iisph_pressures.proofs.IterationReads.{density_in, mass_in, pressure_in, share_same}
use Rattle.iisph_rows.specs.Passes.{PassOver}
use Rattle.iisph_rows.specs.Rows.{density_slot, pressure_slot, mass_slot, row_at, volumes_at, element_at}
use Rattle.iisph_rows.proofs.RowReads.{row_value, volume_behind}
use Rattle.iisph_rules.specs.Coefficients.{boundary_mass, coefficients}
use Rattle.iisph_rules.specs.Iteration.{pressure}
use Rattle.iisph_rules.specs.Step.{pressure_share, boundary_acceleration}
use Rattle.math.specs.Real.{◌⊗◌, ◌⊘◌}
use Rattle.math.specs.Vector.{Axes, Vector, ◌⊡◌}
use Rattle.scene_check.specs.Accepted.{FluidParticleOk}
use Rattle.scene_format.specs.Bytes.{double_at, vector_at}
use Rattle.scene_format.specs.Format.{density0_offset, gradient_offset, starts_of, Location}
use Rattle.scene_format.specs.Scene.{Scene, Contact, fluid_size, particle}
use Rattle.scene_format.specs.SceneOf.{target_at, contact_at, fluid_particle_at, scene_of}
use Rattle.scene_format.specs.declared.Kind.TheVariants.{Boundary}
use Rattle.scene_format.proofs.Forms.{axes_of_lem}
use Rattle.scene_index.specs.Contacts.{ContactReady}
use Rattle.scene_index.proofs.Targets.{boundary_named}
use Rattle.iisph_motion.specs.Changes.{PressureStateIs, acceleration_of}
use Rattle.iisph_motion.specs.declared.acceleration.PressureState.{PressureState}

-- ---- the number of axes

pub pass_axes : {b index : List ℕ} {d n : ℕ} → PassOver b index d n → Axes d
pass_axes {b} pass = rw pass.axes (axes_of_lem b)

-- ---- p / (rho × rho)

pub share_made : {s : Scene} {ps : List Float} {d n : ℕ} {work : List Float} → IterationReady s ps d n work
    → n ≡ fluid_size s
    → (i : ℕ) → i < n → row_share d work n i ≡ pressure_share (coefficients s) ps i
unfolding pressure_share
share_made {s} {ps} {d} q size i h =
    share_same (row_value d (pressure ps) q.pressure (omega arith) i h) (density_in q size i h)

-- ---- the particle itself

density0_at : {b : List ℕ} {p : Location} {i : ℕ} → FluidParticleOk b p i
    → double_at b (p.head + density0_offset) ≡ (particle (scene_of b) i).density0
unfolding fluid_particle_at
density0_at h = rw h.particle

-- the state as the code makes it, where the particle's row begins at an element, and its pressure and its density
-- stand at these
abbrev state_of : List Float → ℕ → ℕ → ℕ → Float → PressureState
state_of work row p density density0 =
    let rho = element_at work density in
    record {
      density0 = density0;
      pressure = element_at work (row + p);
      square = rho ⊗ rho;
      mass = element_at work (row + mass_slot);
    }

pub state_made : {b index : List ℕ} {d n : ℕ} → PassOver b index d n → {work : List Float}
    → Iterating (scene_of b) d n work
    → {p : Location} {i : ℕ} → FluidParticleOk b p i → i < n
    → {density0 : Float} → density0 ≡ double_at b (p.head + density0_offset)
    → {row slot column density : ℕ} → row ≡ row_at d i → slot ≡ pressure_slot d → column ≡ density_slot d
    → density ≡ column * n + i
    → PressureStateIs (scene_of b) (pressures_in d n work) i (state_of work row slot density density0)
state_made {d = d} {n} pass {work} q {i = i} here h e re pe ce de =
    rw (de, ce, re, pe)
    (record {
      density0 = e ∙ density0_at here;
      pressure = pressure_in d work i h;
      square = ap (λ r. r ⊗ r) (density_in q pass.size i h);
      mass = mass_in q pass.size i h;
    })

-- ---- a of METHOD 7.2

-- of the particle's state it is the rule's
pub acceleration_is : {s : Scene} {ps : List Float} {i : ℕ} {state : PressureState} → PressureStateIs s ps i state
    → (c : Contact)
    → acceleration_of s state c ≡ boundary_acceleration s (coefficients s) ps i c
unfolding acceleration_of boundary_acceleration
acceleration_is h c = rw (h.density0, h.pressure, h.square)

-- from the results of the code's calls: the contact at an offset names boundary particle j and has the gradient g
pub acceleration_made : {b : List ℕ} {d n : ℕ} {work : List Float} → Iterating (scene_of b) d n work
    → {at j k : ℕ} → ContactReady Boundary d b at → j ≡ target_at (starts_of Boundary b) b at → k ≡ volumes_at d n + j
    → (state : PressureState) {g x : Vector} → g ≡ vector_at d b (at + gradient_offset)
    → x ≡ g ⊡ (element_at work k ⊗ state.density0 ⊗ state.pressure ⊘ state.square)
    → x ≡ acceleration_of (scene_of b) state (contact_at d (starts_of Boundary b) b at)
unfolding acceleration_of boundary_mass contact_at
acceleration_made {b} {d} {n} {work} q {j = j} ready named ke state {g} ge xe =
    xe
    ∙ ap (λ v. g ⊡ (v ⊗ state.density0 ⊗ state.pressure ⊘ state.square))
    (ap (element_at work) ke ∙ volume_behind (scene_of b) d n q.volume j (boundary_named ready.target named refl))
    ∙ rw (ge, named)
