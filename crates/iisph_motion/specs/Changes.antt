-- What the last part of a step takes of a fluid particle and of its contacts, by the rules: the particle's pressure
-- state, a of METHOD 7.2 from it, and what a contact of each kind takes off the velocity change. Scaffolding: no
-- promise rests on it. Definitions only.
use Rattle.std.specs.Prelude.{ℕ, ◌≡◌, List, [], ◌∷◌, Float}
use Rattle.iisph_pressures.specs.IterationRows.{pressures_in, Iterating}
use Rattle.iisph_rows.specs.Rows.{quotient_slot, Rows}
use Rattle.iisph_rules.specs.Coefficients.{particle_mass, fluid_mass, boundary_mass, coefficients, coefficient}
use Rattle.iisph_rules.specs.Iteration.{pressure}
use Rattle.iisph_rules.specs.Step.{pressure_share}
use Rattle.math.specs.Real.{◌⊕◌, ◌⊗◌, ◌⊘◌}
use Rattle.math.specs.Vector.{Vector, ◌⊟◌, ◌⊡◌}
use Rattle.scene_format.specs.Scene.{Scene, Contact, particle}
use Rattle.iisph_motion.specs.declared.acceleration.PressureState.{PressureState}

-- ---- the share p / (rho × rho) of a particle, as it stands in its column

abbrev pub share_row : Scene → List Float → ℕ → List Float
share_row s ps i = pressure_share (coefficients s) ps i ∷ []

-- ---- the particle itself

-- the code's state is that of fluid particle i, where ps are the pressures
pub record PressureStateIs (s : Scene) (ps : List Float) (i : ℕ) (state : PressureState) : Type 0 where
  pub density0 : state.density0 ≡ (particle s i).density0
  pub pressure : state.pressure ≡ pressure ps i
  pub square : state.square ≡ (coefficient (coefficients s) i).density ⊗ (coefficient (coefficients s) i).density
  pub mass : state.mass ≡ particle_mass (particle s i)

-- ---- boundary contacts

-- `boundary_acceleration` from what it takes of the particle
unfoldable pub acceleration_of : Scene → PressureState → Contact → Vector
acceleration_of s state c = c.gradient ⊡ (boundary_mass s state.density0 c ⊗ state.pressure ⊘ state.square)

-- ---- what a contact of each kind takes off the velocity change of its owner; t is the step length

-- x is the owner's share
unfoldable pub fluid_change : Scene → List Float → Float → Float → Contact → Vector
fluid_change s ps t x c = c.gradient ⊡ (t ⊗ fluid_mass s c ⊗ (x ⊕ pressure_share (coefficients s) ps c.target))

unfoldable pub boundary_change : Scene → Float → PressureState → Contact → Vector
boundary_change s t state c = acceleration_of s state c ⊡ t

-- a velocity change less what a contact takes off it
abbrev pub less_by : (Contact → Vector) → Vector → Contact → Vector
less_by taken change c = change ⊟ taken c

-- ---- what the pass finds: the iterations' work list with the last pressures, and the share of each

pub record ChangesReady (s : Scene) (d n : ℕ) (work : List Float) : Type 0 where
  pub iteration : Iterating s d n work
  pub share : Rows d n (quotient_slot d) (share_row s (pressures_in d n work)) work
