-- Boundary volumes and the coefficients of each fluid particle (METHOD 4 and 5; the Rust's functions are
-- named at each). Sums start at +0 and take the fluid contacts in list order, then the boundary contacts; every
-- operation rounds once, in the order written. Definitions only.
use Rattle.std.specs.Prelude.{ℕ, cond, List, [], get_or, Float}
use Rattle.math.specs.Real.{◌⊕◌, ◌⊗◌, ◌⊘◌, ⊝, +0, one, is_zero, total}
use Rattle.math.specs.Vector.{Vector, origin, ◌⊞◌, ◌⊟◌, ◌⊡◌, ◌·◌}
use Rattle.lists.specs.Lists.{fold, table}
use Rattle.timestep_manager.specs.Clock.{advanced}
use Rattle.timestep_manager.specs.declared.Clock.{Clock}
use Rattle.scene_format.specs.Scene.{Scene, Header, FluidParticle, BoundaryParticle, Contact, fluid_size, particle}
use Rattle.scene_format.specs.Scene.{boundary}

-- the clock before the step, with dt and inv_dt as `TimestepManager::new` leaves them, and as the step advances it
-- first
abbrev pub clock_before : Header → Clock
clock_before h =
    record { total_step_size = h.total_step_size; dt = +0; inv_dt = +0; remaining_time = h.remaining_time }

unfoldable pub clock_of : Scene → Clock
clock_of s = advanced (clock_before s.header)

-- dt is the advanced clock's, which is the step length (METHOD 2)
abbrev pub dt : Scene → Float
dt s = (clock_of s).dt

-- +0 on each axis
abbrev pub zero_vector : Scene → Vector
zero_vector s = origin s.header.axes

-- from a on over the contacts of p: f takes in a fluid contact, g a boundary contact
unfoldable pub over_contacts : {A : Type 0} → (A → Contact → A) → (A → Contact → A) → A → FluidParticle → A
over_contacts f g a p = fold g (fold f a p.fluid_contacts) p.boundary_contacts

-- ---- boundary volumes (METHOD 4)

-- `compute_boundary_volumes`: 1 / the sum of the weights, or 0 where the sum is zero
unfoldable pub volume_from : List Float → Float
volume_from weights = let denominator = total +0 weights in cond (is_zero denominator) +0 (one ⊘ denominator)

unfoldable pub boundary_volume : BoundaryParticle → Float
boundary_volume q = volume_from q.weights

-- ---- masses (METHOD 5.1)

-- `Fluid::particle_mass`: volume × rest density
unfoldable pub particle_mass : FluidParticle → Float
particle_mass p = p.volume ⊗ p.density0

-- m_j of a fluid contact
unfoldable pub fluid_mass : Scene → Contact → Float
fluid_mass s c = particle_mass (particle s c.target)

-- m_j of a boundary contact: boundary volume × the rest density of the owner's fluid
unfoldable pub boundary_mass : Scene → Float → Contact → Float
boundary_mass s density0 c = boundary_volume (boundary s c.target) ⊗ density0

-- ---- velocities before the pressures

-- `predict_advection` and `integrate_and_clear_accelerations`: acceleration gains gravity; 0 + acceleration × dt
unfoldable pub velocity_change : Scene → FluidParticle → Vector
velocity_change s p = zero_vector s ⊞ (p.acceleration ⊞ s.header.gravity) ⊡ dt s

-- velocity plus velocity change
unfoldable pub advected_velocity : Scene → FluidParticle → Vector
advected_velocity s p = p.velocity ⊞ velocity_change s p

-- ---- what a contact names, as its owner sees it: m_j and v_j of METHOD 5.1 and 5.2

pub record Neighbour : Type 0 where
  pub mass : Float
  pub velocity : Vector

unfoldable pub fluid_neighbour : Scene → Contact → Neighbour
fluid_neighbour s c = record { mass = fluid_mass s c; velocity = advected_velocity s (particle s c.target) }

-- the v of a boundary particle is its velocity
unfoldable pub boundary_neighbour : Scene → Float → Contact → Neighbour
boundary_neighbour s density0 c =
    record { mass = boundary_mass s density0 c; velocity = (boundary s c.target).velocity }

-- from a on over the contacts of p, each with what it names
unfoldable pub over_neighbours : {A : Type 0} → Scene → FluidParticle → (Neighbour → A → Contact → A) → A → A
over_neighbours s p f a =
    over_contacts (λ sum c. f (fluid_neighbour s c) sum c) (λ sum c. f (boundary_neighbour s p.density0 c) sum c) a p

-- ---- coefficients: rho is the particle's density

-- `compute_densities`: sum of m_j × weight
unfoldable pub density : Scene → FluidParticle → Float
density s p = over_neighbours s p (λ j sum c. sum ⊕ j.mass ⊗ c.weight) +0

-- sum of m_j × ((v_i - v_j) · g), where v is v_i
unfoldable pub delta : Scene → FluidParticle → Float
delta s p = let v =
    advected_velocity s p in over_neighbours s p (λ j sum c. sum ⊕ j.mass ⊗ ((v ⊟ j.velocity) · c.gradient)) +0

-- `compute_predicted_densities`: density + delta × dt
unfoldable pub predicted_density : Scene → FluidParticle → Float → Float
predicted_density s p rho = rho ⊕ delta s p ⊗ dt s

-- ((-dt) × dt) / (rho × rho), f of METHOD 5.5
unfoldable pub dii_factor : Scene → Float → Float
dii_factor s rho = ⊝ (dt s) ⊗ dt s ⊘ (rho ⊗ rho)

-- `compute_dii`: sum of g × (m_j × f)
unfoldable pub dii : Scene → FluidParticle → Float → Vector
dii s p rho = let f = dii_factor s rho in over_neighbours s p (λ j sum c. sum ⊞ c.gradient ⊡ (j.mass ⊗ f))
    (zero_vector s)

-- ((dt × dt) × m_i) / (rho × rho), e of METHOD 5.6
unfoldable pub dji_factor : Scene → FluidParticle → Float → Float
dji_factor s p rho = dt s ⊗ dt s ⊗ particle_mass p ⊘ (rho ⊗ rho)

-- `compute_aii`: sum of m_j × ((dii_i - g × e) · g), where d is dii_i
unfoldable pub aii : Scene → FluidParticle → Float → Vector → Float
aii s p rho d = let e =
    dji_factor s p rho in over_neighbours s p (λ j sum c. sum ⊕ j.mass ⊗ ((d ⊟ c.gradient ⊡ e) · c.gradient)) +0

-- ---- the coefficients of a particle, and of all

pub record Coefficients : Type 0 where
  pub density : Float
  pub predicted_density : Float
  pub dii : Vector
  pub aii : Float

unfoldable pub coefficients_of : Scene → FluidParticle → Coefficients
coefficients_of s p =
    let rho = density s p in
    let d = dii s p rho in
    record { density = rho; predicted_density = predicted_density s p rho; dii = d; aii = aii s p rho d }

-- of each fluid particle, by its number
unfoldable pub coefficients : Scene → List Coefficients
coefficients s = table (fluid_size s) (λ i. coefficients_of s (particle s i))

abbrev pub no_coefficients : Coefficients
no_coefficients = record { density = +0; predicted_density = +0; dii = []; aii = +0 }

abbrev pub coefficient : List Coefficients → ℕ → Coefficients
coefficient co i = get_or co i no_coefficients
