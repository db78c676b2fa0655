-- The scene that a step works on: all fluid particles in one list, fluid by fluid, and all particles of boundaries, the
-- customer's walls, in one list, boundary by boundary (METHOD 3). It knows nothing of bytes. Definitions only.
use Rattle.std.specs.Prelude.{ℕ, Bool, false, List, [], Float, length, get_or}
use Rattle.math.specs.Real.{+0}
use Rattle.math.specs.Vector.{Vector}
use Rattle.scene_format.specs.declared.Criterion.{Criterion}
use Rattle.scene_format.specs.declared.Kind.{Kind}
use Rattle.scene_format.specs.declared.Kind.TheVariants.{Fluid, Boundary}
use Rattle.scene_format.specs.declared.Summation.{Summation}

-- `target` is the named particle's number in the flat list of its kind
pub record Contact : Type 0 where
  pub target : ℕ
  pub weight : Float
  pub gradient : Vector

-- `density0` is the rest density of its fluid
pub record FluidParticle : Type 0 where
  pub density0 : Float
  pub position : Vector
  pub velocity : Vector
  pub acceleration : Vector
  pub volume : Float
  pub warm_pressure : Float
  pub fluid_contacts : List Contact
  pub boundary_contacts : List Contact

-- `force` is empty where its boundary keeps no forces; `weights` are those of its contacts, which are with boundary
-- particles
pub record BoundaryParticle : Type 0 where
  pub velocity : Vector
  pub keeps_forces : Bool
  pub force : Vector
  pub weights : List Float

-- the number of axes, the criterion by which the iterations stop, how the terms of its error are summed, the least and
-- the most iterations, the step length, the remaining time, the error limit, gravity
pub record Header : Type 0 where
  pub axes : ℕ
  pub criterion : Criterion
  pub summation : Summation
  pub min_pressure_iter : ℕ
  pub max_pressure_iter : ℕ
  pub total_step_size : Float
  pub remaining_time : Float
  pub max_density_error : Float
  pub gravity : Vector

-- `fluid_counts` says how many of the particles each fluid has
pub record Scene : Type 0 where
  pub header : Header
  pub fluid_counts : List ℕ
  pub fluid_particles : List FluidParticle
  pub boundary_particles : List BoundaryParticle

-- what a number past the end of a list names
abbrev pub no_fluid_particle : FluidParticle
no_fluid_particle =
    record {
      density0 = +0;
      position = [];
      velocity = [];
      acceleration = [];
      volume = +0;
      warm_pressure = +0;
      fluid_contacts = [];
      boundary_contacts = [];
    }

abbrev pub no_boundary_particle : BoundaryParticle
no_boundary_particle = record { velocity = []; keeps_forces = false; force = []; weights = [] }

unfoldable pub fluid_size : Scene → ℕ
fluid_size s = length s.fluid_particles

unfoldable pub boundary_size : Scene → ℕ
boundary_size s = length s.boundary_particles

unfoldable pub size_of : Kind → Scene → ℕ
size_of Fluid s = fluid_size s
size_of Boundary s = boundary_size s

unfoldable pub particle : Scene → ℕ → FluidParticle
particle s i = get_or s.fluid_particles i no_fluid_particle

unfoldable pub boundary : Scene → ℕ → BoundaryParticle
boundary s j = get_or s.boundary_particles j no_boundary_particle
