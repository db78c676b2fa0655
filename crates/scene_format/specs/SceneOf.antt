-- The scene that a packed scene stands for (FORMAT 1, METHOD 3). It knows nothing of rules. Definitions only.
use Rattle.std.specs.Prelude.{ℕ, zero, suc, ◌+◌, ◌*◌, List, [], map, eqb, Float, get_or}
use Rattle.lists.specs.Lists.{table}
use Rattle.math.specs.Vector.{Vector}
use Rattle.scene_format.specs.Bytes.{byte_at, double_at, vector_at}
use Rattle.scene_format.specs.Format.{axes_of, rule_of, criterion_of, summation_of, min_pressure_iter_offset}
use Rattle.scene_format.specs.Format.{max_pressure_iter_offset, total_step_size_offset}
use Rattle.scene_format.specs.Format.{remaining_time_offset, max_density_error_offset, gravity_offset, density0_offset}
use Rattle.scene_format.specs.Format.{keeps_at, model_at, number_at, weight_offset, gradient_offset, contact_width}
use Rattle.scene_format.specs.Format.{boundary_contact_width, velocity_offset, acceleration_offset, volume_offset}
use Rattle.scene_format.specs.Format.{warm_pressure_offset, contact_count, contacts_start, force_offset}
use Rattle.scene_format.specs.Format.{boundary_record_width, boundary_contact_count, Location, counts_of, starts_of}
use Rattle.scene_format.specs.Format.{locations_of}
use Rattle.scene_format.specs.Scene.{Scene, Header, FluidParticle, BoundaryParticle, Contact}
use Rattle.scene_format.specs.declared.Kind.TheVariants.{Fluid, Boundary}

-- ---- contacts, for d axes; `starts` are those of the kind of particle that they name

-- the number of the named particle among all of its kind
unfoldable pub target_at : List ℕ → List ℕ → ℕ → ℕ
target_at starts b at = get_or starts (model_at b at) 0 + number_at b at

unfoldable pub contact_at : ℕ → List ℕ → List ℕ → ℕ → Contact
contact_at d starts b at =
    record {
      target = target_at starts b at;
      weight = double_at b (at + weight_offset);
      gradient = vector_at d b (at + gradient_offset);
    }

unfoldable pub contact_list : ℕ → List ℕ → List ℕ → ℕ → ℕ → List Contact
contact_list d starts b n at = table n (λ k. contact_at d starts b (at + contact_width d * k))

-- ---- records

-- of the starts of fluids and of boundaries
unfoldable pub fluid_particle_at : List ℕ → List ℕ → List ℕ → Location → FluidParticle
fluid_particle_at fs bs b p =
    let d = axes_of b in
    let at = p.at in
    record {
      density0 = double_at b (p.head + density0_offset);
      position = vector_at d b at;
      velocity = vector_at d b (at + velocity_offset d);
      acceleration = vector_at d b (at + acceleration_offset d);
      volume = double_at b (at + volume_offset d);
      warm_pressure = double_at b (at + warm_pressure_offset d);
      fluid_contacts = contact_list d fs b (contact_count Fluid b at) (contacts_start Fluid b at);
      boundary_contacts = contact_list d bs b (contact_count Boundary b at) (contacts_start Boundary b at);
    }

-- a boundary that keeps no forces has none in its records
unfoldable pub force_at : ℕ → List ℕ → ℕ → Vector
force_at zero b at = []
force_at (suc k) b at = vector_at (axes_of b) b at

-- the weights of n contacts of a boundary particle
abbrev pub boundary_weights : List ℕ → ℕ → ℕ → List Float
boundary_weights b n at = table n (λ j. double_at b (at + boundary_contact_width * j + weight_offset))

unfoldable pub boundary_particle_at : List ℕ → Location → BoundaryParticle
boundary_particle_at b p =
    let d = axes_of b in
    let at = p.at in
    let k = keeps_at b p.head in
    record {
      velocity = vector_at d b at;
      keeps_forces = eqb k 1;
      force = force_at k b (at + force_offset d);
      weights = boundary_weights b (boundary_contact_count b k at) (at + boundary_record_width d k);
    }

-- ---- the scene

unfoldable pub header_of : List ℕ → Header
header_of b =
    record {
      axes = axes_of b;
      criterion = criterion_of (rule_of b);
      summation = summation_of (rule_of b);
      min_pressure_iter = byte_at b min_pressure_iter_offset;
      max_pressure_iter = byte_at b max_pressure_iter_offset;
      total_step_size = double_at b total_step_size_offset;
      remaining_time = double_at b remaining_time_offset;
      max_density_error = double_at b max_density_error_offset;
      gravity = vector_at (axes_of b) b gravity_offset;
    }

unfoldable pub scene_of : List ℕ → Scene
scene_of b =
    record {
      header = header_of b;
      fluid_counts = counts_of Fluid b;
      fluid_particles = map (fluid_particle_at (starts_of Fluid b) (starts_of Boundary b) b) (locations_of Fluid b);
      boundary_particles = map (boundary_particle_at b) (locations_of Boundary b);
    }
