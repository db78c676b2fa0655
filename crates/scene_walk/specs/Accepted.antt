-- What a packed scene whose fields are accepted gives, field by field: the statements that contracts of a solver ask
-- for and that proofs/ shows of every accepted scene. Scaffolding: no promise rests on it. Definitions only.
use Rattle.std.specs.Prelude.{ℕ, ◌+◌, ◌*◌, ◌<◌, ◌≤◌, ◌≡◌, true, List, length}
use Rattle.scene_format.specs.Bytes.{FiniteAt, AllFinite}
use Rattle.scene_format.specs.Format.{axes_of, most_models, version_of, version_known, rule_of, most_rule}
use Rattle.scene_format.specs.Format.{model_number}
use Rattle.scene_format.specs.Format.{total_step_size_offset, remaining_time_offset, max_density_error_offset}
use Rattle.scene_format.specs.Format.{gravity_offset}
use Rattle.scene_format.specs.Format.{header_width, weight_offset, gradient_offset, contact_width}
use Rattle.scene_format.specs.Format.{boundary_contact_width}
use Rattle.scene_format.specs.Format.{velocity_offset, acceleration_offset, volume_offset, warm_pressure_offset}
use Rattle.scene_format.specs.Format.{record_width}
use Rattle.scene_format.specs.Format.{contact_count, contacts_start, force_offset, boundary_record_width}
use Rattle.scene_format.specs.Format.{boundary_contact_count}
use Rattle.scene_format.specs.declared.Kind.{Kind}
use Rattle.scene_format.specs.declared.Kind.TheVariants.{Fluid, Boundary}

pub record HeaderOk (b : List ℕ) : Type 0 where
  pub room : header_width (axes_of b) ≤ length b
  pub version : version_known (version_of b) ≡ true
  pub few : (κ : Kind) → model_number κ b ≤ most_models
  pub rule : rule_of b ≤ most_rule (version_of b)
  pub total_step_size : FiniteAt b total_step_size_offset
  pub remaining_time : FiniteAt b remaining_time_offset
  pub max_density_error : FiniteAt b max_density_error_offset
  pub gravity : AllFinite b gravity_offset (axes_of b)

-- a contact of a fluid record, for d axes
pub record ContactOk (d : ℕ) (b : List ℕ) (at : ℕ) : Type 0 where
  pub weight : FiniteAt b (at + weight_offset)
  pub gradient : AllFinite b (at + gradient_offset) d

-- n of them
abbrev pub ContactsOk : ℕ → List ℕ → ℕ → ℕ → Type 0
ContactsOk d b n at = (k : ℕ) → k < n → ContactOk d b (at + contact_width d * k)

pub record FluidRecordOk (b : List ℕ) (at : ℕ) : Type 0 where
  pub position : AllFinite b at (axes_of b)
  pub velocity : AllFinite b (at + velocity_offset (axes_of b)) (axes_of b)
  pub acceleration : AllFinite b (at + acceleration_offset (axes_of b)) (axes_of b)
  pub volume : FiniteAt b (at + volume_offset (axes_of b))
  pub warm_pressure : FiniteAt b (at + warm_pressure_offset (axes_of b))
  pub counts : at + record_width (axes_of b) ≤ length b
  pub contacts : (κ : Kind) → ContactsOk (axes_of b) b (contact_count κ b at) (contacts_start κ b at)
  pub middle : contacts_start Boundary b at ≤ length b
  pub ends : at + record_width (axes_of b) + contact_width (axes_of b) *
      (contact_count Fluid b at + contact_count Boundary b at)
      ≤ length b

-- k is 1 where forces are kept
pub record BoundaryRecordOk (b : List ℕ) (k at : ℕ) : Type 0 where
  pub velocity : AllFinite b at (axes_of b)
  pub force : AllFinite b (at + force_offset (axes_of b)) ((axes_of b) * k)
  pub count : at + boundary_record_width (axes_of b) k ≤ length b
  pub weights : (j : ℕ) → j < boundary_contact_count b k at
      → FiniteAt b (at + boundary_record_width (axes_of b) k + boundary_contact_width * j + weight_offset)
  pub ends : at + boundary_record_width (axes_of b) k + boundary_contact_width * boundary_contact_count b k at
      ≤ length b
