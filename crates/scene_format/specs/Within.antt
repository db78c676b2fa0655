-- What a read may rely on: the record, the model or the models of a kind end within the bytes; and the name that a
-- contact has. Scaffolding of contracts: what the check decides is said without it. Definitions only.
use Rattle.std.specs.Prelude.{ℕ, ◌+◌, ◌≤◌, ◌<◌, ◌≡◌, List, length}
use Rattle.scene_format.specs.Format.{most_models, nameable_models, model_number, count_width, particles_at, model_at}
use Rattle.scene_format.specs.Format.{number_at, own_width, first_record, next_record, head_at, record_at}
use Rattle.scene_format.specs.declared.ContactName.{ContactName}
use Rattle.scene_format.specs.declared.Kind.{Kind}

-- the contact at an offset has this name
pub record NameIs (b : List ℕ) (at : ℕ) (r : ContactName) : Type 0 where
  pub model : r.model.0 ≡ model_at b at
  pub particle : r.particle.0 ≡ number_at b at
  pub below : r.model.0 < nameable_models

-- the record at an offset, of the model with that head
pub record RecordWithin (κ : Kind) (b : List ℕ) (head at : ℕ) : Type 0 where
  pub head_room : head + count_width ≤ length b
  pub own : at + own_width κ b head ≤ length b
  pub ends : next_record κ b head at ≤ length b

-- the model with that head
pub record ModelWithin (κ : Kind) (b : List ℕ) (head : ℕ) : Type 0 where
  pub head_room : head + count_width ≤ length b
  pub first : first_record κ head ≤ length b
  pub records : (j : ℕ) → j < particles_at κ b head → RecordWithin κ b head (record_at κ b head j).at

-- the models of a kind
pub record ModelsWithin (κ : Kind) (b : List ℕ) : Type 0 where
  pub few : model_number κ b ≤ most_models
  pub models : (m : ℕ) → m < model_number κ b → ModelWithin κ b (head_at κ b m)
