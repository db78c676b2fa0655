-- Where the fields of a packed scene stand and how wide each part is, for d axes (FORMAT 1); how many there are is said
-- by the scene's form, and nothing else knows of a version. Fluids and boundaries, the customer's walls, are two kinds
-- of models with one description: what is said of models is said once, by their kind.
-- Total: of bytes that the check refuses it says nothing useful. Definitions only.
use Rattle.std.specs.Prelude.{ℕ, ◌+◌, ◌*◌, ◌/◌, ◌%◌, Bool, cond, ◌||◌, eqb, get_or}
use mathlib.Core.List.{List, map, flatten}
use Rattle.lists.specs.Lists.{iter, trail, starts_from}
use Rattle.math.specs.Vector.{plane, space}
use Rattle.scene_format.specs.Bytes.{byte_at, be16_at, double_width}
use Rattle.scene_format.specs.declared.Criterion.{Criterion}
use Rattle.scene_format.specs.declared.Criterion.TheVariants.{Salva, Ihmsen}
use Rattle.scene_format.specs.declared.Kind.{Kind}
use Rattle.scene_format.specs.declared.Kind.TheVariants.{Fluid, Boundary}
use Rattle.scene_format.specs.declared.Summation.{Summation}
use Rattle.scene_format.specs.declared.Summation.TheVariants.{InOrder, ByHalves}

abbrev pub vector_width : ℕ → ℕ
vector_width d = double_width * d

-- ---- limits: models of a kind, particles of a model, particles of a kind; models, and particles of one, that a
-- ---- contact has names for

abbrev pub most_models : ℕ
most_models = 8

abbrev pub most_particles : ℕ
most_particles = 4096

abbrev pub most_of_a_kind : ℕ
most_of_a_kind = most_models * most_particles

abbrev pub nameable_models : ℕ
nameable_models = 16

abbrev pub nameable_particles : ℕ
nameable_particles = 4096

-- ---- the header

-- the first two bytes hold two numbers each, in halves of four bits
abbrev pub half_modulus : ℕ
half_modulus = 16

abbrev pub upper_half : ℕ → ℕ
upper_half x = x / half_modulus

abbrev pub lower_half : ℕ → ℕ
lower_half x = x % half_modulus

-- the version: the first; the second, which has its layout and names a rule; and the fourth, which is the second in the
-- plane
abbrev pub version_of : List ℕ → ℕ
version_of b = upper_half (byte_at b 0)

abbrev pub first_version : ℕ
first_version = 1

abbrev pub ruled_version : ℕ
ruled_version = 2

abbrev pub flat_version : ℕ
flat_version = 4

unfoldable pub version_known : ℕ → Bool
version_known version = eqb version first_version || eqb version ruled_version || eqb version flat_version

-- how many models of a kind there are
abbrev pub model_number : Kind → List ℕ → ℕ
model_number Fluid b = lower_half (byte_at b 0)
model_number Boundary b = upper_half (byte_at b 1)

-- the number of the rule by which the iterations stop, and the greatest one of a version: the first has zeros there
abbrev pub rule_of : List ℕ → ℕ
rule_of b = lower_half (byte_at b 1)

abbrev pub last_rule : ℕ
last_rule = 3

abbrev pub most_rule : ℕ → ℕ
most_rule version = cond (eqb version first_version) 0 last_rule

-- what a version has of its own: the number of axes, and the greatest rule
pub record Form : Type 0 where
  pub axes : ℕ
  pub most_rule : ℕ

abbrev pub form_of : List ℕ → Form
form_of b =
    let version = version_of b in
    record { axes = cond (eqb version flat_version) plane space; most_rule = most_rule version }

unfoldable pub axes_of : List ℕ → ℕ
axes_of b = (form_of b).axes

-- what a rule's number stands for, two choices: a criterion, by its lowest bit, and by the bit above that how the terms
-- of a fluid are summed
abbrev pub criteria : ℕ
criteria = 2

unfoldable pub criterion_of : ℕ → Criterion
criterion_of rule = cond (eqb (rule % criteria) 0) Salva Ihmsen

unfoldable pub summation_of : ℕ → Summation
summation_of rule = cond (eqb (rule / criteria) 0) InOrder ByHalves

abbrev pub min_pressure_iter_offset : ℕ
min_pressure_iter_offset = 2

abbrev pub max_pressure_iter_offset : ℕ
max_pressure_iter_offset = 3

abbrev pub total_step_size_offset : ℕ
total_step_size_offset = 4

abbrev pub remaining_time_offset : ℕ
remaining_time_offset = total_step_size_offset + double_width

abbrev pub max_density_error_offset : ℕ
max_density_error_offset = remaining_time_offset + double_width

abbrev pub gravity_offset : ℕ
gravity_offset = max_density_error_offset + double_width

-- three numbers that stand by themselves, and gravity
abbrev pub header_doubles : ℕ → ℕ
header_doubles d = 3 + d

abbrev pub header_width : ℕ → ℕ
header_width d = gravity_offset + vector_width d

-- ---- the head of a model: the count of its particles; then, of a fluid, its rest density

abbrev pub count_width : ℕ
count_width = 2

-- a boundary's count leaves the first bit to "keeps forces"
abbrev pub count_modulus : Kind → ℕ
count_modulus Fluid = 65536
count_modulus Boundary = 32768

abbrev pub density0_offset : ℕ
density0_offset = count_width

abbrev pub head_width : Kind → ℕ
head_width Fluid = density0_offset + double_width
head_width Boundary = count_width

-- how many particles the model with that head has
abbrev pub particles_at : Kind → List ℕ → ℕ → ℕ
particles_at κ b head = be16_at b head % count_modulus κ

-- 1 for yes, 0 for no
abbrev pub bit : Bool → ℕ
bit answer = cond answer 1 0

-- whether a boundary keeps forces: 1 or 0
abbrev pub keeps_at : List ℕ → ℕ → ℕ
keeps_at b head = be16_at b head / count_modulus Boundary

-- ---- a contact: its name, the weight and, in a fluid record, the gradient

abbrev pub name_width : ℕ
name_width = 2

-- the model number in four bits, the particle number in twelve
abbrev pub model_at : List ℕ → ℕ → ℕ
model_at b at = be16_at b at / nameable_particles

abbrev pub number_at : List ℕ → ℕ → ℕ
number_at b at = be16_at b at % nameable_particles

abbrev pub weight_offset : ℕ
weight_offset = name_width

abbrev pub gradient_offset : ℕ
gradient_offset = weight_offset + double_width

abbrev pub contact_doubles : ℕ → ℕ
contact_doubles d = 1 + d

abbrev pub contact_width : ℕ → ℕ
contact_width d = gradient_offset + vector_width d

abbrev pub boundary_contact_doubles : ℕ
boundary_contact_doubles = 1

abbrev pub boundary_contact_width : ℕ
boundary_contact_width = gradient_offset

-- ---- a fluid record: position, velocity, acceleration, volume, warm pressure, a count for each kind of contact, then
-- ---- the contacts with fluid particles and those with boundary particles

-- three vectors, volume and warm pressure
abbrev pub record_doubles : ℕ → ℕ
record_doubles d = 3 * d + 2

abbrev pub velocity_offset : ℕ → ℕ
velocity_offset d = vector_width d

abbrev pub acceleration_offset : ℕ → ℕ
acceleration_offset d = 2 * vector_width d

abbrev pub volume_offset : ℕ → ℕ
volume_offset d = 3 * vector_width d

abbrev pub warm_pressure_offset : ℕ → ℕ
warm_pressure_offset d = volume_offset d + double_width

abbrev pub contact_count_offset : Kind → ℕ → ℕ
contact_count_offset Fluid d = warm_pressure_offset d + double_width
contact_count_offset Boundary d = warm_pressure_offset d + double_width + 1

abbrev pub record_width : ℕ → ℕ
record_width d = warm_pressure_offset d + double_width + 2

-- of the record at an offset: how many contacts of a kind there are, and where they begin
abbrev pub contact_count : Kind → List ℕ → ℕ → ℕ
contact_count κ b at = byte_at b (at + contact_count_offset κ (axes_of b))

abbrev pub contacts_start : Kind → List ℕ → ℕ → ℕ
contacts_start Fluid b at = at + record_width (axes_of b)
contacts_start Boundary b at = at + record_width (axes_of b) + contact_width (axes_of b) * contact_count Fluid b at

-- ---- a boundary record: velocity, force if k is 1 (0 if forces are not kept), a count, the contacts, which are with
-- ---- boundary particles

abbrev pub boundary_record_doubles : ℕ → ℕ → ℕ
boundary_record_doubles d k = d + d * k

abbrev pub force_offset : ℕ → ℕ
force_offset d = vector_width d

abbrev pub boundary_count_offset : ℕ → ℕ → ℕ
boundary_count_offset d k = vector_width d + vector_width d * k

abbrev pub boundary_record_width : ℕ → ℕ → ℕ
boundary_record_width d k = boundary_count_offset d k + 1

abbrev pub boundary_contact_count : List ℕ → ℕ → ℕ → ℕ
boundary_contact_count b k at = byte_at b (at + boundary_count_offset (axes_of b) k)

-- ---- records and models

-- a record's bytes before its contacts, by the head of its model
unfoldable pub own_width : Kind → List ℕ → ℕ → ℕ
own_width Fluid b head = record_width (axes_of b)
own_width Boundary b head = boundary_record_width (axes_of b) (keeps_at b head)

-- the bytes of a record's contacts, by the same head
unfoldable pub contacts_width : Kind → List ℕ → ℕ → ℕ → ℕ
contacts_width Fluid b head at = contact_width (axes_of b) * (contact_count Fluid b at + contact_count Boundary b at)
contacts_width Boundary b head at = boundary_contact_width * boundary_contact_count b (keeps_at b head) at

-- where the first record of the model with that head stands, and where the one at an offset ends
abbrev pub first_record : Kind → ℕ → ℕ
first_record κ head = head + head_width κ

unfoldable pub next_record : Kind → List ℕ → ℕ → ℕ → ℕ
next_record κ b head at = at + own_width κ b head + contacts_width κ b head at

-- where that model ends
unfoldable pub model_end : Kind → List ℕ → ℕ → ℕ
model_end κ b head = iter (particles_at κ b head) (next_record κ b head) (first_record κ head)

-- the fluids follow the header, the boundaries the fluids
unfoldable pub first_head : Kind → List ℕ → ℕ
first_head Fluid b = header_width (axes_of b)
first_head Boundary b = iter (model_number Fluid b) (model_end Fluid b) (header_width (axes_of b))

-- the head of model m of a kind, as long as there are so many
abbrev pub head_at : Kind → List ℕ → ℕ → ℕ
head_at κ b m = iter m (model_end κ b) (first_head κ b)

-- of a kind: the heads, the counts, whether each model keeps forces, and the number of its first particle among all of
-- the kind
unfoldable pub heads_of : Kind → List ℕ → List ℕ
heads_of κ b = trail (model_number κ b) (model_end κ b) (first_head κ b)

unfoldable pub counts_of : Kind → List ℕ → List ℕ
counts_of κ b = map (particles_at κ b) (heads_of κ b)

unfoldable pub keeps_of : Kind → List ℕ → List ℕ
keeps_of κ b = map (keeps_at b) (heads_of κ b)

abbrev pub starts_of : Kind → List ℕ → List ℕ
starts_of κ b = starts_from 0 (counts_of κ b)

-- ---- where a record stands: its own offset, and that of its model's head

pub record Location : Type 0 where
  pub head : ℕ
  pub at : ℕ

-- record j of the model with that head, and all of them
abbrev pub record_at : Kind → List ℕ → ℕ → ℕ → Location
record_at κ b head j = record { head = head; at = iter j (next_record κ b head) (first_record κ head) }

unfoldable pub model_locations : Kind → List ℕ → ℕ → List Location
model_locations κ b head =
    map (λ at. record { head = head; at = at })
    (trail (particles_at κ b head) (next_record κ b head) (first_record κ head))

-- of a kind, model after model
unfoldable pub locations_of : Kind → List ℕ → List Location
locations_of κ b = flatten (map (model_locations κ b) (heads_of κ b))

-- what a number past the end names
abbrev pub nowhere : Location
nowhere = record { head = 0; at = 0 }

-- the particle with a number among all of its kind
abbrev pub location_of : Kind → List ℕ → ℕ → Location
location_of κ b i = get_or (locations_of κ b) i nowhere
