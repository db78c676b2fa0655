-- The walk through the fields of a packed scene, in the order in which they stand: each is tested present (refusal 1)
-- and then by its own rule (2, 3, 4, 6); then come bytes that follow (5) (FORMAT 2.2). Definitions only.
use Rattle.std.specs.Prelude.{ℕ, List}
use Rattle.scene_fields.specs.Fields.{◌▹◌, times, plain, double, count, halves, ended}
use Rattle.scene_format.specs.Format.{axes_of, version_of, most_rule, model_number, particles_at}
use Rattle.scene_format.specs.Format.{keeps_at, name_width, contact_count}
use Rattle.scene_format.specs.Format.{header_doubles, contact_doubles, boundary_contact_doubles, record_doubles}
use Rattle.scene_format.specs.Format.{boundary_record_doubles, boundary_contact_count}
use Rattle.scene_format.specs.declared.Kind.{Kind}
use Rattle.scene_format.specs.declared.Kind.TheVariants.{Fluid, Boundary}
use Rattle.scene_format.specs.Refusals.{Walk}
use Rattle.scene_fields.specs.declared.fields.Half.TheVariants.{Version, Rule, ModelCount}

-- the version and the number of fluids, the number of boundaries and the rule, the least and the most iterations; step
-- length, remaining time, error limit and gravity
unfoldable pub header : List ℕ → ℕ → Walk
header b at =
    halves b Version ModelCount at
    ▹ halves b ModelCount (Rule (most_rule (version_of b)))
    ▹ plain b 1
    ▹ plain b 1
    ▹ times (header_doubles (axes_of b)) (double b)

-- a contact: its name, and n doubles
unfoldable pub contact : ℕ → List ℕ → ℕ → Walk
contact n b at = plain b name_width at ▹ times n (double b)

-- position, velocity, acceleration, volume, warm pressure, two counts, the contacts, each with a weight and a gradient
unfoldable pub fluid_record : List ℕ → ℕ → Walk
fluid_record b at =
    times (record_doubles (axes_of b)) (double b) at
    ▹ plain b 1
    ▹ plain b 1
    ▹ times (contact_count Fluid b at) (contact (contact_doubles (axes_of b)) b)
    ▹ times (contact_count Boundary b at) (contact (contact_doubles (axes_of b)) b)

-- velocity, force if k is 1, a count, the contacts, each with a weight
unfoldable pub boundary_record : List ℕ → ℕ → ℕ → Walk
boundary_record b k at =
    times (boundary_record_doubles (axes_of b) k) (double b) at
    ▹ plain b 1
    ▹ times (boundary_contact_count b k at) (contact boundary_contact_doubles b)

-- a record of the model whose head is at an offset
unfoldable pub record_of : Kind → List ℕ → ℕ → ℕ → Walk
record_of Fluid b head = fluid_record b
record_of Boundary b head = boundary_record b (keeps_at b head)

-- what stands before the first record: the count, and a fluid's rest density
unfoldable pub head_of : Kind → List ℕ → ℕ → Walk
head_of Fluid b at = count Fluid b at ▹ double b
head_of Boundary b at = count Boundary b at

-- a model with its records
unfoldable pub model_of : Kind → List ℕ → ℕ → Walk
model_of κ b head = head_of κ b head ▹ times (particles_at κ b head) (record_of κ b head)

-- all models of a kind
unfoldable pub models_of : Kind → List ℕ → ℕ → Walk
models_of κ b = times (model_number κ b) (model_of κ b)

-- all fields
unfoldable pub fields : List ℕ → Walk
fields b = header b 0 ▹ models_of Fluid b ▹ models_of Boundary b ▹ ended b
