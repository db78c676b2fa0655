-- The check of a packed scene (FORMAT 2.2): the walk through the fields, then the contacts' names (refusal 7), for
-- which the counts of all models must be known. A particle number is below its model's count, which is 0 for a model
-- that is not there. Definitions only.
use Rattle.std.specs.Prelude.{ℕ, ◌+◌, List, leb, get_or}
use Rattle.scene_walk.specs.Walk.{fields}
use Rattle.scene_fields.specs.Fields.{◌▹◌, times, refused_if}
use Rattle.scene_format.specs.Format.{axes_of, model_number, header_width, particles_at, keeps_at, model_at, number_at}
use Rattle.scene_format.specs.Format.{contact_width, boundary_contact_width, contact_count, contacts_start}
use Rattle.scene_format.specs.Format.{boundary_record_width, boundary_contact_count, first_record, counts_of}
use Rattle.scene_format.specs.declared.Kind.{Kind}
use Rattle.scene_format.specs.declared.Kind.TheVariants.{Fluid, Boundary}
use Rattle.scene_format.specs.declared.Refusal.TheVariants.{DanglingContact}
use Rattle.scene_format.specs.Refusals.{Walk}
use Rattle.std.specs.declared.result.Result.TheVariants.{Ok}

-- ---- names

-- one contact of w bytes
unfoldable pub name : List ℕ → List ℕ → ℕ → ℕ → Walk
name b counts w at = refused_if (leb (get_or counts (model_at b at) 0) (number_at b at)) (DanglingContact at)
    (Ok (at + w))

-- a list of n contacts
unfoldable pub names : List ℕ → List ℕ → ℕ → ℕ → ℕ → Walk
names b counts w n = times n (name b counts w)

-- fluid contacts name fluids, boundary contacts boundaries
unfoldable pub record_names_of : Kind → List ℕ → ℕ → ℕ → Walk
record_names_of Fluid b head at =
    names b (counts_of Fluid b) (contact_width (axes_of b)) (contact_count Fluid b at) (contacts_start Fluid b at)
    ▹ names b (counts_of Boundary b) (contact_width (axes_of b)) (contact_count Boundary b at)
record_names_of Boundary b head at =
    let k = keeps_at b head in
    names b (counts_of Boundary b) boundary_contact_width (boundary_contact_count b k at)
    (at + boundary_record_width (axes_of b) k)

unfoldable pub model_names_of : Kind → List ℕ → ℕ → Walk
model_names_of κ b head = times (particles_at κ b head) (record_names_of κ b head) (first_record κ head)

unfoldable pub models_names_of : Kind → List ℕ → ℕ → Walk
models_names_of κ b = times (model_number κ b) (model_names_of κ b)

unfoldable pub all_names : List ℕ → Walk
all_names b = models_names_of Fluid b (header_width (axes_of b)) ▹ models_names_of Boundary b

-- ---- the whole check: refusals 1 to 7, or the scene's length

unfoldable pub checked : List ℕ → Walk
checked b = fields b ▹ (λ end. all_names b)
