-- The check of one contact list of a packed scene: how its walk ends, and how many looks that takes. Definitions only.
use Rattle.std.specs.Prelude.{ℕ, ◌+◌, Bool, ◌&&◌, List, ltb}
use Rattle.lists.specs.Lists.{choose}
use Rattle.scene_walk.specs.Walk.{fields}
use Rattle.scene_format.specs.Format.{axes_of, model_number, particles_at, keeps_at, contact_width}
use Rattle.scene_format.specs.Format.{boundary_contact_width}
use Rattle.scene_format.specs.Format.{contact_count, contacts_start, boundary_record_width, boundary_contact_count}
use Rattle.scene_format.specs.Format.{head_at}
use Rattle.scene_format.specs.Format.{counts_of, Location, record_at}
use Rattle.scene_format.specs.declared.Kind.{Kind}
use Rattle.scene_format.specs.declared.Kind.TheVariants.{Fluid, Boundary}
use Rattle.scene_format.specs.Refusals.{Walk}
use Rattle.scene_format.specs.declared.Refusal.{Refusal}
use Rattle.scene_check.specs.Looks.{names_looked}
use Rattle.scene_check.specs.declared.contact_list.Looked.{Looked}
use Rattle.scene_lists.specs.declared.Contacts.{Contacts}
use Rattle.scene_lists.specs.declared.Contacts.TheVariants.{FluidFluid, FluidBoundary, BoundaryBoundary}
use Rattle.std.specs.declared.result.Result.{Result}
use Rattle.std.specs.declared.option.Option.{Option}
use Rattle.std.specs.declared.result.Result.TheVariants.{Ok, Err}
use Rattle.std.specs.declared.option.Option.TheVariants.{Some, None}

-- ---- a list

-- whose contacts it holds, and what they name
unfoldable pub owner_of : Contacts → Kind
owner_of FluidFluid = Fluid
owner_of FluidBoundary = Fluid
owner_of BoundaryBoundary = Boundary

unfoldable pub named_of : Contacts → Kind
named_of FluidFluid = Fluid
named_of FluidBoundary = Boundary
named_of BoundaryBoundary = Boundary

-- of the record at p: the bytes of a contact, how many there are, and where the first stands
unfoldable pub list_width : Contacts → List ℕ → ℕ
list_width FluidFluid b = contact_width (axes_of b)
list_width FluidBoundary b = contact_width (axes_of b)
list_width BoundaryBoundary b = boundary_contact_width

unfoldable pub list_count : Contacts → List ℕ → Location → ℕ
list_count FluidFluid b p = contact_count Fluid b p.at
list_count FluidBoundary b p = contact_count Boundary b p.at
list_count BoundaryBoundary b p = boundary_contact_count b (keeps_at b p.head) p.at

unfoldable pub list_start : Contacts → List ℕ → Location → ℕ
list_start FluidFluid b p = contacts_start Fluid b p.at
list_start FluidBoundary b p = contacts_start Boundary b p.at
list_start BoundaryBoundary b p = p.at + boundary_record_width (axes_of b) (keeps_at b p.head)

-- its check
unfoldable pub list_looked : Contacts → List ℕ → Location → Looked
list_looked c b p = names_looked b (counts_of (named_of c) b) (list_width c b) (list_count c b p) (list_start c b p)

-- ---- the answer

-- there is such a list of particle j of model m, in this record
unfoldable pub list_there : List ℕ → Contacts → ℕ → ℕ → Bool
list_there b c m j = ltb m (model_number (owner_of c) b)
    && ltb j (particles_at (owner_of c) b (head_at (owner_of c) b m))

abbrev pub owner_at : List ℕ → Contacts → ℕ → ℕ → Location
owner_at b c m j = record_at (owner_of c) b (head_at (owner_of c) b m) j

-- the check of a list, with the looks at its contacts, if there is such a list; or why the scene is refused before any
-- list is looked at
abbrev pub ListAnswer : Type 0
ListAnswer = Result (Option Looked) Refusal

-- once the walk through the fields has ended
unfoldable pub answer_after : Walk → List ℕ → Contacts → ℕ → ℕ → ListAnswer
answer_after (Ok end) b c m j = choose (list_there b c m j) (Ok (Some (list_looked c b (owner_at b c m j)))) (Ok None)
answer_after (Err r) b c m j = Err r

unfoldable pub list_answer : List ℕ → Contacts → ℕ → ℕ → ListAnswer
list_answer b = answer_after (fields b) b
