-- The contact lists of a whole scene: what is answered of one that is passed, the order in which the scene's check
-- comes to them, and the one by which a scene is refused (refusal 7). Definitions only.
use Rattle.std.specs.Prelude.{ℕ, ◌+◌, ◌*◌, ◌<◌, ◌≡◌, true, List}
use Rattle.scene_format.specs.Format.{Location}
use Rattle.scene_format.specs.declared.Kind.TheVariants.{Fluid, Boundary}
use Rattle.scene_format.specs.declared.Refusal.TheVariants.{DanglingContact}
use Rattle.scene_check.specs.declared.contact_list.Looked.{Looked}
use Rattle.scene_lists.specs.Lists.{owner_of, list_width, list_count, list_start, list_there, owner_at, list_answer}
use Rattle.scene_lists.specs.declared.Contacts.{Contacts}
use Rattle.scene_lists.specs.declared.Contacts.TheVariants.{FluidFluid, FluidBoundary}
use Rattle.std.specs.declared.result.Result.TheVariants.{Ok, Err}
use Rattle.std.specs.declared.option.Option.TheVariants.{Some}

-- a list of the record at p that is passed: the walk ends behind its last contact, each is looked at once
abbrev pub list_passed : Contacts → List ℕ → Location → Looked
list_passed c b p =
    record { walk = Ok (list_start c b p + list_width c b * list_count c b p); looks = list_count c b p }

-- the list c of particle j of model m comes before the list c' of particle j' of model m': fluids before boundaries,
-- then model by model, particle by particle, and contacts with fluids before those with boundaries
pub data Before : Contacts → ℕ → ℕ → Contacts → ℕ → ℕ → Type 0 where
  kinds : {c c' : Contacts} {m j m' j' : ℕ} → owner_of c ≡ Fluid → owner_of c' ≡ Boundary → Before c m j c' m' j'
  models : {c c' : Contacts} {m j m' j' : ℕ} → owner_of c ≡ owner_of c' → m < m' → Before c m j c' m' j'
  particles : {c c' : Contacts} {m j j' : ℕ} → owner_of c ≡ owner_of c' → j < j' → Before c m j c' m j'
  lists : {m j : ℕ} → Before FluidFluid m j FluidBoundary m j

-- of the scene b this list is refused, at an offset, and all lists before it are passed
pub record RefusedList (b : List ℕ) (at : ℕ) : Type 0 where
  pub contacts : Contacts
  pub model : ℕ
  pub particle : ℕ
  pub there : list_there b contacts model particle ≡ true
  pub answer : Looked
  pub answered : list_answer b contacts model particle ≡ Ok (Some answer)
  pub refused : answer.walk ≡ Err (DanglingContact at)
  pub before : (c : Contacts) (m j : ℕ) → Before c m j contacts model particle → list_there b c m j ≡ true
      → list_answer b c m j ≡ Ok (Some (list_passed c b (owner_at b c m j)))
