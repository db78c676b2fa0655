-- What holds of an accepted packed scene (refusals 1 to 7): besides what Fields says, every contact names a particle
-- that is there. The walk over the names goes through the same records and models as the one over the fields, and is
-- taken apart in the same way. Assumes nothing.
use Prim.Native.Nat.{ℕ, ◌+◌, ◌*◌, ◌<◌, ◌≤◌}
use mathlib.Core.Path.{◌≡◌, refl}
use mathlib.Core.Bool.{Bool, true, false}
use mathlib.Core.List.{List}
use native.Mathlib.Omega.{arith}
use lib.Dec.{ltb}
use lib.ListN.{length, get_or, get_or-eq_default}
use borrow.Author.Tests.{leb-false, ltb-true, ltb-false}
use Rattle.lists.specs.Lists.{iter}
use Rattle.scene_format.specs.Format.{axes_of, model_number, header_width, particles_at, keeps_at, model_at, number_at}
use Rattle.scene_format.specs.Format.{contact_width, boundary_contact_width, contact_count, contacts_start}
use Rattle.scene_format.specs.Format.{boundary_record_width, boundary_contact_count, own_width, contacts_width}
use Rattle.scene_format.specs.Format.{first_record}
use Rattle.scene_format.specs.Format.{next_record, model_end, first_head, head_at, counts_of, Location}
use Rattle.scene_format.specs.Within.{ModelsWithin}
use Rattle.scene_format.specs.declared.Kind.{Kind}
use Rattle.scene_format.specs.declared.Kind.TheVariants.{Fluid, Boundary}
use Rattle.std.specs.declared.result.Result.TheVariants.{Ok}
use Rattle.scene_fields.proofs.Reached.{Leads, Steps, restated, ◌then◌, times-steps, parts-steps, stay}
use Rattle.scene_fields.proofs.Reached.{refused_if_leads}
use Rattle.scene_check.specs.Walk.{name, names, record_names_of, model_names_of, models_names_of, all_names, checked}
use Rattle.scene_walk.proofs.Within.{models_within}
use Rattle.scene_walk.proofs.Walked.{EachRecord, FieldsOk, fields_leads}

-- ---- names

-- the contact at an offset names a particle, of models of a kind
pub record NameOk (κ : Kind) (b : List ℕ) (at : ℕ) : Type 0 where
  pub model : model_at b at < length (counts_of κ b)
  pub number : number_at b at < get_or (counts_of κ b) (model_at b at) 0

-- n contacts of w bytes
abbrev pub NamesOk : Kind → List ℕ → ℕ → ℕ → ℕ → Type 0
NamesOk κ b w n at = (k : ℕ) → k < n → NameOk κ b (at + w * k)

-- the contacts of a record of each kind
unfoldable pub RecordNamed : Kind → List ℕ → Location → Type 0
RecordNamed Fluid b p =
    (κ : Kind) → NamesOk κ b (contact_width (axes_of b)) (contact_count κ b p.at) (contacts_start κ b p.at)
RecordNamed Boundary b p =
    let k = keeps_at b p.head in
    NamesOk Boundary b boundary_contact_width (boundary_contact_count b k p.at)
    (p.at + boundary_record_width (axes_of b) k)

module _ (b : List ℕ) where
  -- a model that is not there has no particles
  name_ok : (κ : Kind) (at : ℕ) → number_at b at < get_or (counts_of κ b) (model_at b at) 0 → NameOk κ b at
  name_ok κ at h = record { model = go (ltb (model_at b at) (length (counts_of κ b))) refl; number = h }
    where
      go : (t : Bool) → ltb (model_at b at) (length (counts_of κ b)) ≡ t → model_at b at < length (counts_of κ b)
      go true q = ltb-true _ _ q
      go false q =
          absurd (omega
          (arith, get_or-eq_default (counts_of κ b) 0 (ltb-false (model_at b at) (length (counts_of κ b)) q)))

  name-steps : (κ : Kind) (w : ℕ) → Steps (name b (counts_of κ b) w) (λ at. at + w) (NameOk κ b)
  unfolding name
  name-steps κ w at = restated (refused_if_leads _ _ (stay _)) (λ h. (refl, name_ok κ at (leb-false _ _ h.0)))

  pub names-steps : (κ : Kind) (w n : ℕ) → Steps (names b (counts_of κ b) w n) (λ at. at + w * n) (NamesOk κ b w n)
  unfolding names
  names-steps κ w n = parts-steps w (name-steps κ w) n

  pub record_names-steps : (κ : Kind) (head : ℕ)
      → Steps (record_names_of κ b head) (next_record κ b head)
      (λ at. RecordNamed κ b (record { head = head; at = at }))
  unfolding record_names_of next_record own_width contacts_width RecordNamed
  record_names-steps Fluid head at =
      restated
      (names-steps Fluid (contact_width (axes_of b)) (contact_count Fluid b at) (contacts_start Fluid b at)
      then names-steps Boundary (contact_width (axes_of b)) (contact_count Boundary b at))
      (λ h. (omega arith, both h.0 h.1))
    where
      both : NamesOk Fluid b (contact_width (axes_of b)) (contact_count Fluid b at) (contacts_start Fluid b at)
          → NamesOk Boundary b (contact_width (axes_of b)) (contact_count Boundary b at) (contacts_start Boundary b at)
          → (κ : Kind) → NamesOk κ b (contact_width (axes_of b)) (contact_count κ b at) (contacts_start κ b at)
      both f g Fluid = f
      both f g Boundary = g
  record_names-steps Boundary head at = names-steps Boundary boundary_contact_width _ _

  pub model_names-steps : (κ : Kind)
      → Steps (model_names_of κ b) (model_end κ b) (λ head. EachRecord κ b head (RecordNamed κ b))
  unfolding model_names_of model_end
  model_names-steps κ head = times-steps (record_names-steps κ head) (particles_at κ b head) (first_record κ head)

  pub models_names-steps : (κ : Kind)
      → Steps (models_names_of κ b) (iter (model_number κ b) (model_end κ b))
      (λ at. (m : ℕ) → m < model_number κ b → EachRecord κ b (iter m (model_end κ b) at) (RecordNamed κ b))
  unfolding models_names_of
  models_names-steps κ = times-steps (model_names-steps κ) (model_number κ b)

-- ---- the whole check

pub record SceneOk (b : List ℕ) : Type 0 where
  pub fields : FieldsOk b
  pub names : (κ : Kind) (m : ℕ) → m < model_number κ b → EachRecord κ b (head_at κ b m) (RecordNamed κ b)

module _ (b : List ℕ) where
  names_leads : Leads (all_names b) (head_at Boundary b (model_number Boundary b))
      ((κ : Kind) (m : ℕ) → m < model_number κ b → EachRecord κ b (head_at κ b m) (RecordNamed κ b))
  unfolding all_names first_head
  names_leads =
      restated (models_names-steps b Fluid (header_width (axes_of b)) then models_names-steps b Boundary)
      (λ h. (refl, each h.0 h.1))
    where
      each : ((m : ℕ) → m < model_number Fluid b → EachRecord Fluid b (head_at Fluid b m) (RecordNamed Fluid b))
          → ((m : ℕ) → m < model_number Boundary b
          → EachRecord Boundary b (head_at Boundary b m) (RecordNamed Boundary b))
          → (κ : Kind) (m : ℕ) → m < model_number κ b → EachRecord κ b (head_at κ b m) (RecordNamed κ b)
      each f g Fluid = f
      each f g Boundary = g

  -- it comes to the end of the bytes
  pub checked_leads : Leads (checked b) (length b) (SceneOk b)
  unfolding checked
  checked_leads =
      restated (fields_leads b then λ end. names_leads) (λ h. (h.0.ends, record { fields = h.0; names = h.1 }))

  pub accepted : {e : ℕ} → checked b ≡ Ok e → SceneOk b
  accepted q = (checked_leads _ q).1

  pub accepted_length : {e : ℕ} → checked b ≡ Ok e → e ≡ length b
  accepted_length q = (checked_leads _ q).0

  pub accepted_within : {e : ℕ} → checked b ≡ Ok e → (κ : Kind) → ModelsWithin κ b
  accepted_within q = models_within (accepted q).fields

  pub accepted_header : {e : ℕ} → checked b ≡ Ok e → header_width (axes_of b) ≤ length b
  accepted_header q = (accepted q).fields.header.room
