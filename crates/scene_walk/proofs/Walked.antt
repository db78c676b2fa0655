-- What holds of a packed scene whose fields are accepted (refusals 1 to 6): every field is there and meets its rule,
-- and records and models end within the bytes. The walk over the fields is taken apart by the laws of Reached, models
-- once for both kinds. Assumes nothing.
use Prim.Native.Nat.{ℕ, zero, suc, ◌+◌, ◌-◌, ◌*◌, ◌<◌, ◌≤◌}
use mathlib.Core.Path.{◌≡◌, refl, sym, subst}
use mathlib.Core.List.{List}
use native.Mathlib.Nat.{mul-zero, mul-suc}
use native.Mathlib.Omega.{arith}
use lib.ListN.{length}
use Rattle.lists.specs.Lists.{iter}
use Rattle.scene_format.specs.Bytes.{double_width, FiniteAt, AllFinite}
use Rattle.scene_fields.specs.Fields.{◌▹◌, times, plain, double}
use Rattle.scene_format.specs.Format.{axes_of, most_models, most_particles, model_number, header_width, density0_offset}
use Rattle.scene_format.specs.Format.{particles_at, keeps_at, weight_offset, contact_width, boundary_contact_width}
use Rattle.scene_format.specs.Format.{record_width, contact_count, contacts_start, boundary_record_width}
use Rattle.scene_format.specs.Format.{boundary_contact_count, own_width, contacts_width, first_record, next_record}
use Rattle.scene_format.specs.Format.{model_end}
use Rattle.scene_format.specs.Format.{first_head, head_at, Location, record_at, header_doubles, contact_doubles}
use Rattle.scene_format.specs.Format.{boundary_contact_doubles, record_doubles, boundary_record_doubles}
use Rattle.scene_format.proofs.Forms.{axes_of_lem}
use Rattle.scene_format.specs.declared.Kind.{Kind}
use Rattle.scene_format.specs.declared.Kind.TheVariants.{Fluid, Boundary}
use Rattle.std.specs.declared.result.Result.TheVariants.{Ok}
use Rattle.scene_fields.proofs.Reached.{Leads, Steps, restated, ◌then◌, times-steps, parts-steps, iter_within, HalfOk}
use Rattle.scene_fields.proofs.Reached.{plain-steps, double-steps, count-steps, halves-steps, ended-steps}
use Rattle.scene_walk.specs.Accepted.{ContactOk, ContactsOk, FluidRecordOk, BoundaryRecordOk, HeaderOk}
use Rattle.scene_walk.specs.Walk.{header, contact, fluid_record, boundary_record, record_of, head_of, model_of}
use Rattle.scene_walk.specs.Walk.{models_of, fields}

-- ---- doubles

module _ {b : List ℕ} {at n : ℕ} (d : AllFinite b at n) where
  -- the o-th of them
  pub finite_at : (o : ℕ) {x : ℕ} → o < n → x ≡ at + double_width * o → FiniteAt b x
  finite_at o h e = subst (FiniteAt b) (sym e) (d.each o h)

  -- m of them, from the o-th on
  pub finite_from : (o m : ℕ) {x : ℕ} → o + m ≤ n → x ≡ at + double_width * o → AllFinite b x m
  finite_from o m h e = record { each = λ k l. finite_at (o + k) (omega arith) (omega arith) }

pub doubles-steps : (b : List ℕ) (n : ℕ)
    → Steps (times n (double b)) (λ at. at + double_width * n) (λ at. AllFinite b at n)
doubles-steps b n at = restated (parts-steps double_width (double-steps b) n at) (λ h. (refl, record { each = h }))

-- the last of the doubles of a vector ends within the bytes
last_present : {b : List ℕ} {at : ℕ} → AllFinite b at (axes_of b) → at + double_width * axes_of b ≤ length b
last_present {b} {at} finite =
    let least = (axes_of_lem b).least in
    omega (arith, (finite.each (axes_of b - 1) (omega (arith, least))).present, least)

-- ---- contacts of fluid particles

-- n parts of c bytes end within the first l bytes if each of them does
parts_end : (c n at l : ℕ) → at ≤ l → ((k : ℕ) → k < n → at + c * k + c ≤ l) → at + c * n ≤ l
parts_end c zero at l h k = omega (arith, mul-zero c)
parts_end c (suc n) at l h k = omega (arith, k n (omega arith), mul-suc c n)

module _ (b : List ℕ) where
  contact-steps : Steps (contact (contact_doubles (axes_of b)) b) (λ at. at + contact_width (axes_of b))
      (ContactOk (axes_of b) b)
  unfolding contact
  contact-steps at =
      restated (plain-steps b _ at then doubles-steps b (contact_doubles (axes_of b)))
      (λ h. (
        omega arith,
        record {
          weight = finite_at h.1 0 (omega arith) (omega arith);
          gradient = finite_from h.1 1 (axes_of b) (omega arith) (omega arith);
        },
      ))

  contacts_steps : (n : ℕ)
      → Steps (times n (contact (contact_doubles (axes_of b)) b)) (λ at. at + contact_width (axes_of b) * n)
      (ContactsOk (axes_of b) b n)
  contacts_steps n = parts-steps (contact_width (axes_of b)) contact-steps n

  contacts_end : (n at : ℕ) → at ≤ length b → ContactsOk (axes_of b) b n at → at + contact_width (axes_of b) * n
      ≤ length b
  contacts_end n at h c =
      parts_end (contact_width (axes_of b)) n at (length b) h
      (λ k l. omega (arith, last_present (c k l).gradient))

-- ---- records: the doubles, room for the counts, the contacts, and where they end

-- what is met of a record of each kind
unfoldable pub RecordOk : Kind → List ℕ → Location → Type 0
RecordOk Fluid b p = FluidRecordOk b p.at
RecordOk Boundary b p = BoundaryRecordOk b (keeps_at b p.head) p.at

-- of the two kinds of contacts
both_kinds : (b : List ℕ) (at : ℕ)
    → ContactsOk (axes_of b) b (contact_count Fluid b at) (contacts_start Fluid b at)
    → ContactsOk (axes_of b) b (contact_count Boundary b at) (contacts_start Boundary b at)
    → (κ : Kind) → ContactsOk (axes_of b) b (contact_count κ b at) (contacts_start κ b at)
both_kinds b at f g Fluid = f
both_kinds b at f g Boundary = g

module _ (b : List ℕ) where
  -- a fluid record's doubles and counts, before its contacts
  pub fluid_own_leads : (at : ℕ)
      → Leads (times (record_doubles (axes_of b)) (double b) at ▹ plain b 1 ▹ plain b 1) (at + record_width (axes_of b))
      (AllFinite b at (record_doubles (axes_of b)) × (at + record_width (axes_of b) ≤ length b))
  fluid_own_leads at =
      restated (doubles-steps b (record_doubles (axes_of b)) at then plain-steps b 1 then plain-steps b 1)
      (λ h. (omega arith, (h.0.0, omega (arith, h.1))))

  fluid_record_leads : (at : ℕ)
      → Leads (fluid_record b at)
      (at + record_width (axes_of b) + contact_width (axes_of b)
      * (contact_count Fluid b at + contact_count Boundary b at))
      (FluidRecordOk b at)
  unfolding fluid_record
  fluid_record_leads at =
      restated
      (fluid_own_leads at then contacts_steps b (contact_count Fluid b at) then contacts_steps b
      (contact_count Boundary b at))
      (λ h.
      let d = h.0.0.0 in
      let m = contacts_end b _ _ h.0.0.1 h.0.1 in
      let e = contacts_end b _ _ m h.1 in (
        omega arith,
        record {
          position = finite_from d 0 (axes_of b) (omega arith) (omega arith);
          velocity = finite_from d (axes_of b) (axes_of b) (omega arith) (omega arith);
          acceleration = finite_from d (2 * (axes_of b)) (axes_of b) (omega arith) (omega arith);
          volume = finite_at d (3 * (axes_of b)) (omega arith) (omega arith);
          warm_pressure = finite_at d (3 * (axes_of b) + 1) (omega arith) (omega arith);
          counts = h.0.0.1;
          contacts = both_kinds b at h.0.1 h.1;
          middle = m;
          ends = omega arith;
        },
      ))

  -- a boundary record's doubles and count, before its contacts
  pub boundary_own_leads : (k at : ℕ)
      → Leads (times (boundary_record_doubles (axes_of b) k) (double b) at ▹ plain b 1)
      (at + boundary_record_width (axes_of b) k)
      (AllFinite b at (boundary_record_doubles (axes_of b) k) × (at + boundary_record_width (axes_of b) k ≤ length b))
  boundary_own_leads k at =
      restated (doubles-steps b (boundary_record_doubles (axes_of b) k) at then plain-steps b 1)
      (λ h. (omega arith, (h.0, omega (arith, h.1))))

  boundary-contact-steps :
      Steps (contact boundary_contact_doubles b) (λ at. at + boundary_contact_width)
      (λ at. FiniteAt b (at + weight_offset))
  unfolding contact
  boundary-contact-steps at =
      restated (plain-steps b _ at then doubles-steps b 1)
      (λ h. (omega arith, finite_at h.1 0 (omega arith) (omega arith)))

  boundary_record_leads : (k at : ℕ)
      → Leads (boundary_record b k at)
      (at + boundary_record_width (axes_of b) k + boundary_contact_width * boundary_contact_count b k at)
      (BoundaryRecordOk b k at)
  unfolding boundary_record
  boundary_record_leads k at =
      restated
      (boundary_own_leads k at then parts-steps boundary_contact_width boundary-contact-steps
      (boundary_contact_count b k at))
      (λ h.
      let d = h.0.0 in (
        refl,
        record {
          velocity = finite_from d 0 (axes_of b) (omega arith) (omega arith);
          force = finite_from d (axes_of b) ((axes_of b) * k) (omega arith) (omega arith);
          count = h.0.1;
          weights = h.1;
          ends = parts_end boundary_contact_width _ _ (length b) h.0.1 (λ j l. omega (arith, (h.1 j l).present));
        },
      ))

  record_steps : (κ : Kind) (head : ℕ)
      → Steps (record_of κ b head) (next_record κ b head)
      (λ at. (next_record κ b head at ≤ length b) × RecordOk κ b (record { head = head; at = at }))
  unfolding record_of next_record own_width contacts_width RecordOk
  record_steps Fluid head at = restated (fluid_record_leads at) (λ h. (refl, (h.ends, h)))
  record_steps Boundary head at = restated (boundary_record_leads (keeps_at b head) at) (λ h. (refl, (h.ends, h)))

-- ---- models

-- of a fluid's head also the rest density is finite
unfoldable pub HeadOk : Kind → List ℕ → ℕ → Type 0
HeadOk Fluid b head = FiniteAt b (head + density0_offset)
HeadOk Boundary b head = Unit

-- P holds of each record of a model
abbrev pub EachRecord : Kind → List ℕ → ℕ → (Location → Type 0) → Type 0
EachRecord κ b head P = (j : ℕ) → j < particles_at κ b head → P (record_at κ b head j)

pub record ModelOk (κ : Kind) (b : List ℕ) (head : ℕ) : Type 0 where
  pub room : first_record κ head ≤ length b
  pub few : particles_at κ b head ≤ most_particles
  pub own : HeadOk κ b head
  pub records : EachRecord κ b head (RecordOk κ b)
  pub ends : model_end κ b head ≤ length b

module _ (b : List ℕ) where
  pub head_steps : (κ : Kind)
      → Steps (head_of κ b) (first_record κ)
      (λ head. (first_record κ head ≤ length b) × (particles_at κ b head ≤ most_particles) × HeadOk κ b head)
  unfolding head_of HeadOk
  head_steps Fluid head =
      restated (count-steps b Fluid head then double-steps b)
      (λ h. (omega arith, (omega (arith, h.1.present), h.0.1, h.1)))
  head_steps Boundary head = restated (count-steps b Boundary head) (λ h. (refl, (h.0, h.1, tt)))

  model_steps : (κ : Kind) → Steps (model_of κ b) (model_end κ b) (ModelOk κ b)
  unfolding model_of model_end
  model_steps κ head =
      restated (head_steps κ head then times-steps (record_steps b κ head) (particles_at κ b head))
      (λ h. (
        refl,
        record {
          room = h.0.0;
          few = h.0.1;
          own = h.0.2;
          records = λ j k. (h.1 j k).1;
          ends = iter_within (length b) _ _ _ h.0.0 (λ j k. (h.1 j k).0);
        },
      ))

-- ---- all fields

pub record FieldsOk (b : List ℕ) : Type 0 where
  pub header : HeaderOk b
  pub models : (κ : Kind) (m : ℕ) → m < model_number κ b → ModelOk κ b (head_at κ b m)
  pub ends : head_at Boundary b (model_number Boundary b) ≡ length b

module _ (b : List ℕ) where
  pub header_leads : Leads (header b 0) (header_width (axes_of b)) (HeaderOk b)
  unfolding header HalfOk
  header_leads =
      restated (halves-steps b _ _ 0 then halves-steps b _ _ then plain-steps b 1 then plain-steps b 1 then
      doubles-steps b (header_doubles (axes_of b)))
      (λ h.
      let d = h.1 in
      let first = h.0.0.0.0 in
      let second = h.0.0.0.1 in (
        omega arith,
        record {
          room = omega (arith, (d.each (2 + (axes_of b)) (omega arith)).present);
          version = first.1;
          few = few first.2 second.1;
          rule = second.2;
          total_step_size = finite_at d 0 (omega arith) refl;
          remaining_time = finite_at d 1 (omega arith) refl;
          max_density_error = finite_at d 2 (omega arith) refl;
          gravity = finite_from d 3 (axes_of b) (omega arith) refl;
        },
      ))
    where
      few : model_number Fluid b ≤ most_models → model_number Boundary b ≤ most_models → (κ : Kind)
          → model_number κ b ≤ most_models
      few f g Fluid = f
      few f g Boundary = g

  models_steps : (κ : Kind)
      → Steps (models_of κ b) (iter (model_number κ b) (model_end κ b))
      (λ at. (m : ℕ) → m < model_number κ b → ModelOk κ b (iter m (model_end κ b) at))
  unfolding models_of
  models_steps κ = times-steps (model_steps b κ) (model_number κ b)

  pub fields_leads : Leads (fields b) (length b) (FieldsOk b)
  unfolding fields first_head
  fields_leads =
      restated (header_leads then models_steps Fluid then models_steps Boundary then ended-steps b)
      (λ h.
      let fluids = h.0.0.1 in
      let boundaries = h.0.1 in
      let start : first_head Boundary b
      ≤ length b = iter_within (length b) _ _ _ h.0.0.0.room (λ m l. (fluids m l).ends) in
      let end : head_at Boundary b (model_number Boundary b)
      ≤ length b = iter_within (length b) _ _ _ start (λ m l. (boundaries m l).ends) in
      let whole : head_at Boundary b (model_number Boundary b) ≡ length b = omega (arith, h.1) in
      (whole, record { header = h.0.0.0; models = each fluids boundaries; ends = whole }))
    where
      each : ((m : ℕ) → m < model_number Fluid b → ModelOk Fluid b (head_at Fluid b m))
          → ((m : ℕ) → m < model_number Boundary b → ModelOk Boundary b (head_at Boundary b m))
          → (κ : Kind) (m : ℕ) → m < model_number κ b → ModelOk κ b (head_at κ b m)
      each f g Fluid = f
      each f g Boundary = g

  pub fields_accepted : {e : ℕ} → fields b ≡ Ok e → FieldsOk b
  fields_accepted q = (fields_leads _ q).1
