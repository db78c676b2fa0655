-- The models of a scene whose fields are accepted stand within the bytes, as the reads of the code ask. From what
-- Fields says of each model and record. Assumes nothing.
use Prim.Native.Nat.{ℕ, ◌+◌, ◌≤◌}
use mathlib.Core.Path.{◌≡◌}
use mathlib.Core.List.{List}
use native.Mathlib.Omega.{arith}
use lib.ListN.{length}
use Rattle.scene_format.specs.Format.{axes_of, header_width, count_width, own_width, contacts_width, first_record}
use Rattle.scene_format.specs.Format.{next_record}
use Rattle.scene_format.specs.Format.{Location}
use Rattle.scene_format.specs.Within.{RecordWithin, ModelWithin, ModelsWithin}
use Rattle.scene_format.specs.declared.Kind.{Kind}
use Rattle.scene_format.specs.declared.Kind.TheVariants.{Fluid, Boundary}
use Rattle.std.specs.declared.result.Result.TheVariants.{Ok}
use Rattle.scene_walk.specs.Walk.{head_of, fields}
use Rattle.scene_walk.proofs.Walked.{RecordOk, head_steps, ModelOk, FieldsOk, fields_accepted}

record_within : (κ : Kind) {b : List ℕ} {p : Location} → p.head + count_width ≤ length b → RecordOk κ b p
    → RecordWithin κ b p.head p.at
unfolding RecordOk next_record own_width contacts_width
record_within Fluid room r = record { head_room = room; own = r.counts; ends = r.ends }
record_within Boundary room r = record { head_room = room; own = r.count; ends = r.ends }

head_room_lem : (κ : Kind) (b : List ℕ) (head : ℕ) → first_record κ head ≤ length b → head + count_width ≤ length b
head_room_lem Fluid b head h = omega arith
head_room_lem Boundary b head h = h

-- a head that is passed is there
pub passed_head : (κ : Kind) (b : List ℕ) (head : ℕ) {e : ℕ} → head_of κ b head ≡ Ok e → head + count_width ≤ length b
passed_head κ b head q = head_room_lem κ b head (head_steps b κ head _ q).1.0

model_within : {κ : Kind} {b : List ℕ} {head : ℕ} → ModelOk κ b head → ModelWithin κ b head
model_within {κ} {b} {head} m =
    let room = head_room_lem κ b head m.room in
    record { head_room = room; first = m.room; records = λ j l. record_within κ room (m.records j l) }

pub models_within : {b : List ℕ} → FieldsOk b → (κ : Kind) → ModelsWithin κ b
models_within ok κ = record { few = ok.header.few κ; models = λ m l. model_within (ok.models κ m l) }

module _ (b : List ℕ) {e : ℕ} (q : fields b ≡ Ok e) where
  pub header_within : header_width (axes_of b) ≤ length b
  header_within = (fields_accepted b q).header.room

  pub fields_within : (κ : Kind) → ModelsWithin κ b
  fields_within = models_within (fields_accepted b q)
