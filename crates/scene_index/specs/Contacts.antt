-- The contacts of a fluid particle, kind by kind, as the code hands them on; and when a contact may be read.
-- Scaffolding: no promise rests on it. Definitions only.
use Rattle.std.specs.Prelude.{ℕ, ◌+◌, ◌*◌, ◌<◌, ◌≤◌, List, length}
use Rattle.lists.specs.Lists.{fold}
use Rattle.math.specs.Vector.{Axes}
use Rattle.scene_check.specs.Accepted.{TargetOk}
use Rattle.scene_format.specs.Bytes.{double_at}
use Rattle.scene_format.specs.Format.{name_width, density0_offset, contact_width, contact_count, contacts_start}
use Rattle.scene_format.specs.Format.{starts_of}
use Rattle.scene_format.specs.Format.{Location}
use Rattle.scene_format.specs.Scene.{Contact}
use Rattle.scene_format.specs.SceneOf.{contact_list}
use Rattle.scene_format.specs.declared.Kind.{Kind}
use Rattle.scene_walk.specs.Accepted.{ContactOk}
use Rattle.scene_index.specs.declared.contacts.ContactList.{ContactList}

-- a contact whose doubles are there, for d axes, and which names a particle of that kind
pub record ContactReady (κ : Kind) (d : ℕ) (b : List ℕ) (at : ℕ) : Type 0 where
  pub doubles : ContactOk d b at
  pub target : TargetOk κ b at

-- the name of such a contact
abbrev pub TargetReady : Kind → List ℕ → ℕ → Type 0
TargetReady κ b at = TargetOk κ b at × (at + name_width ≤ length b)

-- every contact of a list of that kind is such, and the list is within the bytes
pub record ContactsReady (κ : Kind) (d : ℕ) (b : List ℕ) (list : ContactList) : Type 0 where
  pub axes : Axes d
  pub room : list.at + contact_width d * list.count ≤ length b
  pub each : (k : ℕ) → k < list.count → ContactReady κ d b (list.at + contact_width d * k)

-- the list of one kind of the fluid particle whose record stands at p
unfoldable pub contact_list_at : Kind → List ℕ → Location → ContactList
contact_list_at κ b p =
    record {
      density0 = double_at b (p.head + density0_offset);
      count = contact_count κ b p.at;
      at = contacts_start κ b p.at;
    }

-- from a on over the first n contacts of one kind, for d axes, where the first stands at an offset
abbrev pub over_first : {A : Type 0} → Kind → ℕ → List ℕ → ℕ → (A → Contact → A) → A → ℕ → A
over_first κ d b at f a n = fold f a (contact_list d (starts_of κ b) b n at)

-- from a on over the contacts of a list of that kind
abbrev pub over_list : {A : Type 0} → Kind → ℕ → List ℕ → ContactList → (A → Contact → A) → A → A
over_list κ d b list f a = over_first κ d b list.at f a list.count
