-- A list of contacts, as a loop over it takes them: the lists of a particle may be read, before the first turn nothing
-- is added, and what the contact of a turn names is a particle of the scene. From what an accepted scene says of its
-- contacts. Assumes nothing.
use Prim.Native.Nat.{ℕ, ◌+◌, ◌*◌, ◌<◌}
use mathlib.Core.Path.{◌≡◌, refl}
use mathlib.Core.List.{List}
use native.Mathlib.Omega.{arith}
use Rattle.iisph_rows.specs.Passes.{PassOver}
use Rattle.lists.specs.Lists.{fold, table}
use Rattle.scene_format.specs.Format.{contact_width, location_of, starts_of}
use Rattle.scene_format.specs.Scene.{Contact, fluid_size, boundary_size, particle}
use Rattle.scene_format.specs.SceneOf.{target_at, contact_list, scene_of}
use Rattle.scene_format.specs.declared.Kind.{Kind}
use Rattle.scene_format.specs.declared.Kind.TheVariants.{Fluid, Boundary}
use Rattle.scene_index.specs.Contacts.{ContactsReady, contact_list_at, over_first}
use Rattle.scene_index.specs.declared.contacts.ContactList.{ContactList}
use Rattle.scene_index.proofs.ContactLists.{ContactsAre, contacts_are, contact_here, list_ready}
use Rattle.scene_index.proofs.Targets.{fluid_named, boundary_named}

-- ---- the lists of particle i in a pass over n

module _ {b index : List ℕ} {d n : ℕ} (pass : PassOver b index d n) {i : ℕ} (h : i < n) {κ : Kind} {list : ContactList}
    (e : list ≡ contact_list_at κ b (location_of Fluid b i)) where
  pub contacts_found : ContactsAre b κ (particle (scene_of b) i) list
  contacts_found = contacts_are pass.indexed i (omega (arith, pass.size)) e

  pub contacts_ready : ContactsReady κ d b list
  contacts_ready = list_ready pass.axes contacts_found

-- ---- turns

pub none_passed : {A : Type 0} (κ : Kind) (d : ℕ) (b : List ℕ) (at : ℕ) (f : A → Contact → A) (a : A)
    → a ≡ over_first κ d b at f a 0
unfolding contact_list table fold
none_passed κ d b at f a = refl

-- what the contact of turn k names; the code has w for the width of a contact
module _ {d : ℕ} {b : List ℕ} {list : ContactList} {k w j : ℕ} (we : w ≡ contact_width d) (l : k < list.count) where
  pub fluid_target : ContactsReady Fluid d b list → j ≡ target_at (starts_of Fluid b) b (list.at + w * k)
      → {n : ℕ} → n ≡ fluid_size (scene_of b) → j < n
  fluid_target ready named size = omega (arith, size, fluid_named (contact_here ready k we l).target named refl)

  pub boundary_target : ContactsReady Boundary d b list → j ≡ target_at (starts_of Boundary b) b (list.at + w * k)
      → j < boundary_size (scene_of b)
  boundary_target ready named = boundary_named (contact_here ready k we l).target named refl
