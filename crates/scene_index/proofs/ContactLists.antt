-- The contacts of a fluid particle: the record that the index finds is the particle's, and its two lists of contacts
-- are those of the scene and may be read. From what an accepted scene gives of each particle. Assumes nothing.
use Prim.Native.Nat.{ℕ, ◌+◌, ◌-◌, ◌*◌, ◌<◌, ◌≤◌}
use mathlib.Core.Path.{◌≡◌, sym, ap, subst, ◌∙◌}
use mathlib.Core.List.{List}
use native.Mathlib.Numerals.{add-one}
use native.Mathlib.Omega.{arith}
use lib.Ieee.{Float}
use lib.ListN.{length}
use Rattle.lists.specs.Lists.{fold}
use Rattle.lists.proofs.Lists.{fold-table}
use Rattle.math.specs.Vector.{Axes}
use Rattle.scene_check.specs.Accepted.{FluidParticleOk}
use Rattle.scene_check.proofs.Records.{fluid-particle_ok}
use Rattle.scene_format.specs.Bytes.{byte_at, double_at}
use Rattle.scene_format.specs.Format.{axes_of, density0_offset, contact_count_offset, contact_width, starts_of}
use Rattle.scene_format.specs.Format.{Location, location_of}
use Rattle.scene_format.proofs.Forms.{axes_of_lem}
use Rattle.scene_format.specs.Scene.{FluidParticle, Contact, fluid_size, particle}
use Rattle.scene_format.specs.SceneOf.{contact_at, contact_list, fluid_particle_at, scene_of}
use Rattle.scene_format.specs.declared.Kind.{Kind}
use Rattle.scene_format.specs.declared.Kind.TheVariants.{Fluid, Boundary}
use Rattle.scene_index.specs.Contacts.{ContactReady, TargetReady, ContactsReady, contact_list_at, over_first}
use Rattle.scene_index.specs.Contacts.{over_list}
use Rattle.scene_index.specs.Index.{Indexed}
use Rattle.scene_index.specs.declared.contacts.ContactList.{ContactList}

-- ---- a list of contacts, as the rules see it

unfoldable pub contacts_of : Kind → FluidParticle → List Contact
contacts_of Fluid p = p.fluid_contacts
contacts_of Boundary p = p.boundary_contacts

-- the list is that of p's contacts of the kind κ
pub record ContactsAre (b : List ℕ) (κ : Kind) (p : FluidParticle) (list : ContactList) : Type 0 where
  pub density0 : list.density0 ≡ p.density0
  pub contacts : contact_list (axes_of b) (starts_of κ b) b list.count list.at ≡ contacts_of κ p
  pub ready : ContactsReady κ (axes_of b) b list

contacts_of_particle : (b : List ℕ) {p : Location} {i : ℕ} (κ : Kind) → FluidParticleOk b p i
    → contact_list (axes_of b) (starts_of κ b) b (contact_list_at κ b p).count (contact_list_at κ b p).at
    ≡ contacts_of κ (particle (scene_of b) i)
unfolding contact_list_at contacts_of fluid_particle_at
contacts_of_particle b Fluid q = sym (ap (λ p. p.fluid_contacts) q.particle)
contacts_of_particle b Boundary q = sym (ap (λ p. p.boundary_contacts) q.particle)

contacts_room : {b : List ℕ} {p : Location} {i : ℕ} (κ : Kind) → FluidParticleOk b p i
    → (contact_list_at κ b p).at + contact_width (axes_of b) * (contact_list_at κ b p).count ≤ length b
unfolding contact_list_at
contacts_room Fluid q = omega (arith, q.own.ends)
contacts_room Boundary q = omega (arith, q.own.ends)

contacts_at : {b : List ℕ} {p : Location} {i : ℕ} (κ : Kind) → FluidParticleOk b p i
    → ContactsAre b κ (particle (scene_of b) i) (contact_list_at κ b p)
unfolding contact_list_at fluid_particle_at
contacts_at {b} κ q =
    record {
      density0 = sym (ap (λ p. p.density0) q.particle);
      contacts = contacts_of_particle b κ q;
      ready =
          record {
            axes = axes_of_lem b;
            room = contacts_room κ q;
            each = λ k l. record { doubles = q.own.contacts κ k l; target = q.targets κ k l };
          };
    }

-- a sum over the list is one over the particle's contacts
pub over_list_lem : {A : Type 0} {b : List ℕ} {κ : Kind} {p : FluidParticle} {list : ContactList} {d : ℕ}
    → d ≡ axes_of b → ContactsAre b κ p list
    → (f : A → Contact → A) (a : A) → over_list κ d b list f a ≡ fold f a (contacts_of κ p)
over_list_lem e h f a = rw e (ap (fold f a) h.contacts)

-- and may be read, with the number of axes that the code has
pub list_ready : {b : List ℕ} {κ : Kind} {p : FluidParticle} {list : ContactList} {d : ℕ} → d ≡ axes_of b
    → ContactsAre b κ p list → ContactsReady κ d b list
list_ready e h = rw e h.ready

-- ---- through the index

module _ {b index : List ℕ} (ix : Indexed b index) (i : ℕ) (h : i < fluid_size (scene_of b)) where
  -- the list that `contacts_of` returns
  pub contacts_are : {κ : Kind} {list : ContactList} → list ≡ contact_list_at κ b (location_of Fluid b i)
      → ContactsAre b κ (particle (scene_of b) i) list
  contacts_are {κ} e =
      subst (ContactsAre b κ (particle (scene_of b) i)) (sym e) (contacts_at κ (fluid-particle_ok b ix.accepted i h))

  -- the particle's record at the offset that `record_of` found, and its head at that of `head_of`
  module _ {at head : ℕ} (ae : at ≡ (location_of Fluid b i).at) (he : head ≡ (location_of Fluid b i).head) where
    abbrev found : Location
    found = record { head = head; at = at }

    location_here : found ≡ location_of Fluid b i
    location_here = rw (ae, he)

    -- all that a step may use of the particle
    pub particle_here : FluidParticleOk b found i
    particle_here = subst (λ p. FluidParticleOk b p i) (sym location_here) (fluid-particle_ok b ix.accepted i h)

    module _ {κ : Kind} {d : Float} {f counts : ℕ} (de : d ≡ double_at b (head + density0_offset))
        (ce : counts ≡ contact_count_offset Fluid (axes_of b)) (fe : f ≡ byte_at b (at + counts)) where
      pub fluid_contacts_lem : κ ≡ Fluid
          → ◌≡◌ {A = ContactList}
          (record { density0 = d; count = f; at = at + (counts + 2) })
          (contact_list_at κ b (location_of Fluid b i))
      unfolding contact_list_at
      fluid_contacts_lem e = rw (← location_here, e, de, fe, ce)

      pub boundary_contacts_lem : {c width : ℕ} → width ≡ contact_width (axes_of b) → c ≡ byte_at b (at + (counts + 1))
          → κ ≡ Boundary
          → ◌≡◌ {A = ContactList}
          (record { density0 = d; count = c; at = at + (counts + 2) + width * f })
          (contact_list_at κ b (location_of Fluid b i))
      unfolding contact_list_at
      boundary_contacts_lem we ge e = rw (← location_here, e, de, ge, we, fe, ce)

-- ---- a turn of a loop over contacts

-- the code has w for the width of a contact, and the contact of the turn at the offset at + w * k. f is what the sum
-- makes of a contact, x what it is after k of them and y what the turn makes of x
pub fold_next : {A : Type 0} (f : A → Contact → A) (a : A) (κ : Kind) (d : ℕ) (b : List ℕ) (at k : ℕ) {w : ℕ} {x y : A}
    → w ≡ contact_width d
    → x ≡ over_first κ d b at f a k
    → y ≡ f x (contact_at d (starts_of κ b) b (at + w * k))
    → y ≡ over_first κ d b at f a (k + 1)
unfolding contact_list
fold_next f a κ d b at k v e q =
    let c : ℕ → Contact = λ i. contact_at d (starts_of κ b) b (at + contact_width d * i) in
    q
    ∙ rw (v, e)
    (sym (fold-table f a k c) ∙ ap (over_first κ d b at f a) (sym (add-one k)))

-- the contact of the turn may be read
pub contact_here : {κ : Kind} {d : ℕ} {b : List ℕ} {list : ContactList} → ContactsReady κ d b list
    → (k : ℕ) {w : ℕ} → w ≡ contact_width d → k < list.count → ContactReady κ d b (list.at + w * k)
contact_here h k v l = rw v (h.each k l)

-- a contact that may be read is within the bytes
pub contact-room : {κ : Kind} {d : ℕ} {b : List ℕ} {at : ℕ} → Axes d → ContactReady κ d b at
    → at + contact_width d ≤ length b
contact-room {d = d} axes h =
    omega (arith, (h.doubles.gradient.each (d - 1) (omega (arith, axes.least))).present, axes.least)

-- and so is its name
pub target_ready : {κ : Kind} {d : ℕ} {b : List ℕ} {at : ℕ} → ContactReady κ d b at → TargetReady κ b at
target_ready h = (h.target, omega (arith, h.doubles.weight.present))
