-- A link is what the record's bytes say: fluid particle i of a packed scene names j just where one of the contacts in
-- its record does, by model and number. The scene's lists of contacts are tables over the record's, and a particle past
-- the end has none. Assumes nothing.
use Prim.Native.Nat.{ℕ, ◌+◌, ◌*◌}
use mathlib.Core.Path.{◌≡◌, refl, sym, ap, subst, ◌∙◌}
use mathlib.Core.Bool.{Bool, true, false}
use mathlib.Core.List.Memᴰ
use mathlib.Core.List.{List, [], Memᴰ}
use lib.Dec.{ltb}
use borrow.Author.Tests.{ltb-true, ltb-false}
use Rattle.lists.proofs.Lists.{in_table, table_in}
use Rattle.scene_format.specs.Format.{axes_of, contact_width, contact_count, contacts_start, starts_of, location_of}
use Rattle.scene_format.specs.Scene.{Contact, FluidParticle, no_fluid_particle, fluid_size}
use Rattle.scene_format.specs.SceneOf.{contact_at, contact_list, fluid_particle_at, scene_of}
use Rattle.scene_format.specs.declared.Kind.{Kind}
use Rattle.scene_format.specs.declared.Kind.TheVariants.{Fluid, Boundary}
use Rattle.scene_layout.proofs.Locations.{particle_at, particle_beyond}
use Rattle.iisph_rules.specs.Locality.{contacts_with, Names, Written, NamesAreWritten}

module _ (b : List ℕ) where
  recorded : ℕ → FluidParticle
  recorded i = fluid_particle_at (starts_of Fluid b) (starts_of Boundary b) b (location_of Fluid b i)

  -- the contacts of a kind in record i
  listed_at : Kind → ℕ → List Contact
  listed_at κ i =
      let at = (location_of Fluid b i).at in
      contact_list (axes_of b) (starts_of κ b) b (contact_count κ b at) (contacts_start κ b at)

  recorded_contacts : (κ : Kind) (i : ℕ) → contacts_with κ (recorded i) ≡ listed_at κ i
  unfolding recorded fluid_particle_at listed_at
  recorded_contacts Fluid i = refl
  recorded_contacts Boundary i = refl

  none : (κ : Kind) → contacts_with κ no_fluid_particle ≡ []
  none Fluid = refl
  none Boundary = refl

  names-written : (κ : Kind) (i j : ℕ) → Names κ (scene_of b) i j → Written κ b i j
  unfolding recorded listed_at contact_list contact_at
  names-written κ i j n = go (ltb i (fluid_size (scene_of b))) refl
    where
      go : (t : Bool) → ltb i (fluid_size (scene_of b)) ≡ t → Written κ b i j
      go true q =
          let l = ltb-true _ _ q in
          let e = ap (contacts_with κ) (particle_at b i l) ∙ recorded_contacts κ i in
          let r = in_table _ _ (subst (Memᴰ n.contact) e n.listed) in
          record {
            there = l;
            contact = r.index;
            listed = r.below;
            target = sym (ap (λ c. c.target) r.value) ∙ n.target;
          }
      go false q =
          let e = ap (contacts_with κ) (particle_beyond (scene_of b) i (ltb-false _ _ q)) ∙ none κ in
          absurd (Memᴰ.not-nil (subst (Memᴰ n.contact) e n.listed))

  written-names : (κ : Kind) (i j : ℕ) → Written κ b i j → Names κ (scene_of b) i j
  unfolding recorded listed_at contact_list contact_at
  written-names κ i j w =
      let at = (location_of Fluid b i).at in
      let e = ap (contacts_with κ) (particle_at b i w.there) ∙ recorded_contacts κ i in
      record {
        contact = contact_at (axes_of b) (starts_of κ b) b
            (contacts_start κ b at + contact_width (axes_of b) * w.contact);
        listed = subst (Memᴰ _) (sym e) (table_in _ _ w.contact w.listed);
        target = w.target;
      }

pub names_are_written : NamesAreWritten
names_are_written b κ i j = (names-written b κ i j, written-names b κ i j)
