-- A boundary contact of a fluid particle, as the code gathers it: where the force stands that it names, and what a
-- store there makes of the answer list. A boundary's particles all keep forces or none, so the offset grows evenly from
-- the boundary's first. Assumes nothing.
use Prim.Native.Nat.{ℕ, suc, ◌+◌, ◌*◌, ◌<◌, ◌≤◌}
use mathlib.Core.Path.{◌≡◌, refl, sym, ap, subst, ◌∙◌}
use mathlib.Core.Bool.{Bool, true, false}
use mathlib.Core.List.{List}
use native.Mathlib.Nat.{zero-add}
use native.Mathlib.Numerals.{add-one}
use native.Mathlib.Omega.{arith}
use lib.Dec.{eqb}
use lib.Ieee.{Float}
use lib.ListN.{get_or}
use lib.Seq.{sets}
use Rattle.std.proofs.lemmas.Option.{none-some, same_Some}
use Rattle.std.specs.Bool.{then_some}
use Rattle.std.specs.declared.option.Option.{Option}
use Rattle.std.specs.declared.option.Option.TheVariants.{Some, None}
use Rattle.iisph_motion.specs.Changes.{PressureStateIs, acceleration_of}
use Rattle.iisph_motion.specs.declared.acceleration.PressureState.{PressureState}
use Rattle.iisph_motion.proofs.Accelerations.{acceleration_is}
use Rattle.iisph_rows.specs.Rows.{vector_from}
use Rattle.lists.specs.Lists.{fold, table, choose}
use Rattle.lists.proofs.Lists.{length-table, table_at, fold_same, fold-table}
use Rattle.lists.proofs.Numbering.{length_starts}
use Rattle.math.specs.Vector.{Vector, ◌⊞◌, ◌⊡◌}
use Rattle.scene_check.proofs.Accepted.{RecordNamed, accepted}
use Rattle.scene_format.specs.Format.{axes_of, contact_width, model_number, model_at, number_at, counts_of, keeps_of}
use Rattle.scene_format.specs.Format.{starts_of}
use Rattle.scene_format.specs.Format.{location_of}
use Rattle.scene_format.specs.Scene.{Scene, Contact, fluid_size, boundary_size, size_of, particle, boundary}
use Rattle.scene_format.specs.SceneOf.{target_at, contact_at, scene_of}
use Rattle.scene_format.specs.Within.{NameIs}
use Rattle.scene_format.specs.declared.ContactName.{ContactName}
use Rattle.scene_format.specs.declared.Kind.TheVariants.{Fluid, Boundary}
use Rattle.scene_index.specs.Contacts.{contact_list_at, over_list}
use Rattle.scene_index.specs.Index.{Indexed}
use Rattle.scene_index.specs.declared.contacts.ContactList.{ContactList}
use Rattle.scene_index.proofs.ContactLists.{contacts_of, contacts_are, over_list_lem}
use Rattle.scene_index.proofs.Runs.{run_keeps}
use Rattle.scene_layout.proofs.Locations.{each_location, fluid_size_lem, length_counts}
use Rattle.scene_lengths.specs.Lengths.{kept_answer_width, answers_needed}
use Rattle.iisph_forces.specs.Forces.{answer_offset, force_start, force_starts}
use Rattle.iisph_forces.specs.Forces.{ForcesKnown, ForceContact, ForceContacts}
use Rattle.iisph_forces.specs.Forces.{gathered, state_gain, force_gain, gathered_from, gathered_all}
use Rattle.iisph_forces.proofs.Offsets.{offset_next, offset_even, offset_needed, width_kept, indexed_run}

-- ---- where the force stands that a contact names

-- the boundary particle that the contact at an offset names
abbrev named : List ℕ → ℕ → ℕ
named b at = target_at (starts_of Boundary b) b at

-- `first` says where the first force of the boundary stands that the contact at an offset names, if forces are kept
pub record ForceAt (d : ℕ) (b : List ℕ) (at : ℕ) (first : Option ℕ) : Type 0 where
  pub kept : {k : ℕ} → first ≡ Some k → (boundary (scene_of b) (named b at)).keeps_forces ≡ true
  pub offset : {k : ℕ} → first ≡ Some k
      → k + kept_answer_width d * number_at b at ≡ answer_offset d (scene_of b) (named b at) + 1
  pub none : first ≡ None → (boundary (scene_of b) (named b at)).keeps_forces ≡ false

module _ {b index : List ℕ} (ix : Indexed b index) {d at : ℕ} (c : ForceContact d b at) where
  model_below : model_at b at < model_number Boundary b
  model_below = omega (arith, c.ready.target.model, length_starts 0 (counts_of Boundary b), length_counts Boundary b)

  pub target_below : named b at < boundary_size (scene_of b)
  unfolding size_of
  target_below = c.ready.target.below

  target_is : named b at ≡ get_or (starts_of Boundary b) (model_at b at) 0 + number_at b at
  unfolding target_at
  target_is = refl

  same : (p : ℕ) → p ≤ number_at b at
      → (boundary (scene_of b) (get_or (starts_of Boundary b) (model_at b at) 0 + p)).keeps_forces
      ≡ eqb (get_or (keeps_of Boundary b) (model_at b at) 0) 1
  same p h =
      run_keeps (indexed_run ix (model_at b at) model_below) p (omega (arith, c.number))

  -- the boundary's entry says whether a force is kept, and where it stands
  first_go : (t : Bool) → eqb (get_or (keeps_of Boundary b) (model_at b at) 0) 1 ≡ t
      → ForceAt d b at
      (then_some t (answer_offset d (scene_of b) (get_or (starts_of Boundary b) (model_at b at) 0) + 1))
  first_go true e =
      let s = scene_of b in
      let start = get_or (starts_of Boundary b) (model_at b at) 0 in
      let p = number_at b at in
      record {
        kept = λ _. ap (λ (j : ℕ). (boundary s j).keeps_forces) target_is ∙ same p (omega arith) ∙ e;
        offset = λ is.
            let even = offset_even d s start p _ (λ q l. width_kept d s (start + q) (same q (omega arith) ∙ e)) in
            rw target_is (omega (arith, same_Some _ _ is, even));
        none = λ is. absurd (none-some _ (sym is));
      }
  first_go false e =
      record {
        kept = λ is. absurd (none-some _ is);
        offset = λ is. absurd (none-some _ is);
        none =
            λ _. ap (λ (j : ℕ). (boundary (scene_of b) j).keeps_forces) target_is
            ∙ same (number_at b at) (omega arith) ∙ e;
      }

  first_is : ForceAt d b at (force_start d b (model_at b at))
  unfolding force_start
  first_is = first_go _ refl

  -- as the code finds it
  module _ {forces : List (Option ℕ)} (known : ForcesKnown d b forces) {r : ContactName} (name : NameIs b at r) where
    entry_is : get_or forces r.model.0 None ≡ force_start d b (model_at b at)
    unfolding force_starts
    entry_is =
        let n = model_number Boundary b in
        ap (λ (w : ℕ). get_or forces w None) (name.model ∙ sym (zero-add (model_at b at)))
        ∙ known.starts.holds (model_at b at) (rw (length-table n) model_below)
        ∙ table_at n (force_start d b) (model_at b at) None model_below

    pub force_none : get_or forces r.model.0 None ≡ None → (boundary (scene_of b) (named b at)).keeps_forces ≡ false
    force_none h = first_is.none (sym entry_is ∙ h)

    module _ {k : ℕ} (h : get_or forces r.model.0 None ≡ Some k) where
      pub force_kept : (boundary (scene_of b) (named b at)).keeps_forces ≡ true
      force_kept = first_is.kept (sym entry_is ∙ h)

      -- the code has w for the width of a kept answer
      module _ {w : ℕ} (we : w ≡ kept_answer_width d) where
        pub force_offset_lem : k + w * r.particle.0 ≡ answer_offset d (scene_of b) (named b at) + 1
        force_offset_lem = rw (we, name.particle) (first_is.offset (sym entry_is ∙ h))

        pub force_room : d ≡ axes_of b → {m : ℕ} → answers_needed (scene_of b) ≤ m
            → k + w * r.particle.0 + d ≤ m
        force_room axes room =
            let t = named b at in
            omega (
              arith,
              force_offset_lem,
              offset_next d (scene_of b) t,
              width_kept d (scene_of b) t force_kept,
              offset_needed b axes (suc t) target_below,
            )

-- ---- one contact

module _ (d : ℕ) (b : List ℕ) (at : ℕ) (state : PressureState) (l : List Float) where
  -- from the results of the code's calls
  pub gather_kept : {k : ℕ} {x f e g a : List Float}
      → (boundary (scene_of b) (named b at)).keeps_forces ≡ true
      → x ≡ sets l k f → k ≡ answer_offset d (scene_of b) (named b at) + 1 → f ≡ e ⊞ g → e ≡ vector_from d l k
      → g ≡ a ⊡ state.mass
      → a ≡ acceleration_of (scene_of b) state (contact_at d (starts_of Boundary b) b at)
      → x ≡ gathered d (scene_of b) (state_gain (scene_of b) state) l (contact_at d (starts_of Boundary b) b at)
  unfolding gathered choose contact_at
  gather_kept kept xe offset fe ee ge ae = xe ∙ rw (fe, ee, ge, ae, offset, kept)

  pub gather_none : (boundary (scene_of b) (named b at)).keeps_forces ≡ false
      → l ≡ gathered d (scene_of b) (state_gain (scene_of b) state) l (contact_at d (starts_of Boundary b) b at)
  unfolding gathered choose contact_at
  gather_none kept = rw kept

-- ---- a turn of a loop over contacts, each w bytes wide

pub force_contact : {d : ℕ} {b : List ℕ} {list : ContactList} → ForceContacts d b list → (k : ℕ) {w : ℕ}
    → w ≡ contact_width d → k < list.count → ForceContact d b (list.at + w * k)
force_contact h k e l = rw e (h.each k l)

-- ---- the contacts of a fluid particle

gain_same : (d : ℕ) (s : Scene) (gain gain' : Contact → Vector) (l : List Float) (c : Contact) → gain c ≡ gain' c
    → gathered d s gain l c ≡ gathered d s gain' l c
unfolding gathered
gain_same d s gain gain' l c e = rw e

module _ {b index : List ℕ} (ix : Indexed b index) (i : ℕ) (h : i < fluid_size (scene_of b)) where
  names_ok : RecordNamed Fluid b (location_of Fluid b i)
  names_ok =
      each_location Fluid b (RecordNamed Fluid b) ((accepted b ix.accepted).names Fluid) i (rw (fluid_size_lem b) at h)

  -- each contact of a list names a particle that its boundary has
  abbrev NumbersIn : ContactList → Type 0
  NumbersIn list =
      (k : ℕ) → k < list.count
      → let at = list.at + contact_width (axes_of b) * k in
      number_at b at < get_or (counts_of Boundary b) (model_at b at) 0

  module _ {d : ℕ} (axes : d ≡ axes_of b) {list : ContactList}
      (e : list ≡ contact_list_at Boundary b (location_of Fluid b i)) where
    pub force_contacts : ForceContacts d b list
    unfolding contact_list_at RecordNamed
    force_contacts =
        let are = contacts_are ix i h e in
        rw axes
        (record {
          each = λ k l.
              record {
                ready = are.ready.each k l;
                number = subst NumbersIn (sym e) (λ k l. (names_ok Boundary k l).number) k l;
              };
        })

    -- gathering with the particle's pressure state is the rules' gathering
    pub from_made : {ps : List Float} {state : PressureState} → PressureStateIs (scene_of b) ps i state
        → (l : List Float) {x : List Float}
        → x ≡ over_list Boundary d b list (gathered d (scene_of b) (state_gain (scene_of b) state)) l
        → x ≡ gathered_from d (scene_of b) ps l i
    unfolding gathered_from contacts_of
    from_made {ps} {state} is l xe =
        let s = scene_of b in
        xe
        ∙ over_list_lem axes (contacts_are ix i h e) (gathered d s (state_gain s state)) l
        ∙ fold_same (particle s i).boundary_contacts
        (λ c m x. gain_same d s (state_gain s state) (force_gain s ps i) x c (rw (acceleration_is is c, is.mass)))
        refl

-- ---- one fluid particle after the other: l is the answer list before the first

module _ (d : ℕ) (s : Scene) (ps l : List Float) where
  pub no_particles : l ≡ gathered_all d s ps 0 l
  unfolding gathered_all table fold
  no_particles = refl

  pub one_more_particle : (i : ℕ) {x y : List Float} → x ≡ gathered_all d s ps i l → y ≡ gathered_from d s ps x i
      → y ≡ gathered_all d s ps (i + 1) l
  unfolding gathered_all
  one_more_particle i xe ye =
      ye
      ∙ ap (λ (x : List Float). gathered_from d s ps x i) xe
      ∙ sym (fold-table (gathered_from d s ps) l i (λ k. k))
      ∙ ap (λ (n : ℕ). fold (gathered_from d s ps) l (table n (λ k. k))) (sym (add-one i))
