-- What the contacts of a fluid particle take off its velocity change is the rules': a contact's change is that of the
-- row or the volume which it names, and a fold over a list of contacts is one over the particle's. Each law is over
-- variables for the results of the code's calls. Assumes nothing.
use Prim.Native.Nat.{ℕ, ◌+◌, ◌*◌, ◌<◌}
use mathlib.Core.Path.{◌≡◌, refl, ap, ◌∙◌}
use mathlib.Core.List.{List}
use native.Mathlib.Omega.{arith}
use lib.Ieee.{Float}
use Rattle.iisph_pressures.specs.IterationRows.{pressures_in}
use Rattle.iisph_pressures.proofs.IterationReads.{mass_in}
use Rattle.iisph_rows.specs.Passes.{PassOver}
use Rattle.iisph_rows.specs.Rows.{mass_slot, quotient_slot, row_at, element_at}
use Rattle.iisph_rows.proofs.RowReads.{column_value}
use Rattle.iisph_rules.specs.Coefficients.{dt, over_contacts, fluid_mass, velocity_change, coefficients}
use Rattle.iisph_rules.specs.Step.{pressure_share, boundary_acceleration, final_velocity_change}
use Rattle.lists.proofs.Lists.{fold_same}
use Rattle.math.specs.Real.{◌⊕◌, ◌⊗◌}
use Rattle.math.specs.Vector.{Vector, ◌⊟◌, ◌⊡◌}
use Rattle.scene_format.specs.Bytes.{vector_at}
use Rattle.scene_format.specs.Format.{axes_of, contact_width, gradient_offset, starts_of}
use Rattle.scene_format.specs.Scene.{Scene, Contact, particle}
use Rattle.scene_format.specs.SceneOf.{target_at, contact_at, scene_of}
use Rattle.scene_format.specs.declared.Kind.{Kind}
use Rattle.scene_format.specs.declared.Kind.TheVariants.{Fluid, Boundary}
use Rattle.scene_index.specs.Contacts.{ContactReady, over_first, over_list}
use Rattle.scene_index.specs.declared.contacts.ContactList.{ContactList}
use Rattle.scene_index.proofs.ContactLists.{contacts_of, ContactsAre, over_list_lem, fold_next}
use Rattle.scene_index.proofs.Targets.{fluid_named}
use Rattle.iisph_motion.specs.Changes.{PressureStateIs, acceleration_of, fluid_change, boundary_change, less_by}
use Rattle.iisph_motion.specs.Changes.{ChangesReady}
use Rattle.iisph_motion.specs.declared.acceleration.PressureState.{PressureState}
use Rattle.iisph_motion.proofs.Accelerations.{acceleration_is}

-- ---- the share of a particle, where the code finds it

pub share_at : {s : Scene} {d n : ℕ} {work : List Float} → ChangesReady s d n work → {j column k : ℕ} → j < n
    → column ≡ quotient_slot d → k ≡ column * n + j
    → element_at work k ≡ pressure_share (coefficients s) (pressures_in d n work) j
share_at {s} {d} {n} {work} q {j} h ce ke =
    ap (element_at work) (ke ∙ ap (λ (column : ℕ). column * n + j) ce)
    ∙ column_value d (pressure_share (coefficients s) (pressures_in d n work)) q.share (omega arith) j h

-- ---- one contact

change_same : {g g' : Vector} {m m' q q' : Float} (t p : Float) → g ≡ g' → m ≡ m' → q ≡ q'
    → g ⊡ (t ⊗ m ⊗ (p ⊕ q)) ≡ g' ⊡ (t ⊗ m' ⊗ (p ⊕ q'))
change_same t p ge me qe = rw (ge, me, qe)

-- of a fluid contact at an offset, from the results of the code's calls
pub fluid_change_lem : (b : List ℕ) {d at : ℕ} → ContactReady Fluid d b at → {index : List ℕ} {n : ℕ}
    → PassOver b index d n
    → {work : List Float} → ChangesReady (scene_of b) d n work
    → (own t : Float) {j : ℕ} → j ≡ target_at (starts_of Fluid b) b at
    → {row column k : ℕ} → row ≡ row_at d j → column ≡ quotient_slot d → k ≡ column * n + j
    → {g x : Vector} → g ≡ vector_at d b (at + gradient_offset)
    → x ≡ g ⊡ (t ⊗ element_at work (row + mass_slot) ⊗ (own ⊕ element_at work k))
    → x ≡ fluid_change (scene_of b) (pressures_in d n work) t own (contact_at d (starts_of Fluid b) b at)
unfolding fluid_change fluid_mass contact_at
fluid_change_lem b {d} ready {n = n} pass {work} q own t {j} named re ce ke ge xe =
    let h : j < n = omega (arith, pass.size, fluid_named ready.target named refl) in
    xe
    ∙ change_same t own ge
    (ap (λ (row : ℕ). element_at work (row + mass_slot)) re ∙ mass_in q.iteration pass.size j h)
    (share_at q h ce ke)
    ∙ rw named

-- of a boundary contact c
pub boundary_change_lem : (s : Scene) (state : PressureState) (t : Float) (c : Contact) {a x : Vector}
    → a ≡ acceleration_of s state c → x ≡ a ⊡ t → x ≡ boundary_change s t state c
unfolding boundary_change
boundary_change_lem s state t c ae xe = xe ∙ ap (λ (a : Vector). a ⊡ t) ae

-- a turn of a loop: k contacts, each w bytes wide, were passed, y is what is left after the next
pub change_next : (κ : Kind) (d : ℕ) (b : List ℕ) (taken : Contact → Vector) (at k : ℕ) (a : Vector) {w : ℕ}
    {v x y : Vector}
    → w ≡ contact_width d
    → v ≡ over_first κ d b at (less_by taken) a k
    → x ≡ taken (contact_at d (starts_of κ b) b (at + w * k)) → y ≡ v ⊟ x
    → y ≡ over_first κ d b at (less_by taken) a (k + 1)
change_next κ d b taken at k a {v = v} we ve xe ye =
    fold_next (less_by taken) a κ d b at k we ve (ye ∙ ap (λ (x : Vector). v ⊟ x) xe)

-- ---- of the particle's state a contact's change is the rule's

module _ (s : Scene) (ps : List Float) (i : ℕ) {t : Float} (te : t ≡ dt s) (c : Contact) where
  fluid_rule : {own : Float} → own ≡ pressure_share (coefficients s) ps i
      → fluid_change s ps t own c
      ≡ c.gradient
      ⊡ (dt s ⊗ fluid_mass s c ⊗ (pressure_share (coefficients s) ps i ⊕ pressure_share (coefficients s) ps c.target))
  unfolding fluid_change
  fluid_rule oe = rw (te, oe)

  boundary_rule : {state : PressureState} → PressureStateIs s ps i state
      → boundary_change s t state c ≡ boundary_acceleration s (coefficients s) ps i c ⊡ dt s
  unfolding boundary_change
  boundary_rule h = rw (te, acceleration_is h c)

-- ---- both kinds of contacts

-- from the results of the code's calls, in their order
pub change_made : {b : List ℕ} {d : ℕ} → d ≡ axes_of b → (i : ℕ) {fluid boundary : ContactList}
    → ContactsAre b Fluid (particle (scene_of b) i) fluid → ContactsAre b Boundary (particle (scene_of b) i) boundary
    → (ps : List Float) (t : Float) → t ≡ dt (scene_of b) → (state : PressureState)
    → PressureStateIs (scene_of b) ps i state
    → (own : Float) → own ≡ pressure_share (coefficients (scene_of b)) ps i
    → {v x y : Vector} → v ≡ velocity_change (scene_of b) (particle (scene_of b) i)
    → x ≡ over_list Fluid d b fluid (less_by (fluid_change (scene_of b) ps t own)) v
    → y ≡ over_list Boundary d b boundary (less_by (boundary_change (scene_of b) t state)) x
    → y ≡ final_velocity_change (scene_of b) (coefficients (scene_of b)) ps i
unfolding final_velocity_change over_contacts contacts_of
change_made {b} axes i fs bs ps t te state h own oe ve xe ye =
    let s = scene_of b in
    let p = particle s i in
    ye
    ∙ over_list_lem axes bs (less_by (boundary_change s t state)) _
    ∙ fold_same p.boundary_contacts (λ c m u. ap (λ (l : Vector). u ⊟ l) (boundary_rule s ps i te c h))
    (xe
    ∙ over_list_lem axes fs (less_by (fluid_change s ps t own)) _
    ∙ fold_same p.fluid_contacts (λ c m u. ap (λ (l : Vector). u ⊟ l) (fluid_rule s ps i te c oe)) ve)
