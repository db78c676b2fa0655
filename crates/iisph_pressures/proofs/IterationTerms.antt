-- What an iteration computes of a particle is the rules': a term is that of the row which the contact names, and a sum
-- over a list of contacts is one over the particle's. Each law is over variables for the results of the code's calls.
-- Assumes nothing.
use Prim.Native.Nat.{ℕ, ◌+◌, ◌*◌, ◌<◌}
use mathlib.Core.Path.{◌≡◌, refl, sym, ap, ◌∙◌, subst}
use mathlib.Core.Bool.{Bool, true, false, cond}
use mathlib.Core.List.{List}
use native.Mathlib.Omega.{arith}
use lib.Ieee
use lib.Ieee.{Float}
use lib.ListN.{length}
use Rattle.math.specs.Real.{◌⊕◌, ◌⊖◌, ◌⊗◌, ◌⊘◌, +0, half, magnitude}
use Rattle.math.specs.Vector.{Axes, Vector, coordinates, origin, ◌⊞◌, ◌⊟◌, ◌⊡◌, ◌·◌}
use Rattle.lists.specs.Lists.{fold, choose}
use Rattle.scene_format.specs.Bytes.{vector_at}
use Rattle.scene_format.specs.Scene.{Scene, FluidParticle, Contact, fluid_size, particle}
use Rattle.scene_format.specs.SceneOf.{target_at, contact_at, scene_of}
use Rattle.scene_format.specs.declared.Criterion.{Criterion}
use Rattle.scene_format.specs.declared.Kind.{Kind}
use Rattle.scene_format.specs.declared.Kind.TheVariants.{Fluid, Boundary}
use Rattle.iisph_rules.specs.Coefficients.{dt, over_contacts, particle_mass, fluid_mass, boundary_mass, density}
use Rattle.iisph_rules.specs.Coefficients.{dji_factor}
use Rattle.iisph_rules.specs.Coefficients.{coefficients_of, coefficients, coefficient}
use Rattle.iisph_rules.specs.Iteration.{pressure, dij_sum, dij_pjl, dij, pressure_sum, relaxed, error_term, no_pressure}
use Rattle.iisph_rules.specs.Iteration.{clamped, aii_limit, next_pressure}
use Rattle.iisph_pressures.specs.IterationRows.{IterationReady, pressures_in, dijs_in, quotient, quotient_row}
use Rattle.iisph_pressures.specs.IterationRows.{with_dij}
use Rattle.iisph_pressures.specs.IterationRows.{OwnerIs, row_term, fluid_term, boundary_term, with_term, next_from}
use Rattle.iisph_pressures.specs.IterationRows.{NextIs}
use Rattle.scene_index.specs.Contacts.{TargetReady, over_first, over_list}
use Rattle.iisph_rows.specs.Rows.{volumes_at, element_at}
use Rattle.iisph_rows.specs.Rows.{predicted_slot, aii_slot, quotient_slot, Rows}
use Rattle.scene_format.specs.Format.{axes_of, rule_of, criterion_of, contact_width, gradient_offset, starts_of}
use Rattle.scene_index.specs.declared.contacts.ContactList.{ContactList}
use Rattle.iisph_pressures.specs.declared.iteration.Next.{Next}
use Rattle.iisph_pressures.specs.declared.iteration.Owner.{Owner}
use Rattle.iisph_rows.proofs.Particles.{zero_is}
use Rattle.scene_format.proofs.Forms.{axes_of_lem}
use Rattle.scene_layout.proofs.Locations.{scene_criterion}
use Rattle.scene_index.proofs.ContactLists.{contacts_of, ContactsAre, over_list_lem, fold_next}
use Rattle.iisph_pressures.proofs.IterationReads.{coefficient_at, pressure_in, dij_in, density_in, predicted_in}
use Rattle.iisph_pressures.proofs.IterationReads.{aii_in, mass_in}
use Rattle.iisph_rules.proofs.Sizes.{length-dii}
use Rattle.scene_index.proofs.Targets.{fluid_named, boundary_named}
use Rattle.iisph_rows.proofs.RowReads.{row_vector, column_value, volume_behind}

-- ---- the number of axes that the code has

pub axes-are : (b : List ℕ) {d : ℕ} → d ≡ axes_of b → Axes d
axes-are b e = rw e (axes_of_lem b)

-- ---- dij_pjl

pub dij_step : (s : Scene) (ps : List Float) (c : Contact) (x : Vector) {y v g : Vector} {w : Float}
    → y ≡ x ⊞ v → v ≡ g ⊡ w → g ≡ c.gradient → w ≡ quotient s ps c.target → y ≡ with_dij s ps x c
dij_step s ps c x ye ve ge we = rw (ye, ve, ge, we)

-- the quotient of particle j, at the place that the code found in the column
pub quotient_there : (s : Scene) (ps : List Float) (d : ℕ) {n j column place : ℕ} {work : List Float}
    → Rows d n (quotient_slot d) (quotient_row s ps) work → column ≡ quotient_slot d → j < n → place ≡ column * n + j
    → element_at work place ≡ quotient s ps j
quotient_there s ps d {j = j} q ce h pe = rw (pe, ce) (column_value d (quotient s ps) q (omega arith) j h)

pub dij_made : {b : List ℕ} {d : ℕ} {p : FluidParticle} {list : ContactList} → d ≡ axes_of b →
    ContactsAre b Fluid p list
    → (ps : List Float) {t : Float} {x y : Vector}
    → t ≡ dt (scene_of b) → x ≡ over_list Fluid d b list (with_dij (scene_of b) ps) (origin d) → y ≡ x ⊡ (t ⊗ t)
    → y ≡ dij_pjl (scene_of b) (coefficients (scene_of b)) ps p
unfolding dij_pjl dij_sum quotient fluid_mass contacts_of
dij_made {b} {d} {p} axes h ps {t} te xe ye =
    ye
    ∙ ap (λ (x : Vector). x ⊡ (t ⊗ t))
    (xe ∙ over_list_lem axes h (with_dij (scene_of b) ps) (origin d)
    ∙ ap (λ (z : Vector). fold (with_dij (scene_of b) ps) z p.fluid_contacts) (ap origin axes ∙ zero_is b))
    ∙ ap (λ (t : Float). dij_sum (scene_of b) (coefficients (scene_of b)) ps p ⊡ (t ⊗ t)) te

-- ---- terms of the pressure sum

term_same : {m m' q q' : Float} {d d' x x' : Vector} (own g : Vector) (e p : Float) → m ≡ m' → q ≡ q' → d ≡ d' → x ≡ x'
    → m ⊗ (((own ⊟ d ⊡ q) ⊟ (x ⊟ (g ⊡ e) ⊡ p)) · g) ≡ m' ⊗ (((own ⊟ d' ⊡ q') ⊟ (x' ⊟ (g ⊡ e) ⊡ p)) · g)
term_same own g e p me qe de xe = rw (me, qe, de, xe)

module _ (b : List ℕ) {d n : ℕ} {work : List Float} (axes : d ≡ axes_of b) (size : n ≡ fluid_size (scene_of b))
    (q : IterationReady (scene_of b) (pressures_in d n work) d n work) where
  length_row : (j : ℕ) → j < fluid_size (scene_of b) →
      length (coefficients_of (scene_of b) (particle (scene_of b) j)).dii
      ≡ d
  unfolding coefficients_of
  length_row j h = length-dii b j h (density (scene_of b) (particle (scene_of b) j)) ∙ sym axes

  row_term_is : (j : ℕ) → j < n → (owner : Owner) (g : Vector)
      → row_term d work j owner g
      ≡ particle_mass (particle (scene_of b) j)
      ⊗ (((coordinates d owner.dij ⊟ (coefficient (coefficients (scene_of b)) j).dii ⊡ pressure (pressures_in d n work)
      j)
      ⊟ (dij (dijs_in d n work) j ⊟ (g ⊡ owner.factor) ⊡ owner.pressure))
      · g)
  row_term_is j h owner g =
      term_same (coordinates d owner.dij) g owner.factor owner.pressure
      (mass_in q size j h)
      (pressure_in d work j h)
      (row_vector d (λ i. (coefficients_of (scene_of b) (particle (scene_of b) i)).dii) q.dii (omega arith) j h
      (length_row j (omega arith))
      ∙ sym (ap (λ k. k.dii) (coefficient_at (scene_of b) j (omega arith))))
      (dij_in d work j h)

  -- the contact at an offset names j and has the gradient g
  module _ {at j : ℕ} {g : Vector} (ge : g ≡ vector_at d b (at + gradient_offset)) where
    pub fluid_term_lem : TargetReady Fluid b at → j ≡ target_at (starts_of Fluid b) b at → (owner : Owner)
        → row_term d work j owner g
        ≡ fluid_term d (scene_of b) (pressures_in d n work) (dijs_in d n work) owner
        (contact_at d (starts_of Fluid b) b at)
    unfolding fluid_term fluid_mass contact_at
    fluid_term_lem ready named owner =
        let h = fluid_named ready.0 named refl in
        row_term_is j (omega arith) owner g ∙ rw (ge, named)

    pub boundary_term_lem : TargetReady Boundary b at → j ≡ target_at (starts_of Boundary b) b at
        → (density0 : Float) (u : Vector) {r : Float} → r ≡ u · g
        → element_at work (volumes_at d n + j) ⊗ density0 ⊗ r
        ≡ boundary_term (scene_of b) density0 u (contact_at d (starts_of Boundary b) b at)
    unfolding boundary_term boundary_mass contact_at
    boundary_term_lem ready named density0 u {r} re =
        ap (λ v. v ⊗ density0 ⊗ r) (volume_behind (scene_of b) d n q.volume j (boundary_named ready.0 named refl))
        ∙ rw (re, ge, named)

-- ---- the pressure sum

-- a turn of a loop: k contacts were passed, t is the term of the next
pub term_next : (κ : Kind) (d : ℕ) (b : List ℕ) (term : Contact → Float) (at k : ℕ) (a : Float) {w : ℕ} {x t : Float}
    → w ≡ contact_width d → x ≡ over_first κ d b at (with_term term) a k
    → t ≡ term (contact_at d (starts_of κ b) b (at + w * k))
    → x ⊕ t ≡ over_first κ d b at (with_term term) a (k + 1)
term_next κ d b term at k a {x = x} we xe te = fold_next (with_term term) a κ d b at k we xe (ap (λ t. x ⊕ t) te)

-- the rule's sum, of what it takes of particle i itself
abbrev sum_with : Scene → List Float → List Vector → FluidParticle → Float → Vector → Float → Float → Float
sum_with s ps ds p r d e q =
    over_contacts
    (λ sum c.
    let j = c.target in
    sum ⊕ fluid_mass s c
    ⊗ (((d ⊟ (coefficient (coefficients s) j).dii ⊡ pressure ps j)
    ⊟ (dij ds j ⊟ (c.gradient ⊡ e) ⊡ q)) · c.gradient))
    (λ sum c. sum ⊕ boundary_mass s r c ⊗ (d · c.gradient))
    +0
    p

sum_same : (s : Scene) (ps : List Float) (ds : List Vector) (p : FluidParticle) {r r' e e' q q' : Float}
    {d d' : Vector}
    → r ≡ r' → d ≡ d' → e ≡ e' → q ≡ q' → sum_with s ps ds p r d e q ≡ sum_with s ps ds p r' d' e' q'
sum_same s ps ds p re de ee qe = cc

module _ {b : List ℕ} {d : ℕ} (axes : d ≡ axes_of b) (i : ℕ) {fluid boundary : ContactList}
    (fs : ContactsAre b Fluid (particle (scene_of b) i) fluid)
    (bs : ContactsAre b Boundary (particle (scene_of b) i) boundary)
    (ps : List Float) (ds : List Vector) (owner : Owner) {x y : Float}
    (xe : x ≡ over_list Fluid d b fluid (with_term (fluid_term d (scene_of b) ps ds owner)) +0)
    (ye : y
    ≡ over_list Boundary d b boundary
    (with_term (boundary_term (scene_of b) boundary.density0 (coordinates d owner.dij))) x) where
  sum_both : y ≡ sum_with (scene_of b) ps ds (particle (scene_of b) i) boundary.density0 (coordinates d owner.dij)
      owner.factor
      owner.pressure
  unfolding over_contacts fluid_term boundary_term contacts_of
  sum_both =
      let p = particle (scene_of b) i in
      let term : Contact → Float = boundary_term (scene_of b) boundary.density0 (coordinates d owner.dij) in
      ye
      ∙ over_list_lem axes bs (with_term term) x
      ∙ ap (λ (x : Float). fold (with_term term) x p.boundary_contacts)
      (xe ∙ over_list_lem axes fs (with_term (fluid_term d (scene_of b) ps ds owner)) +0)

  sum_made : coordinates d owner.dij ≡ dij ds i
      → owner.factor
      ≡ dji_factor (scene_of b) (particle (scene_of b) i) (coefficient (coefficients (scene_of b)) i).density
      → owner.pressure ≡ pressure ps i
      → y ≡ pressure_sum (scene_of b) (coefficients (scene_of b)) ps ds i
  unfolding pressure_sum
  sum_made de ee qe = sum_both ∙ sum_same (scene_of b) ps ds (particle (scene_of b) i) bs.density0 de ee qe

-- ---- the next pressure

module _ (criterion : Criterion) (density0 aii predicted sum p : Float) where
  next_is : {t u : Bool} → t ≡ Ieee.lt aii_limit (magnitude aii)
      → u ≡ Ieee.lt +0 (relaxed p aii (density0 ⊖ predicted) sum)
      → let next = relaxed p aii (density0 ⊖ predicted) sum in
      choose t
      (cond u (record { pressure = next; term = error_term criterion density0 predicted aii sum next }) no_pressure)
      no_pressure
      ≡ next_from criterion density0 aii predicted sum p
  unfolding next_from clamped
  next_is e q = rw (e, q)

  module _ {m : Float} (me : m ≡ magnitude aii) where
    pub next_kept : {term : Float}
        → let next = half ⊗ p ⊕ half ⊗ (density0 ⊖ predicted ⊖ sum) ⊘ aii in
        Ieee.lt aii_limit m ≡ true → Ieee.lt +0 next ≡ true
        → term ≡ error_term criterion density0 predicted aii sum next
        → NextIs (record { pressure = next; term = term }) (next_from criterion density0 aii predicted sum p)
    unfolding relaxed choose
    next_kept e q te =
        let k = next_is (sym e ∙ ap (Ieee.lt aii_limit) me) (sym q) in
        record { pressure = ap (λ k. k.pressure) k; term = te ∙ ap (λ k. k.term) k }

    pub next_clamped : let next = half ⊗ p ⊕ half ⊗ (density0 ⊖ predicted ⊖ sum) ⊘ aii in
        Ieee.lt aii_limit m ≡ true → Ieee.lt +0 next ≡ false
        → NextIs (record { pressure = +0; term = +0 }) (next_from criterion density0 aii predicted sum p)
    unfolding relaxed choose
    next_clamped e q =
        let k = next_is (sym e ∙ ap (Ieee.lt aii_limit) me) (sym q) in
        record { pressure = ap (λ k. k.pressure) k; term = ap (λ k. k.term) k }

    pub next_none : Ieee.lt aii_limit m ≡ false
        → NextIs (record { pressure = +0; term = +0 }) (next_from criterion density0 aii predicted sum p)
    unfolding choose
    next_none e =
        let k = next_is (sym e ∙ ap (Ieee.lt aii_limit) me) refl in
        record { pressure = ap (λ k. k.pressure) k; term = ap (λ k. k.term) k }

next_same : {c c' : Criterion} {d d' a a' q q' s s' p p' : Float}
    → c ≡ c' → d ≡ d' → a ≡ a' → q ≡ q' → s ≡ s' → p ≡ p' → next_from c d a q s p ≡ next_from c' d' a' q' s' p'
next_same ce de ae qe se pe = rw (ce, de, ae, qe, se, pe)

next_whole : (s : Scene) (ps : List Float) (ds : List Vector) (i : ℕ)
    → let k = coefficient (coefficients s) i in
    next_from s.header.criterion (particle s i).density0 k.aii k.predicted_density
    (pressure_sum s (coefficients s) ps ds i)
    (pressure ps i)
    ≡ next_pressure s (coefficients s) ps ds i
unfolding next_from next_pressure
next_whole s ps ds i = refl

factor_same : {t t' m m' r r' : Float} → t ≡ t' → m ≡ m' → r ≡ r' → t ⊗ t ⊗ m ⊘ (r ⊗ r) ≡ t' ⊗ t' ⊗ m' ⊘ (r' ⊗ r')
factor_same te me re = rw (te, me, re)

factor_made : (b : List ℕ) (p : FluidParticle) {t m r rho : Float} → t ≡ dt (scene_of b) → m ≡ particle_mass p → r ≡ rho
    → t ⊗ t ⊗ m ⊘ (r ⊗ r) ≡ dji_factor (scene_of b) p rho
unfolding dji_factor
factor_made b p te me re = factor_same te me re

-- from the results of the code's calls, in their order
pub next_made : (b : List ℕ) {a n : ℕ} {work : List Float} → a ≡ axes_of b → n ≡ fluid_size (scene_of b)
    → IterationReady (scene_of b) (pressures_in a n work) a n work
    → (i : ℕ) → i < n → {fluid boundary : ContactList}
    → ContactsAre b Fluid (particle (scene_of b) i) fluid → ContactsAre b Boundary (particle (scene_of b) i) boundary
    → (t : Float) → t ≡ dt (scene_of b) → (owner : Owner) → OwnerIs a work n i t owner
    → {x y aii predicted : Float} {c : Criterion} {r : Next}
    → let ps = pressures_in a n work in
    let ds = dijs_in a n work in
    x ≡ over_list Fluid a b fluid (with_term (fluid_term a (scene_of b) ps ds owner)) +0
    → y
    ≡ over_list Boundary a b boundary
    (with_term (boundary_term (scene_of b) boundary.density0 (coordinates a owner.dij))) x
    → c ≡ criterion_of (rule_of b)
    → aii ≡ element_at work (aii_slot a * n + i) → predicted ≡ element_at work (predicted_slot a * n + i)
    → NextIs r (next_from c fluid.density0 aii predicted y owner.pressure)
    → NextIs r (next_pressure (scene_of b) (coefficients (scene_of b)) ps ds i)
next_made b {a} {n} {work} axes size q i h fs bs t te owner is {r = r} xe ye ce ae pe re =
    let p = is.pressure ∙ pressure_in a work i h in
    let sum =
    sum_made axes i fs bs (pressures_in a n work) (dijs_in a n work) owner xe ye (is.dij ∙ dij_in a work i h)
    (is.factor ∙ factor_made b (particle (scene_of b) i) te (mass_in q size i h) (density_in q size i h))
    p in
    subst (NextIs r)
    (next_same (ce ∙ sym (scene_criterion b)) fs.density0 (ae ∙ aii_in q size i h) (pe ∙ predicted_in q size i h) sum
    p
    ∙ next_whole (scene_of b) (pressures_in a n work) (dijs_in a n work) i)
    re
