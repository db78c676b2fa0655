-- The coefficients of a fluid particle from the sums that the code makes: over its fluid contacts and from there over
-- its boundary contacts, which is the rules' sum over both; the factors between them are the rules'. Each list of
-- contacts is the particle's. Assumes nothing.
use Prim.Native.Nat.{ℕ}
use mathlib.Core.Path.{◌≡◌, ap, ◌∙◌}
use mathlib.Core.List.{List}
use lib.Ieee.{Float}
use Rattle.lists.specs.Lists.{fold}
use Rattle.math.specs.Real.{◌⊕◌, ◌⊗◌, ◌⊘◌, ⊝, +0}
use Rattle.math.specs.Vector.{Vector, coordinates, origin}
use Rattle.math.specs.declared.Vec3.{Vec3}
use Rattle.scene_format.specs.Format.{axes_of}
use Rattle.iisph_rows.proofs.Particles.{zero_is}
use Rattle.scene_format.specs.Scene.{FluidParticle, Contact}
use Rattle.scene_format.specs.SceneOf.{scene_of}
use Rattle.scene_format.specs.declared.Kind.{Kind}
use Rattle.scene_format.specs.declared.Kind.TheVariants.{Fluid, Boundary}
use Rattle.iisph_rules.specs.Coefficients as rules
use Rattle.iisph_rules.specs.Coefficients.{dt, zero_vector, over_contacts, particle_mass, advected_velocity, Neighbour}
use Rattle.iisph_rules.specs.Coefficients.{fluid_neighbour, boundary_neighbour, over_neighbours, predicted_density}
use Rattle.iisph_rules.specs.Coefficients.{dii_factor, dji_factor, coefficients_of}
use Rattle.iisph_coefficients.specs.Neighbours.{mass_of, velocity_of, neighbour_of, weighed, approached, pushed}
use Rattle.iisph_coefficients.specs.Neighbours.{returned, summed, CoefficientsAre}
use Rattle.scene_index.specs.Contacts.{over_list}
use Rattle.scene_index.specs.declared.contacts.ContactList.{ContactList}
use Rattle.scene_index.proofs.ContactLists.{contacts_of, ContactsAre, over_list_lem}

-- ---- both kinds of contacts

-- the whole sum over a list is one over the particle's contacts
summed_all : {A : Type 0} {b : List ℕ} {κ : Kind} {p : FluidParticle} {list : ContactList} {d : ℕ}
    → d ≡ axes_of b → ContactsAre b κ p list
    → (f : Neighbour → A → Contact → A) (a : A)
    → summed κ d b list f a list.count
    ≡ fold (λ sum c. f (neighbour_of κ (scene_of b) p.density0 c) sum c) a (contacts_of κ p)
summed_all {A} {b} {κ} {p} {list} {d} axes h f a =
    let over : Float → A = λ x. over_list κ d b list (λ sum c. f (neighbour_of κ (scene_of b) x c) sum c) a in
    ap over h.density0 ∙ over_list_lem axes h (λ sum c. f (neighbour_of κ (scene_of b) p.density0 c) sum c) a

-- of a particle p with these lists of contacts, where the code has d for the number of axes; x is what a sum is after
-- the fluid contacts
module _ {b : List ℕ} {d : ℕ} (axes : d ≡ axes_of b) {p : FluidParticle} {fluid boundary : ContactList}
    (fs : ContactsAre b Fluid p fluid) (bs : ContactsAre b Boundary p boundary) where
  over_both : {A : Type 0} (f : Neighbour → A → Contact → A) (a : A) {x y : A}
      → x ≡ summed Fluid d b fluid f a fluid.count
      → y ≡ summed Boundary d b boundary f x boundary.count
      → y ≡ over_neighbours (scene_of b) p f a
  unfolding over_neighbours over_contacts fluid_neighbour boundary_neighbour mass_of velocity_of contacts_of
  over_both {A} f a q r =
      r ∙ summed_all axes bs f _
      ∙ ap (λ (x : A). fold (λ sum c. f (neighbour_of Boundary (scene_of b) p.density0 c) sum c) x
      (contacts_of Boundary p)) (q ∙ summed_all axes fs f a)

  density_made : {x rho : Float} → x ≡ summed Fluid d b fluid weighed +0 fluid.count
      → rho ≡ summed Boundary d b boundary weighed x boundary.count
      → rho ≡ rules.density (scene_of b) p
  unfolding rules.density
  density_made q r = over_both weighed +0 q r

  -- t is the step length
  module _ {t : Float} (te : t ≡ dt (scene_of b)) (rho : Float) where
    predicted_made : (v : Vector) {x delta : Float} → v ≡ advected_velocity (scene_of b) p
        → x ≡ summed Fluid d b fluid (approached v) +0 fluid.count
        → delta ≡ summed Boundary d b boundary (approached v) x boundary.count
        → rho ⊕ delta ⊗ t ≡ predicted_density (scene_of b) p rho
    unfolding predicted_density rules.delta
    predicted_made v ve q r =
        ap (λ x. rho ⊕ x ⊗ t)
        (over_both (approached v) +0 q r ∙ ap (λ v. over_neighbours (scene_of b) p (approached v) +0) ve)
        ∙ ap (λ t. rho ⊕ rules.delta (scene_of b) p ⊗ t) te

    dii_made : {x u : Vector}
        → x ≡ summed Fluid d b fluid (pushed (⊝ t ⊗ t ⊘ (rho ⊗ rho))) (origin d) fluid.count
        → u ≡ summed Boundary d b boundary (pushed (⊝ t ⊗ t ⊘ (rho ⊗ rho))) x boundary.count
        → u ≡ rules.dii (scene_of b) p rho
    unfolding rules.dii dii_factor
    dii_made q r =
        over_both (pushed (⊝ t ⊗ t ⊘ (rho ⊗ rho))) _ q r
        ∙ ap (λ z. over_neighbours (scene_of b) p (pushed (⊝ t ⊗ t ⊘ (rho ⊗ rho))) z) (ap origin axes ∙ zero_is b)
        ∙ ap (λ t. over_neighbours (scene_of b) p (pushed (⊝ t ⊗ t ⊘ (rho ⊗ rho))) (zero_vector (scene_of b))) te

    aii_made : (u : Vector) (m : Float) {x a : Float} → m ≡ particle_mass p
        → x ≡ summed Fluid d b fluid (returned u (t ⊗ t ⊗ m ⊘ (rho ⊗ rho))) +0 fluid.count
        → a ≡ summed Boundary d b boundary (returned u (t ⊗ t ⊗ m ⊘ (rho ⊗ rho))) x boundary.count
        → a ≡ rules.aii (scene_of b) p rho u
    unfolding rules.aii dji_factor
    aii_made u m me q r =
        over_both (returned u (t ⊗ t ⊗ m ⊘ (rho ⊗ rho))) +0 q r
        ∙ ap (λ m. over_neighbours (scene_of b) p (returned u (t ⊗ t ⊗ m ⊘ (rho ⊗ rho))) +0) me
        ∙ ap (λ t. over_neighbours (scene_of b) p (returned u (t ⊗ t ⊗ particle_mass p ⊘ (rho ⊗ rho))) +0) te

  -- from the results of the code's calls, in their order
  pub coefficients_made : {t x y rho delta z a m : Float} (v part : Vec3) {u : Vec3}
      → t ≡ dt (scene_of b)
      → coordinates d v ≡ advected_velocity (scene_of b) p
      → x ≡ summed Fluid d b fluid weighed +0 fluid.count
      → y ≡ summed Fluid d b fluid (approached (coordinates d v)) +0 fluid.count
      → rho ≡ summed Boundary d b boundary weighed x boundary.count
      → delta ≡ summed Boundary d b boundary (approached (coordinates d v)) y boundary.count
      → coordinates d part ≡ summed Fluid d b fluid (pushed (⊝ t ⊗ t ⊘ (rho ⊗ rho))) (origin d) fluid.count
      → coordinates d u
      ≡ summed Boundary d b boundary (pushed (⊝ t ⊗ t ⊘ (rho ⊗ rho))) (coordinates d part) boundary.count
      → m ≡ particle_mass p
      → z ≡ summed Fluid d b fluid (returned (coordinates d u) (t ⊗ t ⊗ m ⊘ (rho ⊗ rho))) +0 fluid.count
      → a ≡ summed Boundary d b boundary (returned (coordinates d u) (t ⊗ t ⊗ m ⊘ (rho ⊗ rho))) z boundary.count
      → CoefficientsAre d (record { density = rho; predicted_density = rho ⊕ delta ⊗ t; aii = a; dii = u })
      (coefficients_of (scene_of b) p)
  unfolding coefficients_of
  coefficients_made {rho = rho} {m = m} v part {u = u} te ve xe ye re le pe ue me ze ae =
      let density = density_made xe re in
      let dii = dii_made te rho pe ue ∙ ap (rules.dii (scene_of b) p) density in
      record {
        density = density;
        predicted_density =
            predicted_made te rho (coordinates d v) ve ye le ∙ ap (predicted_density (scene_of b) p) density;
        aii =
            aii_made te rho (coordinates d u) m me ze ae
            ∙ ap (λ r. rules.aii (scene_of b) p r (coordinates d u)) density
            ∙ ap (rules.aii (scene_of b) p (rules.density (scene_of b) p)) dii;
        dii = dii;
      }
