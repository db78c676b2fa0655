-- How long the answers are: in a scene that bytes stand for every vector has a double for each axis, so each particle
-- has as many answers as its width says, and all of them are as many as are needed, so that nothing beyond is touched.
-- Every operation on vectors, and so every sum, keeps the length. Assumes nothing.
use Prim.Native.Nat.{ℕ, zero, suc, ◌*◌, ◌<◌}
use mathlib.Core.Path.{◌≡◌, refl, sym, ap, subst, ◌∙◌}
use mathlib.Core.Bool.{Bool, true, false, true≢false}
use mathlib.Core.List.{List, [], ◌++◌, map, Memᴰ, flatten}
use native.Mathlib.Omega.{arith}
use lib.Dec.{eqb}
use lib.ListN.{length, drop, length-append, replicate, length-replicate}
use lib.Seq.{drop_at}
use lib.Ieee.{Float}
use Rattle.math.specs.Real.{+0}
use Rattle.math.specs.Vector.{Vector}
use Rattle.lists.specs.Lists.{table, choose, sum}
use Rattle.lists.proofs.Lists.{length-table, in_table, table-map, fold_keeps}
use Rattle.math.proofs.Vectors.{Sized, sum_sized, difference_sized, scaled_sized}
use Rattle.scene_format.specs.Bytes.{vector_at}
use Rattle.scene_format.specs.Format.{axes_of}
use Rattle.scene_format.specs.declared.Kind.TheVariants.{Boundary}
use Rattle.scene_format.specs.Scene.{Scene, FluidParticle, no_boundary_particle, Contact, fluid_size, boundary_size}
use Rattle.scene_format.specs.Scene.{particle, boundary}
use Rattle.scene_format.specs.SceneOf.{contact_at, contact_list, fluid_particle_at, force_at, boundary_particle_at}
use Rattle.scene_format.specs.SceneOf.{header_of}
use Rattle.scene_format.specs.SceneOf.{scene_of}
use Rattle.scene_lengths.specs.Lengths.{fluid_answer_width, answer_width, boundary_answer_width, answers_needed}
use Rattle.scene_lengths.specs.Lengths.{work_needed}
use Rattle.scene_layout.proofs.Locations.{particle_at, boundary_at}
use Rattle.iisph_rules.specs.Coefficients.{over_contacts, velocity_change, advected_velocity, over_neighbours, dii}
use Rattle.iisph_rules.specs.Coefficients.{Coefficients}
use Rattle.iisph_rules.specs.Iteration.{dij_sum, dij_pjl}
use Rattle.iisph_rules.specs.Step.{boundary_acceleration, final_velocity_change, new_velocity, new_position}
use Rattle.iisph_rules.specs.Step.{fluid_answer, force_from, boundary_force, boundary_answer, answers_from, answers_of}
use Rattle.iisph_rules.specs.Answer.{answers_after, work_after}
use Rattle.lists.proofs.Numbering.{sum_same}
use Rattle.lists.proofs.Rows.{length-rows}
use Rattle.iisph_rules.proofs.Iterations.{chosen}

-- ---- what a step needs of a fluid particle

pub record ParticleSized (d : ℕ) (p : FluidParticle) : Type 0 where
  pub position : Sized d p.position
  pub velocity : Sized d p.velocity
  pub acceleration : Sized d p.acceleration
  pub fluid_contacts : (c : Contact) → Memᴰ c p.fluid_contacts → Sized d c.gradient
  pub boundary_contacts : (c : Contact) → Memᴰ c p.boundary_contacts → Sized d c.gradient

vector_sized : (d : ℕ) (b : List ℕ) (at : ℕ) → Sized d (vector_at d b at)
unfolding vector_at
vector_sized d b at = length-table d _

contacts_sized : (d : ℕ) (starts b : List ℕ) (n at : ℕ) (c : Contact) → Memᴰ c (contact_list d starts b n at)
    → Sized d c.gradient
unfolding contact_list contact_at
contacts_sized d starts b n at c m =
    let r = in_table n _ m in
    ap (λ c. length c.gradient) r.value ∙ vector_sized d b _

module _ (b : List ℕ) where
  particle_sized : (i : ℕ) → i < fluid_size (scene_of b) → ParticleSized (axes_of b) (particle (scene_of b) i)
  unfolding fluid_particle_at
  particle_sized i h =
      rw (particle_at b i h)
      record {
        position = vector_sized (axes_of b) b _;
        velocity = vector_sized (axes_of b) b _;
        acceleration = vector_sized (axes_of b) b _;
        fluid_contacts = contacts_sized _ _ b _ _;
        boundary_contacts = contacts_sized _ _ b _ _;
      }

  gravity_sized : Sized (axes_of b) (scene_of b).header.gravity
  unfolding scene_of header_of
  gravity_sized = vector_sized (axes_of b) b _

-- ---- velocities before the pressures

module _ (s : Scene) (p : FluidParticle) (gravity : Sized s.header.axes s.header.gravity)
    (h : ParticleSized s.header.axes p) where
  change_sized : Sized s.header.axes (velocity_change s p)
  unfolding velocity_change
  change_sized = sum_sized _ _ (length-replicate _ _) (scaled_sized _ _ (sum_sized _ _ h.acceleration gravity))

  advected_sized : Sized s.header.axes (advected_velocity s p)
  unfolding advected_velocity
  advected_sized = sum_sized _ _ h.velocity change_sized

  -- and sums over the contacts
  dii_sized : (rho : Float) → Sized s.header.axes (dii s p rho)
  unfolding dii over_neighbours over_contacts
  dii_sized rho =
      fold_keeps (Sized s.header.axes) _ _ _
      (fold_keeps (Sized s.header.axes) _ _ _ (length-replicate _ _)
      (λ c m u q. sum_sized u _ q (scaled_sized _ _ (h.fluid_contacts c m))))
      (λ c m u q. sum_sized u _ q (scaled_sized _ _ (h.boundary_contacts c m)))

  dij_sized : (co : List Coefficients) (ps : List Float) → Sized s.header.axes (dij_pjl s co ps p)
  unfolding dij_pjl dij_sum
  dij_sized co ps =
      scaled_sized _ _
      (fold_keeps (Sized s.header.axes) _ _ _ (length-replicate _ _)
      (λ c m u q. sum_sized u _ q (scaled_sized _ _ (h.fluid_contacts c m))))

pub length_advected : (b : List ℕ) (i : ℕ) → i < fluid_size (scene_of b)
    → length (advected_velocity (scene_of b) (particle (scene_of b) i)) ≡ (axes_of b)
unfolding scene_of header_of
length_advected b i h = advected_sized (scene_of b) (particle (scene_of b) i) (gravity_sized b) (particle_sized b i h)

pub length-dii : (b : List ℕ) (i : ℕ) → i < fluid_size (scene_of b) → (rho : Float)
    → length (dii (scene_of b) (particle (scene_of b) i) rho) ≡ (axes_of b)
unfolding scene_of header_of
length-dii b i h = dii_sized (scene_of b) (particle (scene_of b) i) (gravity_sized b) (particle_sized b i h)

pub length-dij : (b : List ℕ) (i : ℕ) → i < fluid_size (scene_of b) → (co : List Coefficients) (ps : List Float)
    → length (dij_pjl (scene_of b) co ps (particle (scene_of b) i)) ≡ (axes_of b)
unfolding scene_of header_of
length-dij b i h = dij_sized (scene_of b) (particle (scene_of b) i) (gravity_sized b) (particle_sized b i h)

-- ---- the answers of one particle, from given coefficients and pressures

module _ (s : Scene) (co : List Coefficients) (ps : List Float)
    (gravity : Sized s.header.axes s.header.gravity) where
  module _ (i : ℕ) (h : ParticleSized s.header.axes (particle s i)) where
    acceleration_sized : (c : Contact) → Memᴰ c (particle s i).boundary_contacts
        → Sized s.header.axes (boundary_acceleration s co ps i c)
    unfolding boundary_acceleration
    acceleration_sized c m = scaled_sized _ _ (h.boundary_contacts c m)

    final_change_sized : Sized s.header.axes (final_velocity_change s co ps i)
    unfolding final_velocity_change over_contacts
    final_change_sized =
        fold_keeps (Sized s.header.axes) _ _ _
        (fold_keeps (Sized s.header.axes) _ _ _ (change_sized s (particle s i) gravity h)
        (λ c m u p. difference_sized u _ p (scaled_sized _ _ (h.fluid_contacts c m))))
        (λ c m u p. difference_sized u _ p (scaled_sized _ _ (acceleration_sized c m)))

    velocity_sized : Sized s.header.axes (new_velocity s co ps i)
    unfolding new_velocity
    velocity_sized = sum_sized _ _ h.velocity final_change_sized

    position_sized : Sized s.header.axes (new_position s co ps i)
    unfolding new_position
    position_sized = sum_sized _ _ h.position (scaled_sized _ _ velocity_sized)

    pub length-fluid_answer : length (fluid_answer s co ps i) ≡ fluid_answer_width s.header.axes
    unfolding fluid_answer
    length-fluid_answer = simp length-append (omega (arith, position_sized, velocity_sized))

    force_from_sized : (j : ℕ) (u : Vector) → Sized s.header.axes u
        → Sized s.header.axes (force_from s co ps j u i)
    unfolding force_from
    force_from_sized j u p =
        fold_keeps (Sized s.header.axes) _ _ _ p
        (λ c m v q. chosen (Sized s.header.axes) _ _ _
        (λ _. sum_sized v _ q (scaled_sized _ _ (acceleration_sized c m))) (λ _. q))

  force_sized : ((i : ℕ) → i < fluid_size s → ParticleSized s.header.axes (particle s i))
      → (j : ℕ) → Sized s.header.axes (boundary s j).force → Sized s.header.axes (boundary_force s co ps j)
  unfolding boundary_force
  force_sized h j p =
      fold_keeps (Sized s.header.axes) _ _ _ p
      (λ i m u q.
      let r = in_table (fluid_size s) _ m in
      let p = subst (λ k. ParticleSized s.header.axes (particle s k)) (sym r.value) (h r.index r.below) in
      force_from_sized i p j u q)

-- ---- all answers of a scene that bytes stand for

kept_sized : (d : ℕ) (t : Bool) (force : Vector) → (t ≡ true → Sized d force)
    → suc (length (choose t force [])) ≡ answer_width d Boundary (choose t 1 0)
unfolding choose answer_width
kept_sized d true force p = omega (arith, p refl)
kept_sized d false force p = refl

force_at_sized : (k : ℕ) (b : List ℕ) (at : ℕ) → eqb k 1 ≡ true → Sized (axes_of b) (force_at k b at)
unfolding force_at
force_at_sized zero b at e = absurd (true≢false (sym e))
force_at_sized (suc k) b at e = vector_sized (axes_of b) b at

module _ (b : List ℕ) (co : List Coefficients) (ps : List Float) where
  pub length-fluid : (i : ℕ) → i < fluid_size (scene_of b)
      → length (fluid_answer (scene_of b) co ps i) ≡ fluid_answer_width (axes_of b)
  unfolding scene_of header_of
  length-fluid i h = length-fluid_answer (scene_of b) co ps (gravity_sized b) i (particle_sized b i h)

  pub length-boundary : (j : ℕ) → j < boundary_size (scene_of b)
      → length (boundary_answer (scene_of b) co ps j) ≡ boundary_answer_width (axes_of b) (boundary (scene_of b) j)
  unfolding boundary_answer boundary_answer_width boundary_particle_at scene_of header_of
  length-boundary j h =
      let e = boundary_at b j h in
      kept_sized (axes_of b) (boundary (scene_of b) j).keeps_forces (boundary_force (scene_of b) co ps j)
      (λ kept.
      force_sized (scene_of b) co ps (gravity_sized b) (particle_sized b) j
      (ap (λ q. length q.force) e ∙ force_at_sized _ b _ (ap (λ q. q.keeps_forces) (sym e) ∙ kept)))

module _ (b : List ℕ) where
  length_fluids : (co : List Coefficients) (ps : List Float)
      → length (flatten (table (fluid_size (scene_of b)) (fluid_answer (scene_of b) co ps)))
      ≡ fluid_answer_width (axes_of b) * fluid_size (scene_of b)
  length_fluids co ps =
      length-rows (fluid_size (scene_of b)) (fluid_answer (scene_of b) co ps) (λ i. fluid_answer_width (axes_of b))
      (length-fluid b co ps)
      ∙ sum_same (fluid_answer_width (axes_of b)) (fluid_size (scene_of b))

  length_boundaries : (co : List Coefficients) (ps : List Float)
      → length (flatten (table (boundary_size (scene_of b)) (boundary_answer (scene_of b) co ps)))
      ≡ sum (map (boundary_answer_width (axes_of b)) (scene_of b).boundary_particles)
  unfolding boundary_size boundary
  length_boundaries co ps =
      length-rows (boundary_size (scene_of b)) (boundary_answer (scene_of b) co ps)
      (λ j. boundary_answer_width (axes_of b) (boundary (scene_of b) j))
      (length-boundary b co ps)
      ∙ ap sum (table-map (boundary_answer_width (axes_of b)) (scene_of b).boundary_particles no_boundary_particle)

  pub length_answers : length (answers_of (scene_of b)) ≡ answers_needed (scene_of b)
  unfolding answers_of answers_from answers_needed scene_of header_of
  length_answers = simp length-append (cc (length_fluids _ _, length_boundaries _ _))

-- ---- both lists keep what stands behind the needed lengths, whatever the step answers

behind : (t : Bool) (xs old : List Float) (n : ℕ) → length xs ≡ n
    → drop n (choose t (xs ++ drop n old) old) ≡ drop n old
unfolding choose
behind true xs old n h = drop_at xs _ n h
behind false xs old n h = refl

module _ (b : List ℕ) (answers work : ℕ) (old : List Float) where
  pub beyond_answers : drop (answers_needed (scene_of b)) (answers_after b answers work old)
      ≡ drop (answers_needed (scene_of b)) old
  unfolding answers_after
  beyond_answers = behind _ (answers_of (scene_of b)) old (answers_needed (scene_of b)) (length_answers b)

  pub beyond_work : drop (work_needed (scene_of b)) (work_after b answers work old) ≡ drop (work_needed (scene_of b))
      old
  unfolding work_after
  beyond_work = behind _ (replicate (work_needed (scene_of b)) +0) old (work_needed (scene_of b))
      (length-replicate (work_needed (scene_of b)) +0)
