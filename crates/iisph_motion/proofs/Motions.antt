-- The motion and the answers of a fluid particle from the results of the code's calls: what the record holds and what
-- the operations make of it is the rule's, and the stores one after the other are those of the answers. Assumes
-- nothing.
use Prim.Native.Nat.{ℕ, ◌+◌, ◌*◌, ◌<◌, ◌≤◌}
use mathlib.Core.Path.{◌≡◌, sym, ap, ◌∙◌}
use mathlib.Core.List.{List, [], ◌∷◌, ◌++◌}
use native.Mathlib.Nat.{add-zero}
use native.Mathlib.Omega.{arith}
use lib.Ieee.{Float, nan}
use lib.ListN.{length, set}
use lib.Seq.{sets}
use Rattle.iisph_pressures.specs.IterationRows.{pressures_in}
use Rattle.iisph_pressures.proofs.IterationReads.{pressure_in}
use Rattle.iisph_rows.proofs.Particles.{velocity_at}
use Rattle.iisph_rows.specs.Rows.{pressure_slot, row_at, element_at}
use Rattle.iisph_rules.specs.Coefficients.{dt, coefficients}
use Rattle.iisph_rules.specs.Step.{final_velocity_change, new_velocity, new_position, fluid_answer}
use Rattle.lists.specs.Stores.{in_rows, stored}
use Rattle.lists.proofs.Fills.{sets-append}
use Rattle.lists.proofs.Stores.{stored_next, slots_in_row}
use Rattle.math.specs.Vector.{space, Axes, Vector, coordinates, ◌⊞◌, ◌⊡◌}
use Rattle.math.specs.declared.Vec3.{Vec3}
use Rattle.math.proofs.Vectors.{Sized, coordinates_sized}
use Rattle.scene_check.specs.Accepted.{FluidParticleOk}
use Rattle.scene_format.specs.Bytes.{AllFinite, vector_at}
use Rattle.scene_format.specs.Format.{axes_of, velocity_offset, Location}
use Rattle.scene_format.specs.Scene.{Scene, particle}
use Rattle.scene_format.specs.SceneOf.{fluid_particle_at, scene_of}
use Rattle.scene_format.proofs.Forms.{axes_of_lem}
use Rattle.scene_lengths.specs.Lengths.{fluid_answer_width}
use Rattle.iisph_motion.specs.Motions.{MotionIs}
use Rattle.iisph_motion.specs.declared.answers.Motion.{Motion}

-- ---- motion

module _ {b : List ℕ} {d : ℕ} (axes : d ≡ axes_of b) {p : Location} {i : ℕ} (h : FluidParticleOk b p i) where
  position_at : vector_at d b p.at ≡ (particle (scene_of b) i).position
  unfolding fluid_particle_at
  position_at = rw (h.particle, axes)

  -- what a read of the position asks
  pub position_read : Axes d × AllFinite b p.at d
  position_read = rw axes (axes_of_lem b, h.own.position)

  -- the change; v is the velocity before, at the offset o of the record, x after it, y the position before
  module _ (ps : List Float) {change v x : Vector}
      (ce : change ≡ final_velocity_change (scene_of b) (coefficients (scene_of b)) ps i) {o : ℕ}
      (oe : o ≡ velocity_offset d)
      (ve : v ≡ vector_at d b (p.at + o)) (xe : x ≡ v ⊞ change) where
    pub velocity_made : x ≡ new_velocity (scene_of b) (coefficients (scene_of b)) ps i
    unfolding new_velocity
    velocity_made = xe ∙ rw (ve, velocity_at axes h oe, ce)

    pub position_made : {t : Float} {y w z : Vector} → t ≡ dt (scene_of b) → y ≡ vector_at d b p.at → w ≡ x ⊡ t
        → z ≡ y ⊞ w
        → z ≡ new_position (scene_of b) (coefficients (scene_of b)) ps i
    unfolding new_position
    position_made te ye we ze = ze ∙ rw (we, ye, position_at, velocity_made, te)

-- ---- answers

-- the stores of two vectors of d axes and a number
stores_are : {d : ℕ} (u v : Vector) (x : Float) (k : ℕ) (l : List Float) {l₁ l₂ : List Float} → Sized d u → Sized d v
    → l₁ ≡ sets l k u → l₂ ≡ sets l₁ (k + d) v
    → set l₂ (k + 2 * d) x ≡ sets l k (u ++ (v ++ (x ∷ [])))
stores_are {d} u v x k l {l₂ = l₂} us vs e₁ e₂ =
    let q : k + 2 * d ≡ k + length u + length v = omega (arith, us, vs) in
    let both : l₂ ≡ sets (sets l k u) (k + length u) v = e₂ ∙ rw (e₁, us) in
    rw (q, both)
    (sym (sets-append u (v ++ (x ∷ [])) l k ∙ sets-append v (x ∷ []) (sets l k u) (k + length u)))

answer_same : {u u' v v' : Vector} {x x' : Float} (k : ℕ) (l : List Float) → u ≡ u' → v ≡ v' → x ≡ x'
    → sets l k (u ++ (v ++ (x ∷ []))) ≡ sets l k (u' ++ (v' ++ (x' ∷ [])))
answer_same k l ue ve xe = rw (ue, ve, xe)

-- the answers stand from element w * i on; of the vectors each takes a elements
pub answer_made : {s : Scene} {d n : ℕ} → d ≤ space → (work : List Float) {i : ℕ} → i < n → {motion : Motion}
    → MotionIs s d (pressures_in d n work) i motion
    → (l : List Float) {l₁ l₂ : List Float} {w a row slot : ℕ} → w ≡ fluid_answer_width d → a ≡ d → row ≡ row_at d i
    → slot ≡ pressure_slot d
    → l₁ ≡ sets l (w * i) (coordinates d motion.position)
    → l₂ ≡ sets l₁ (w * i + a) (coordinates d motion.velocity)
    → set l₂ (w * i + 2 * a) (element_at work (row + slot))
    ≡ sets l (fluid_answer_width d * i) (fluid_answer s (coefficients s) (pressures_in d n work) i)
unfolding fluid_answer
answer_made {s} {d} {n} few work {i} h {motion} m l {w = w} {a} {row} {slot} we ae re se e₁ e₂ =
    let sized : (v : Vec3) → Sized a (coordinates d v) = λ v. coordinates_sized d v few ∙ sym ae in
    stores_are (coordinates d motion.position) (coordinates d motion.velocity) (element_at work (row + slot))
    (w * i) l (sized motion.position) (sized motion.velocity) e₁ e₂
    ∙ answer_same (w * i) l m.position m.velocity (rw (re, se) (pressure_in d work i h))
    ∙ ap (λ (w : ℕ). sets l (w * i) (fluid_answer s (coefficients s) (pressures_in d n work) i)) we

-- so many there is room for
pub answer_room : (d i : ℕ) {w m : ℕ} → w ≡ fluid_answer_width d → fluid_answer_width d * i + fluid_answer_width d ≤ m
    → w * i + w ≤ m
answer_room d i e h = rw e h

-- one particle more, each w elements wide
pub answers_next : (w : ℕ) (f : ℕ → List Float) (l : List Float) (i : ℕ) {x y : List Float}
    → x ≡ stored w i 0 f l → y ≡ sets x (w * i) (f i)
    → y ≡ stored w (i + 1) 0 f l
answers_next w f l i {x} e q =
    stored_next nan (in_rows w) 0 f l i e
    (q
    ∙ ap (λ (k : ℕ). sets x k (f i)) (sym (add-zero (w * i)))
    ∙ sym (slots_in_row w i (f i) x 0))
