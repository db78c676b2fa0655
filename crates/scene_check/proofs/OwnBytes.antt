-- What a record stands for depends on its own bytes alone: where two packed scenes have the same bytes, at whatever
-- offsets, they have the same doubles, contacts and particles. Field by field; whether a boundary keeps forces stands
-- in no record, and follows from the record's length. Assumes nothing.
use Prim.Native.Nat.{ℕ, zero, suc, ◌+◌, ◌-◌, ◌*◌, ◌<◌, ◌≤◌}
use mathlib.Core.Path.{◌≡◌, refl, sym, ap, ◌∙◌}
use mathlib.Core.Bool.{Bool, true, false}
use mathlib.Core.List.{List}
use mathlib.Core.Logic.{⊎_elim}
use native.Mathlib.Nat.{mul-suc}
use native.Mathlib.Omega.{arith}
use lib.Dec.{ltb}
use borrow.Author.Tests.{ltb-true, ltb-false}
use Rattle.lists.specs.Lists.{starts_from, sum}
use Rattle.lists.proofs.Lists.{table_same}
use Rattle.lists.proofs.Addressings.{rows_apart}
use Rattle.math.specs.Real.{bits}
use Rattle.math.specs.Vector.{Axes}
use Rattle.math.proofs.Vectors.{plane_or_space}
use Rattle.scene_format.specs.Bytes.{Bytes, byte_at, be16_at, be32_at, be64_at, double_width, double_at, vector_at}
use Rattle.scene_format.specs.Format.{axes_of, vector_width, min_pressure_iter_offset, max_pressure_iter_offset}
use Rattle.scene_format.specs.Format.{total_step_size_offset, remaining_time_offset, max_density_error_offset}
use Rattle.scene_format.specs.Format.{gravity_offset}
use Rattle.scene_format.specs.Format.{header_width, keeps_at, weight_offset, gradient_offset, contact_width}
use Rattle.scene_format.specs.Format.{boundary_contact_width, velocity_offset, acceleration_offset, volume_offset}
use Rattle.scene_format.specs.Format.{warm_pressure_offset, contact_count_offset, record_width, contact_count}
use Rattle.scene_format.specs.Format.{force_offset}
use Rattle.scene_format.specs.Format.{boundary_count_offset, boundary_record_width, boundary_contact_count, own_width}
use Rattle.scene_format.specs.Format.{contacts_width, next_record, starts_of, Location, location_of}
use Rattle.scene_format.proofs.Forms.{axes_of_lem}
use Rattle.scene_format.specs.Scene as Scene
use Rattle.scene_format.specs.Scene.{fluid_size, boundary_size}
use Rattle.scene_format.specs.SceneOf.{target_at, contact_at, contact_list, fluid_particle_at, force_at}
use Rattle.scene_format.specs.SceneOf.{boundary_weights}
use Rattle.scene_format.specs.SceneOf.{boundary_particle_at, header_of, scene_of}
use Rattle.scene_format.specs.declared.Kind.{Kind}
use Rattle.scene_format.specs.declared.Kind.TheVariants.{Fluid, Boundary}
use Rattle.scene_check.specs.Same.{SameBytes, SameRecord, SameFluidRecord, SameShape}
use Rattle.scene_layout.proofs.Locations.{scene_header, fluid_size-sum, boundary_size-sum, particle_at, boundary_at}
use Rattle.scene_layout.proofs.Locations.{particle_beyond, boundary_beyond}
use Rattle.scene_check.proofs.Records.{keeps_below}

-- ---- numbers, doubles, vectors

module _ {b b' : List ℕ} {at at' n : ℕ} (s : SameBytes b at b' at' n) where
  -- m of n bytes, from the o-th on
  pub same_part : (o m : ℕ) → o + m ≤ n → SameBytes b (at + o) b' (at' + o) m
  same_part o m h =
      record {
        each = λ k l. ap (byte_at b) (omega arith) ∙ s.each (o + k) (omega arith)
            ∙ ap (byte_at b') (omega arith);
      }

  same_first : 0 < n → byte_at b at ≡ byte_at b' at'
  same_first h = ap (byte_at b) (omega arith) ∙ s.each 0 h ∙ ap (byte_at b') (omega arith)

  pub same_be16 : 2 ≤ n → be16_at b at ≡ be16_at b' at'
  same_be16 h = omega (arith, same_first (omega arith), s.each 1 (omega arith))

  same_be32 : 4 ≤ n → be32_at b at ≡ be32_at b' at'
  same_be32 h =
      omega (arith, same_first (omega arith), s.each 1 (omega arith), s.each 2 (omega arith), s.each 3 (omega arith))

module _ {b b' : List ℕ} where
  pub same_be64 : {at at' n : ℕ} → SameBytes b at b' at' n → double_width ≤ n → be64_at b at ≡ be64_at b' at'
  unfolding be64_at
  same_be64 s h = cc (same_be32 s (omega arith), same_be32 (same_part s 4 4 (omega arith)) (omega arith))

  pub same_double : {at at' n : ℕ} → SameBytes b at b' at' n → double_width ≤ n → double_at b at ≡ double_at b' at'
  unfolding double_at
  same_double s h = ap bits (same_be64 s h)

  pub same_vector : (d : ℕ) {at at' n : ℕ} → SameBytes b at b' at' n → vector_width d ≤ n
      → vector_at d b at ≡ vector_at d b' at'
  unfolding vector_at
  same_vector d s h =
      table_same d _ _ (λ k l. same_double (same_part s (double_width * k) double_width (omega arith)) (omega arith))

  -- ---- contacts

  same_contact : (d : ℕ) (starts : List ℕ) {at at' n : ℕ} → SameBytes b at b' at' n → contact_width d ≤ n
      → contact_at d starts b at ≡ contact_at d starts b' at'
  unfolding contact_at target_at
  same_contact d starts s h =
      cc (
        same_be16 s (omega arith),
        same_double (same_part s weight_offset double_width (omega arith)) (omega arith),
        same_vector d (same_part s gradient_offset (vector_width d) (omega arith)) (omega arith),
      )

  pub same_contacts : (d : ℕ) (starts : List ℕ) {at at' n : ℕ} (m : ℕ) → SameBytes b at b' at' n
      → contact_width d * m ≤ n → contact_list d starts b m at ≡ contact_list d starts b' m at'
  unfolding contact_list
  same_contacts d starts m s h =
      table_same m _ _
      (λ k l. same_contact d starts
      (same_part s (contact_width d * k) (contact_width d) (omega (arith, rows_apart (contact_width d) l)))
      (omega arith))

  -- of boundary particles: the weights
  same_weights : {at at' n : ℕ} (m : ℕ) → SameBytes b at b' at' n → boundary_contact_width * m ≤ n
      → boundary_weights b m at ≡ boundary_weights b' m at'
  same_weights m s h =
      table_same m _ _
      (λ j l. same_double
      (same_part (same_part s (boundary_contact_width * j) boundary_contact_width (omega arith)) weight_offset
      double_width
      (omega arith)) (omega arith))

-- ---- records

module _ {b b' : List ℕ} {p p' : Location} where
  pub same_fluid-particle : (fs bs : List ℕ) → axes_of b ≡ axes_of b' → SameFluidRecord b p b' p'
      → fluid_particle_at fs bs b p ≡ fluid_particle_at fs bs b' p'
  unfolding fluid_particle_at next_record own_width contacts_width
  same_fluid-particle fs bs a h =
      let d = axes_of b in
      let s = h.own.bytes in
      let f = contact_count Fluid b p.at in
      let g = contact_count Boundary b p.at in
      let contacts = same_part s (record_width d) (contact_width d * (f + g)) (omega arith) in
      let second = same_part contacts (contact_width d * f) (contact_width d * g) (omega arith) in
      rw (← a)
      (cc (
        same_double h.density0 (omega arith),
        same_vector d s (omega arith),
        same_vector d (same_part s (velocity_offset d) (vector_width d) (omega arith)) (omega arith),
        same_vector d (same_part s (acceleration_offset d) (vector_width d) (omega arith)) (omega arith),
        same_double (same_part s (volume_offset d) double_width (omega arith)) (omega arith),
        same_double (same_part s (warm_pressure_offset d) double_width (omega arith)) (omega arith),
        s.each (contact_count_offset Fluid d) (omega arith),
        s.each (contact_count_offset Boundary d) (omega arith),
        same_contacts d fs f contacts (omega arith),
        same_contacts d bs g second (omega arith),
      ))

same_force : {b b' : List ℕ} (k : ℕ) {at at' n : ℕ} → axes_of b ≡ axes_of b' → SameBytes b at b' at' n
    → vector_width (axes_of b) * k ≤ n → force_at k b at ≡ force_at k b' at'
unfolding force_at
same_force zero a s h = refl
same_force {b} (suc k) a s h = rw (← a) (same_vector (axes_of b) s (omega (arith, mul-suc (axes_of b) k)))

-- the bytes of a force are no whole number of contacts, so a record with a force is never as long as one without
no_contacts : {d : ℕ} → Axes d → (c c' : ℕ) → boundary_contact_width * c ≡ vector_width d + boundary_contact_width
    * c' → ⊥
no_contacts axes c c' e =
    ⊎_elim (λ f. omega (arith, rw f at e)) (λ f. omega (arith, rw f at e)) (plane_or_space axes)

never_less : {d : ℕ} → Axes d → (k k' c c' : ℕ) → k' < 2 → vector_width d * k + boundary_contact_width * c
    ≡ vector_width d * k' + boundary_contact_width * c' → ¬ (k < k')
never_less {d} axes k k' c c' h e l =
    let none : k ≡ 0 = omega arith in
    let one : k' ≡ 1 = omega arith in
    no_contacts axes c c' (omega (arith, rw (none, one) at e))

same_keeps : {d : ℕ} → Axes d → (k k' c c' : ℕ) → k < 2 → k' < 2 → vector_width d * k + boundary_contact_width * c
    ≡ vector_width d * k' + boundary_contact_width * c' → k ≡ k'
same_keeps axes k k' c c' h h' e =
    omega (arith, never_less axes k k' c c' h' e, never_less axes k' k c' c h (sym e))

-- two records of the same length
kept_lengths : (d d' at at' k k' c c' : ℕ) → d ≡ d'
    → at + boundary_record_width d k + boundary_contact_width * c - at
    ≡ at' + boundary_record_width d' k' + boundary_contact_width * c' - at'
    → vector_width d * k + boundary_contact_width * c ≡ vector_width d * k' + boundary_contact_width * c'
kept_lengths d d' at at' k k' c c' e h = omega (arith, rw (← e) at h)

module _ {b b' : List ℕ} {p p' : Location} where
  pub same_record_keeps : Bytes b → Bytes b' → axes_of b ≡ axes_of b' → SameRecord Boundary b p b' p'
      → keeps_at b p.head ≡ keeps_at b' p'.head
  unfolding next_record own_width contacts_width
  same_record_keeps y y' a h =
      let k = keeps_at b p.head in
      let k' = keeps_at b' p'.head in
      same_keeps (axes_of_lem b) k k' (boundary_contact_count b k p.at) (boundary_contact_count b' k' p'.at)
      (keeps_below b y p.head) (keeps_below b' y' p'.head)
      (kept_lengths (axes_of b) (axes_of b') p.at p'.at k k' _ _ a h.long)

  -- where it is known otherwise that both keep forces or neither does
  pub same_kept_particle : axes_of b ≡ axes_of b' → keeps_at b p.head ≡ keeps_at b' p'.head
      → SameRecord Boundary b p b' p' → boundary_particle_at b p ≡ boundary_particle_at b' p'
  unfolding boundary_particle_at next_record own_width contacts_width
  same_kept_particle a e h =
      let d = axes_of b in
      let s = h.bytes in
      let k = keeps_at b p.head in
      let c = boundary_contact_count b k p.at in
      let contacts = same_part s (boundary_record_width d k) (boundary_contact_width * c) (omega arith) in
      rw (← a, ← e)
      (cc (
        same_vector d s (omega arith),
        same_force k a (same_part s (force_offset d) (vector_width d * k) (omega arith)) (omega arith),
        s.each (boundary_count_offset d k) (omega arith),
        same_weights c contacts (omega arith),
      ))

  pub same_boundary-particle : Bytes b → Bytes b' → axes_of b ≡ axes_of b' → SameRecord Boundary b p b' p'
      → boundary_particle_at b p ≡ boundary_particle_at b' p'
  same_boundary-particle y y' a h = same_kept_particle a (same_record_keeps y y' a h) h

-- ---- two scenes

module _ {b b' : List ℕ} (s : SameBytes b 0 b' 0 (header_width (axes_of b))) where
  -- the version stands in the header
  pub same_axes : axes_of b ≡ axes_of b'
  unfolding axes_of
  same_axes = rw (s.each 0 (omega arith))

  pub same_header : header_of b ≡ header_of b'
  unfolding header_of
  same_header =
      cc (
        same_axes,
        s.each 1 (omega arith),
        s.each min_pressure_iter_offset (omega arith),
        s.each max_pressure_iter_offset (omega arith),
        same_double (same_part s total_step_size_offset double_width (omega arith)) (omega arith),
        same_double (same_part s remaining_time_offset double_width (omega arith)) (omega arith),
        same_double (same_part s max_density_error_offset double_width (omega arith)) (omega arith),
        same_vector (axes_of b) (same_part s gravity_offset (vector_width (axes_of b)) (omega arith)) (omega arith),
      )

below_or_not : {A : Type 0} (i n : ℕ) → (i < n → A) → (n ≤ i → A) → A
below_or_not {A} i n f g = go (ltb i n) refl
  where
    go : (t : Bool) → ltb i n ≡ t → A
    go true q = f (ltb-true i n q)
    go false q = g (ltb-false i n q)

module _ {b b' : List ℕ} (shape : SameShape b b') where
  pub same_scene_header : (scene_of b).header ≡ (scene_of b').header
  same_scene_header = scene_header b ∙ same_header shape.header ∙ sym (scene_header b')

  pub same_starts : (κ : Kind) → starts_of κ b ≡ starts_of κ b'
  same_starts κ = ap (starts_from 0) (shape.counts κ)

  pub same_fluid_size : fluid_size (scene_of b) ≡ fluid_size (scene_of b')
  same_fluid_size = fluid_size-sum b ∙ ap sum (shape.counts Fluid) ∙ sym (fluid_size-sum b')

  pub same_boundary_size : boundary_size (scene_of b) ≡ boundary_size (scene_of b')
  same_boundary_size = boundary_size-sum b ∙ ap sum (shape.counts Boundary) ∙ sym (boundary_size-sum b')

  pub same_particle : (i : ℕ)
      → (i < fluid_size (scene_of b) → SameFluidRecord b (location_of Fluid b i) b' (location_of Fluid b' i))
      → Scene.particle (scene_of b) i ≡ Scene.particle (scene_of b') i
  same_particle i h =
      below_or_not i (fluid_size (scene_of b))
      (λ l.
      particle_at b i l
      ∙ same_fluid-particle (starts_of Fluid b) (starts_of Boundary b) (same_axes shape.header) (h l)
      ∙ cc (same_starts Fluid, same_starts Boundary)
      ∙ sym (particle_at b' i (rw same_fluid_size at l)))
      (λ l. particle_beyond (scene_of b) i l ∙ sym (particle_beyond (scene_of b') i (rw same_fluid_size at l)))

  pub same_boundary : Bytes b → Bytes b' → (j : ℕ)
      → (j < boundary_size (scene_of b) → SameRecord Boundary b (location_of Boundary b j) b'
      (location_of Boundary b' j))
      → Scene.boundary (scene_of b) j ≡ Scene.boundary (scene_of b') j
  same_boundary y y' j h =
      below_or_not j (boundary_size (scene_of b))
      (λ l.
      boundary_at b j l
      ∙ same_boundary-particle y y' (same_axes shape.header) (h l)
      ∙ sym (boundary_at b' j (rw same_boundary_size at l)))
      (λ l. boundary_beyond (scene_of b) j l ∙ sym (boundary_beyond (scene_of b') j (rw same_boundary_size at l)))
