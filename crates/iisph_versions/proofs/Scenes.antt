-- Two packed scenes that are the same but for version and rule stand for one scene, but for criterion and summation:
-- their bytes are the same behind byte 1, so whatever is read there is, and from one offset on both lead through the
-- same offsets, all behind it. By the steps from one offset to the next, and for records by the laws of scene_check on
-- their own bytes. Assumes nothing.
use Prim.Native.Nat.{ℕ, zero, suc, ◌+◌, ◌-◌, ◌<◌, ◌≤◌}
use mathlib.Core.Path.{◌≡◌, refl, sym, ap, ◌∙◌}
use mathlib.Core.List.{List, map, flatten}
use native.Mathlib.Omega.{arith}
use lib.ListN.{length, get_or}
use Rattle.lists.specs.Lists.{iter, trail, starts_from}
use Rattle.lists.proofs.Lists.{table_same, table-map}
use Rattle.scene_format.specs.Bytes.{be16_at, double_width, double_at}
use Rattle.scene_format.specs.Format.{axes_of, rule_of, criterion_of, summation_of, min_pressure_iter_offset}
use Rattle.scene_format.specs.Format.{max_pressure_iter_offset, total_step_size_offset, remaining_time_offset}
use Rattle.scene_format.specs.Format.{max_density_error_offset, gravity_offset}
use Rattle.scene_format.specs.Format.{vector_width, header_width, density0_offset, particles_at}
use Rattle.scene_format.specs.Format.{keeps_at, contact_count, boundary_contact_count, own_width, contacts_width}
use Rattle.scene_format.specs.Format.{first_record}
use Rattle.scene_format.specs.Format.{next_record, model_end, first_head, head_at, heads_of, counts_of, Location}
use Rattle.scene_format.specs.Format.{model_locations, locations_of, nowhere, location_of}
use Rattle.scene_format.specs.SceneOf.{fluid_particle_at, boundary_particle_at, header_of, scene_of}
use Rattle.scene_format.specs.declared.Kind.{Kind}
use Rattle.scene_format.specs.declared.Kind.TheVariants.{Fluid, Boundary}
use Rattle.scene_check.specs.Same.{SameBytes, SameRecord}
use Rattle.scene_check.proofs.OwnBytes.{same_be16, same_double, same_vector, same_fluid-particle, same_kept_particle}
use Rattle.scene_layout.proofs.Locations.{each_location}
use Rattle.iisph_versions.specs.Versions.{SameButForm, header_by, scene_by, SameScenes, SameLocations}

-- ---- steps from offset to offset

-- from every offset behind byte 1 both steps lead to one, behind byte 1 too
abbrev Forward : (ℕ → ℕ) → (ℕ → ℕ) → Type 0
Forward g g' = (at : ℕ) → 2 ≤ at → (g at ≡ g' at) × (2 ≤ g at)

module _ {g g' : ℕ → ℕ} (s : Forward g g') where
  iter_forward : (n : ℕ) → Forward (iter n g) (iter n g')
  unfolding iter
  iter_forward zero at h = (refl, h)
  iter_forward (suc n) at h =
      let (e, k) = s at h in
      let (e', k') = iter_forward n (g at) k in
      (e' ∙ ap (iter n g') e, k')

  -- what is read off each offset on the way
  trail_read : {A : Type 0} {f f' : ℕ → A} → ((at : ℕ) → 2 ≤ at → f at ≡ f' at) → (n at : ℕ) → 2 ≤ at
      → map f (trail n g at) ≡ map f' (trail n g' at)
  unfolding trail
  trail_read r zero at h = refl
  trail_read r (suc n) at h = cc (r at h, trail_read r n (g at) (s at h).1, (s at h).0)

-- a list's values, by number
map_same : {A B : Type 0} (f f' : A → B) (xs : List A) (d : A)
    → ((i : ℕ) → i < length xs → f (get_or xs i d) ≡ f' (get_or xs i d)) → map f xs ≡ map f' xs
map_same f f' xs d h = sym (table-map f xs d) ∙ table_same (length xs) _ _ h ∙ table-map f' xs d

module _ {b b' : List ℕ} (s : SameButForm b b') where
  -- ---- what is read behind byte 1

  pub bytes_from : (at n : ℕ) → 2 ≤ at → SameBytes b at b' at n
  bytes_from at n h = record { each = λ k l. s.behind (at + k) (omega arith) }

  pub be16_same : (at : ℕ) → 2 ≤ at → be16_at b at ≡ be16_at b' at
  be16_same at h = same_be16 (bytes_from at 2 h) (omega arith)

  double_same : (at : ℕ) → 2 ≤ at → double_at b at ≡ double_at b' at
  double_same at h = same_double (bytes_from at double_width h) (omega arith)

  pub particles_at_same : (κ : Kind) (head : ℕ) → 2 ≤ head → particles_at κ b head ≡ particles_at κ b' head
  particles_at_same κ head h = cc (be16_same head h)

  pub keeps_at_same : (head : ℕ) → 2 ≤ head → keeps_at b head ≡ keeps_at b' head
  keeps_at_same head h = cc (be16_same head h)

  pub contact_count_same : (κ : Kind) (at : ℕ) → 2 ≤ at → contact_count κ b at ≡ contact_count κ b' at
  contact_count_same κ at h = rw (← s.axes) (s.behind _ (omega arith))

  pub boundary_contact_count_same : (k at : ℕ) → 2 ≤ at → boundary_contact_count b k at ≡ boundary_contact_count b' k at
  boundary_contact_count_same k at h = rw (← s.axes) (s.behind _ (omega arith))

  -- ---- where records and models stand

  record_forward : (κ : Kind) (head : ℕ) → 2 ≤ head → Forward (next_record κ b head) (next_record κ b' head)
  unfolding next_record own_width contacts_width
  record_forward Fluid head l at h =
      (cc (s.axes, contact_count_same Fluid at h, contact_count_same Boundary at h), omega arith)
  record_forward Boundary head l at h =
      (cc (s.axes, keeps_at_same head l, boundary_contact_count_same (keeps_at b head) at h), omega arith)

  model_forward : (κ : Kind) → Forward (model_end κ b) (model_end κ b')
  unfolding model_end
  model_forward κ head h =
      rw (← particles_at_same κ head h) (iter_forward (record_forward κ head h) _ (first_record κ head) (omega arith))

  first_head_lem : (κ : Kind) → (first_head κ b ≡ first_head κ b') × (2 ≤ first_head κ b)
  unfolding first_head
  first_head_lem Fluid = (ap header_width s.axes, omega arith)
  first_head_lem Boundary =
      rw (← s.models Fluid, ← s.axes) (iter_forward (model_forward Fluid) _ (header_width (axes_of b)) (omega arith))

  heads_read : (κ : Kind) {A : Type 0} {f f' : ℕ → A} → ((head : ℕ) → 2 ≤ head → f head ≡ f' head)
      → map f (heads_of κ b) ≡ map f' (heads_of κ b')
  unfolding heads_of
  heads_read κ r =
      let (e, h) = first_head_lem κ in
      rw (← s.models κ, ← e) (trail_read (model_forward κ) r _ _ h)

  pub counts_same : (κ : Kind) → counts_of κ b ≡ counts_of κ b'
  unfolding counts_of
  counts_same κ = heads_read κ (particles_at_same κ)

  model_locations_same : (κ : Kind) (head : ℕ) → 2 ≤ head → model_locations κ b head ≡ model_locations κ b' head
  unfolding model_locations
  model_locations_same κ head h =
      rw (← particles_at_same κ head h)
      (trail_read (record_forward κ head h) (λ at _. refl) _ (first_record κ head) (omega arith))

  pub locations_same : (κ : Kind) → locations_of κ b ≡ locations_of κ b'
  unfolding locations_of
  locations_same κ = ap flatten (heads_read κ (model_locations_same κ))

  -- every record stands behind byte 1, and so does its model's head
  location_behind : (κ : Kind) (i : ℕ) → i < length (locations_of κ b)
      → (2 ≤ (location_of κ b i).head) × (2 ≤ (location_of κ b i).at)
  location_behind κ =
      each_location κ b (λ p. (2 ≤ p.head) × (2 ≤ p.at))
      (λ m _ j _.
      let h = (iter_forward (model_forward κ) m _ (first_head_lem κ).1).1 in
      (h, (iter_forward (record_forward κ (head_at κ b m) h) j (first_record κ (head_at κ b m)) (omega arith)).1))

  -- ---- the scene

  record_same : (κ : Kind) (p : Location) → 2 ≤ p.head → 2 ≤ p.at → SameRecord κ b p b' p
  record_same κ p l h =
      record { long = ap (λ n. n - p.at) (record_forward κ p.head l p.at h).0; bytes = bytes_from p.at _ h }

  header_same : header_of b' ≡ header_by (criterion_of (rule_of b')) (summation_of (rule_of b')) (header_of b)
  unfolding header_of header_by
  header_same =
      cc (
        s.axes,
        s.behind min_pressure_iter_offset (omega arith),
        s.behind max_pressure_iter_offset (omega arith),
        double_same total_step_size_offset (omega arith),
        double_same remaining_time_offset (omega arith),
        double_same max_density_error_offset (omega arith),
        same_vector (axes_of b) (bytes_from gravity_offset (vector_width (axes_of b)) (omega arith)) (omega arith),
      )

  -- what is read of each record
  locations_read : (κ : Kind) {A : Type 0} (f f' : Location → A)
      → ((p : Location) → 2 ≤ p.head → 2 ≤ p.at → f p ≡ f' p) → map f (locations_of κ b) ≡ map f' (locations_of κ b')
  locations_read κ f f' r =
      map_same f f' (locations_of κ b) nowhere (λ i l. let (k, h) = location_behind κ i l in r (location_of κ b i) k h)
      ∙ ap (map f') (locations_same κ)

  fluid_particles_same : (fs bs : List ℕ)
      → map (fluid_particle_at fs bs b) (locations_of Fluid b) ≡ map (fluid_particle_at fs bs b')
      (locations_of Fluid b')
  fluid_particles_same fs bs =
      locations_read Fluid _ _
      (λ p l h.
      same_fluid-particle fs bs s.axes
      (record {
        density0 = bytes_from (p.head + density0_offset) double_width (omega arith);
        own = record_same Fluid p l h;
      }))

  boundary_particles_same : map (boundary_particle_at b) (locations_of Boundary b)
      ≡ map (boundary_particle_at b') (locations_of Boundary b')
  boundary_particles_same =
      locations_read Boundary _ _
      (λ p l h. same_kept_particle s.axes (keeps_at_same p.head l) (record_same Boundary p l h))

pub same_locations : SameLocations
same_locations b b' s = locations_same s

pub same_scenes : SameScenes
unfolding scene_of scene_by
same_scenes b b' s =
    cc (
      header_same s,
      counts_same s Fluid,
      counts_same s Boundary,
      fluid_particles_same s (starts_from 0 (counts_of Fluid b)) (starts_from 0 (counts_of Boundary b)),
      boundary_particles_same s,
    )
