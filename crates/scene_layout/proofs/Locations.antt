-- The particles of a packed scene by their numbers: how many there are, where the record of each stands, and what the
-- scene says of it. The models of a kind are joined by the laws of Numbering, once for both kinds. Assumes nothing.
use Prim.Native.Nat.{ℕ, ◌+◌, ◌<◌, ◌≤◌}
use mathlib.Core.Path.{◌≡◌, refl, sym, ap, subst, ◌∙◌}
use mathlib.Core.List.{List, [], ◌∷◌, map}
use native.Mathlib.Omega.{arith}
use lib.ListN.{length, get_or, length-map, get_or-eq_default}
use Rattle.lists.specs.Lists.{sum, trail}
use Rattle.lists.proofs.Numbering.{length-trail, trail_at, get_d_map, sum_few, Numbered, numbered, length-flatten}
use Rattle.lists.proofs.Numbering.{flatten_at}
use Rattle.scene_format.specs.Format.{most_models, most_particles, most_of_a_kind, rule_of, criterion_of, summation_of}
use Rattle.scene_format.specs.Format.{model_number, particles_at, keeps_at}
use Rattle.scene_format.specs.Format.{first_record, next_record, model_end, first_head, head_at, heads_of, counts_of}
use Rattle.scene_format.specs.Format.{keeps_of}
use Rattle.scene_format.specs.Format.{starts_of, Location, record_at, model_locations, locations_of, nowhere}
use Rattle.scene_format.specs.Format.{location_of}
use Rattle.scene_format.specs.Scene as Scene
use Rattle.scene_format.specs.Scene.{no_fluid_particle, no_boundary_particle, fluid_size, boundary_size, size_of}
use Rattle.scene_format.specs.SceneOf.{fluid_particle_at, boundary_particle_at, header_of, scene_of}
use Rattle.scene_format.specs.declared.Kind.{Kind}
use Rattle.scene_format.specs.declared.Kind.TheVariants.{Fluid, Boundary}
use Rattle.scene_walk.proofs.Walked.{EachRecord}

-- ---- models

module _ (κ : Kind) (b : List ℕ) where
  pub length_model : (head : ℕ) → length (model_locations κ b head) ≡ particles_at κ b head
  unfolding model_locations
  length_model head = simp (length-map, length-trail)

  model_at : (head j : ℕ) → j < particles_at κ b head → get_or (model_locations κ b head) j nowhere ≡ record_at κ b
      head j
  unfolding model_locations
  model_at head j h =
      let t = trail (particles_at κ b head) (next_record κ b head) (first_record κ head) in
      get_d_map _ t j 0 nowhere (rw length-trail h)
      ∙ ap (λ at. record { head = head; at = at }) (trail_at (next_record κ b head) _ _ j h)

  model_lengths : (heads : List ℕ) → map length (map (model_locations κ b) heads) ≡ map (particles_at κ b) heads
  model_lengths [] = refl
  model_lengths (head ∷ heads) = simp (length_model head, model_lengths heads)

  pub length_heads : length (heads_of κ b) ≡ model_number κ b
  unfolding heads_of
  length_heads = length-trail (model_end κ b) (model_number κ b) (first_head κ b)

  pub heads_at_lem : (m : ℕ) → m < model_number κ b → get_or (heads_of κ b) m 0 ≡ head_at κ b m
  unfolding heads_of
  heads_at_lem = trail_at (model_end κ b) (model_number κ b) (first_head κ b)

  pub length_counts : length (counts_of κ b) ≡ model_number κ b
  unfolding counts_of
  length_counts = length-map (heads_of κ b) _ ∙ length_heads

  -- what is read off a head, of model m
  pub mapped_at : {A : Type 0} (f : ℕ → A) (d : A) (m : ℕ) → m < model_number κ b
      → get_or (map f (heads_of κ b)) m d ≡ f (head_at κ b m)
  mapped_at f d m h = get_d_map f (heads_of κ b) m 0 d (rw length_heads h) ∙ ap f (heads_at_lem m h)

  pub counts_at : (m : ℕ) → m < model_number κ b → get_or (counts_of κ b) m 0 ≡ particles_at κ b (head_at κ b m)
  unfolding counts_of
  counts_at = mapped_at (particles_at κ b) 0

  pub keeps_of_lem : (m : ℕ) → m < model_number κ b → get_or (keeps_of κ b) m 0 ≡ keeps_at b (head_at κ b m)
  unfolding keeps_of
  keeps_of_lem = mapped_at (keeps_at b) 0

  -- the number of records is the sum of the counts
  pub length_locations : length (locations_of κ b) ≡ sum (counts_of κ b)
  unfolding locations_of counts_of
  length_locations = length-flatten (map (model_locations κ b) (heads_of κ b)) ∙ ap sum (model_lengths (heads_of κ b))

  -- record j of model m
  pub location_at : (m j : ℕ) → m < model_number κ b → j < get_or (counts_of κ b) m 0
      → location_of κ b (get_or (starts_of κ b) m 0 + j) ≡ record_at κ b (head_at κ b m) j
  unfolding locations_of counts_of
  location_at m j h c =
      let models = map (model_locations κ b) (heads_of κ b) in
      let k : j < particles_at κ b (head_at κ b m) = rw (mapped_at (particles_at κ b) 0 m h) at c in
      let e = mapped_at (model_locations κ b) [] m h in
      rw (← model_lengths (heads_of κ b))
      (flatten_at models m j nowhere (rw (length-map, length_heads) h) (rw (e, length_model) k)
      ∙ ap (λ ps. get_or ps j nowhere) e
      ∙ model_at (head_at κ b m) j k)

  -- at most 8 models of at most 4,096 particles
  pub locations_few : model_number κ b ≤ most_models
      → ((m : ℕ) → m < model_number κ b → particles_at κ b (head_at κ b m) ≤ most_particles)
      → length (locations_of κ b) ≤ most_of_a_kind
  locations_few l few = omega (arith, length_locations, length_counts, sum_few most_particles (counts_of κ b) each)
    where
      each : (m : ℕ) → m < length (counts_of κ b) → get_or (counts_of κ b) m 0 ≤ most_particles
      each m h = let k : m < model_number κ b = rw length_counts at h in rw (counts_at m k) (few m k)

  -- what holds of each record of each model holds of each location
  pub each_location : (P : Location → Type 0) → ((m : ℕ) → m < model_number κ b → EachRecord κ b (head_at κ b m) P)
      → (i : ℕ) → i < length (locations_of κ b) → P (location_of κ b i)
  each_location P h i l = go (numbered (counts_of κ b) i (rw length_locations at l))
    where
      go : Numbered (counts_of κ b) i → P (location_of κ b i)
      go s =
          let m : s.model < model_number κ b = rw length_counts at s.is_model in
          let e = ap (λ k. location_of κ b k) s.flat in
          subst P (sym (location_at s.model s.number m s.is_number) ∙ e)
          (h s.model m s.number (rw (counts_at s.model m) at s.is_number))

-- ---- the scene's particles

module _ (b : List ℕ) where
  pub scene_header : (scene_of b).header ≡ header_of b
  unfolding scene_of
  scene_header = refl

  pub scene_criterion : (scene_of b).header.criterion ≡ criterion_of (rule_of b)
  unfolding scene_of header_of
  scene_criterion = refl

  pub scene_summation : (scene_of b).header.summation ≡ summation_of (rule_of b)
  unfolding scene_of header_of
  scene_summation = refl

  pub scene_counts : (scene_of b).fluid_counts ≡ counts_of Fluid b
  unfolding scene_of
  scene_counts = refl

  pub size_locations : (κ : Kind) → size_of κ (scene_of b) ≡ length (locations_of κ b)
  unfolding size_of fluid_size boundary_size scene_of
  size_locations Fluid = simp length-map
  size_locations Boundary = simp length-map

  pub size_sum : (κ : Kind) → size_of κ (scene_of b) ≡ sum (counts_of κ b)
  size_sum κ = size_locations κ ∙ length_locations κ b

  -- the same, kind by kind
  pub fluid_size-sum : fluid_size (scene_of b) ≡ sum (counts_of Fluid b)
  unfolding size_of
  fluid_size-sum = size_sum Fluid

  pub boundary_size-sum : boundary_size (scene_of b) ≡ sum (counts_of Boundary b)
  unfolding size_of
  boundary_size-sum = size_sum Boundary

  pub fluid_size_lem : fluid_size (scene_of b) ≡ length (locations_of Fluid b)
  unfolding size_of
  fluid_size_lem = size_locations Fluid

  pub boundary_size_lem : boundary_size (scene_of b) ≡ length (locations_of Boundary b)
  unfolding size_of
  boundary_size_lem = size_locations Boundary

  -- what the scene says of a number in range
  pub particle_at : (i : ℕ) → i < fluid_size (scene_of b)
      → Scene.particle (scene_of b) i ≡ fluid_particle_at (starts_of Fluid b) (starts_of Boundary b) b
      (location_of Fluid b i)
  unfolding Scene.particle scene_of
  particle_at i h = get_d_map _ (locations_of Fluid b) i nowhere no_fluid_particle (rw fluid_size_lem at h)

  pub boundary_at : (j : ℕ) → j < boundary_size (scene_of b)
      → Scene.boundary (scene_of b) j ≡ boundary_particle_at b (location_of Boundary b j)
  unfolding Scene.boundary scene_of
  boundary_at j h = get_d_map _ (locations_of Boundary b) j nowhere no_boundary_particle (rw boundary_size_lem at h)

-- ---- past the end

pub particle_beyond : (s : Scene.Scene) (i : ℕ) → fluid_size s ≤ i → Scene.particle s i ≡ no_fluid_particle
unfolding Scene.particle fluid_size
particle_beyond s i h = get_or-eq_default s.fluid_particles no_fluid_particle h

pub boundary_beyond : (s : Scene.Scene) (j : ℕ) → boundary_size s ≤ j → Scene.boundary s j ≡ no_boundary_particle
unfolding Scene.boundary boundary_size
boundary_beyond s j h = get_or-eq_default s.boundary_particles no_boundary_particle h
