-- What the index says of a record, and of the particle that a contact names: each is the one section of Indexed that
-- holds it, taken at its number. Assumes nothing.
use Prim.Native.Nat.{ℕ, ◌+◌, ◌*◌, ◌/◌, ◌%◌, ◌<◌, ◌≤◌}
use mathlib.Core.Path.{◌≡◌, ◌∙◌}
use mathlib.Core.List.{List, map}
use native.Mathlib.Omega.{arith}
use lib.ListN.{length, get_or, length-map}
use Rattle.lists.specs.Stores.{Part}
use Rattle.lists.proofs.Lists.{table_at}
use Rattle.lists.proofs.Numbering.{get_d_map, length_starts}
use Rattle.scene_check.specs.Accepted.{TargetOk}
use Rattle.scene_check.proofs.Accepted.{accepted}
use Rattle.scene_check.proofs.Records.{boundary-particle_ok}
use Rattle.scene_format.specs.Bytes.{AllFinite, vector_at}
use Rattle.scene_format.specs.Format.{axes_of, most_of_a_kind, nameable_particles, counts_of, starts_of, Location}
use Rattle.scene_format.specs.Format.{nowhere}
use Rattle.scene_format.specs.Format.{locations_of, location_of}
use Rattle.scene_format.specs.Scene.{fluid_size, boundary_size, size_of, boundary}
use Rattle.scene_format.specs.SceneOf.{target_at, boundary_particle_at, scene_of}
use Rattle.scene_format.specs.Within.{NameIs}
use Rattle.scene_format.specs.declared.ContactName.{ContactName}
use Rattle.scene_format.specs.declared.Kind.{Kind}
use Rattle.scene_format.specs.declared.Kind.TheVariants.{Fluid, Boundary}
use Rattle.scene_layout.proofs.Locations.{length_counts, size_locations}
use Rattle.scene_walk.specs.Accepted.{HeaderOk}
use Rattle.scene_index.specs.Index.{block_size, model_blocks, bases_length, bases_at, heads_at, records_at}
use Rattle.scene_index.specs.Index.{index_needed, base_of, bases_of, entry_of, Indexed}
use Rattle.scene_index.proofs.Sections.{length_bases, bases_part, records_part, heads_part}
use Rattle.scene_index.proofs.Sections.{records_begin, heads_begin, boundary_records_begin}
use Rattle.scene_index.specs.declared.index.Entry.{Entry}
use Rattle.scene_index.specs.declared.index.Entry.TheVariants.{Offset, Head}

-- ---- targets

-- a block's model, its number among the model's blocks, and a particle's number by its block
block_split : (m p : ℕ) → p < nameable_particles
    → let x = model_blocks * m + p / block_size in
    (x / model_blocks ≡ m) × (x % model_blocks ≡ p / block_size) × (block_size * (p / block_size) + p % block_size ≡ p)
block_split m p h = (omega arith, omega arith, omega arith)

module _ {b index : List ℕ} (ix : Indexed b index) (κ : Kind) (at : ℕ) where
  -- the bases of a kind are within the index
  within : (κ : Kind) → bases_at κ b + bases_length κ b ≤ index_needed b
  within Fluid = omega arith
  within Boundary = omega arith

  -- the block of a name that is there is one of the kind's
  block_below : {name : ContactName} → NameIs b at name → TargetOk κ b at
      → model_blocks * name.model.0 + name.particle.0 / block_size < bases_length κ b
  block_below {name} is ready =
      let few : name.particle.0 < nameable_particles = omega (arith, is.particle) in
      omega (arith, ready.model, length_starts 0 (counts_of κ b), length_counts κ b, is.model)

  target_is : {name : ContactName} → NameIs b at name → TargetOk κ b at
      → let p = name.particle.0 in
      let x = model_blocks * name.model.0 + p / block_size in
      get_or index (bases_at κ b + x) 0 + p % block_size ≡ target_at (starts_of κ b) b at
  unfolding target_at bases_of base_of
  target_is {name} is ready =
      let m = name.model.0 in
      let p = name.particle.0 in
      let x = model_blocks * m + p / block_size in
      let starts = starts_of κ b in
      let few : p < nameable_particles = omega (arith, is.particle) in
      let below : x < bases_length κ b = block_below is ready in
      let (model, number, whole) = block_split m p few in
      let held : get_or index (bases_at κ b + x) 0 ≡ get_or starts m 0 + block_size * (p / block_size) =
      (bases_part ix κ).holds x (rw (length_bases b κ) below)
      ∙ table_at (bases_length κ b) (base_of starts) x 0 below ∙ rw (model, number) in
      rw (← is.model, ← is.particle) (omega (arith, held, whole))

  -- the bases of the kind begin at `from`
  pub base_found : {name : ContactName} → NameIs b at name → TargetOk κ b at → {from : ℕ} → from ≡ bases_at κ b
      → let p = name.particle.0 in
      let x = model_blocks * name.model.0 + p / block_size in
      (from + x < length index) × (get_or index (from + x) 0 + p % block_size ≡ target_at (starts_of κ b) b at)
  base_found is ready e = rw e (base_below (block_below is ready), target_is is ready)
    where
      base_below : {x : ℕ} → x < bases_length κ b → bases_at κ b + x < length index
      base_below h = omega (arith, ix.room, within κ)

  pub target_few : TargetOk κ b at → target_at (starts_of κ b) b at < most_of_a_kind
  unfolding size_of
  target_few ready = omega (arith, few κ, ready.below)
    where
      few : (κ : Kind) → size_of κ (scene_of b) ≤ most_of_a_kind
      few Fluid = ix.few_fluid
      few Boundary = ix.few_boundary

-- the number j that a contact of each kind names is one of the scene's
module _ {κ : Kind} {b : List ℕ} {at j : ℕ} (ready : TargetOk κ b at)
    (named : j ≡ target_at (starts_of κ b) b at) where
  pub fluid_named : κ ≡ Fluid → j < fluid_size (scene_of b)
  unfolding size_of
  fluid_named e = let h = rw e at ready.below in rw (named, e) h

  pub boundary_named : κ ≡ Boundary → j < boundary_size (scene_of b)
  unfolding size_of
  boundary_named e = let h = rw e at ready.below in rw (named, e) h

-- ---- records, found through the index

section_entry : (entry : Entry) (k : ℕ) {index : List ℕ} (ps : List Location) → Part 0 k (map (entry_of entry) ps) index
    → (i : ℕ)
    → i < length ps → get_or index (k + i) 0 ≡ entry_of entry (get_or ps i nowhere)
section_entry entry k ps s i h = s.holds i (rw length-map h) ∙ get_d_map (entry_of entry) ps i nowhere 0 h

module _ {b index : List ℕ} (ix : Indexed b index) where
  pub header_indexed : HeaderOk b
  header_indexed = (accepted b ix.accepted).fields.header

  record_at_lem : (κ : Kind) (i : ℕ) → i < size_of κ (scene_of b)
      → get_or index (records_at κ b + i) 0 ≡ (location_of κ b i).at
  unfolding entry_of
  record_at_lem κ i h =
      section_entry Offset (records_at κ b) (locations_of κ b) (records_part ix κ) i (rw (size_locations b κ) at h)

  head_at_lem : (i : ℕ) → i < fluid_size (scene_of b) → get_or index (heads_at b + i) 0 ≡ (location_of Fluid b i).head
  unfolding entry_of size_of
  head_at_lem i h =
      section_entry Head (heads_at b) (locations_of Fluid b) (heads_part ix) i (rw (size_locations b Fluid) at h)

  -- ---- through where their sections begin

  record_below : (κ : Kind) (i : ℕ) → i < size_of κ (scene_of b) → records_at κ b + i < length index
  unfolding size_of
  record_below Fluid i h = omega (arith, ix.room)
  record_below Boundary i h = omega (arith, ix.room)

  module _ {κ : Kind} (i : ℕ) (h : i < size_of κ (scene_of b)) where
    pub fluid_record_found : κ ≡ Fluid
        → (get_or index 1 0 + i < length index) × (get_or index (get_or index 1 0 + i) 0 ≡ (location_of κ b i).at)
    fluid_record_found e =
        let below : i < size_of Fluid (scene_of b) = rw e at h in
        (rw (records_begin ix) (record_below Fluid i below), rw (records_begin ix, e) (record_at_lem Fluid i below))

    pub boundary_record_found : κ ≡ Boundary
        → (get_or index 3 0 + i < length index) × (get_or index (get_or index 3 0 + i) 0 ≡ (location_of κ b i).at)
    boundary_record_found e =
        let below : i < size_of Boundary (scene_of b) = rw e at h in (
          rw (boundary_records_begin ix) (record_below Boundary i below),
          rw (boundary_records_begin ix, e) (record_at_lem Boundary i below),
        )

  pub head_found : (i : ℕ) → i < fluid_size (scene_of b)
      → (get_or index 2 0 + i < length index) × (get_or index (get_or index 2 0 + i) 0 ≡ (location_of Fluid b i).head)
  head_found i h = (rw (heads_begin ix) (omega (arith, ix.room)), rw (heads_begin ix) (head_at_lem i h))

-- ---- a boundary particle's record, where the index says

module _ {b index : List ℕ} (ix : Indexed b index) {j at : ℕ} (h : j < boundary_size (scene_of b))
    (e : at ≡ (location_of Boundary b j).at) where
  pub boundary-velocity_finite : AllFinite b at (axes_of b)
  boundary-velocity_finite = rw e (boundary-particle_ok b ix.accepted j h).own.velocity

  pub boundary-velocity_at : vector_at (axes_of b) b at ≡ (boundary (scene_of b) j).velocity
  unfolding boundary_particle_at
  boundary-velocity_at = rw (e, (boundary-particle_ok b ix.accepted j h).boundary)
