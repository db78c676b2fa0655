-- What an accepted packed scene gives to a step, particle by particle: the doubles of its record are there and finite,
-- its contacts name particles of the scene, and the scene's particle is what its record says. From what Accepted says
-- of each model, through Locations. Assumes nothing.
use Prim.Native.Nat.{ℕ, ◌+◌, ◌<◌, ◌≤◌}
use mathlib.Core.Path.{◌≡◌}
use mathlib.Core.List.{List}
use native.Mathlib.Omega.{arith}
use Rattle.lists.proofs.Numbering.{length_starts, start_below}
use Rattle.scene_format.specs.Bytes.{Bytes}
use Rattle.scene_format.specs.Format.{most_of_a_kind, keeps_at, Location, location_of}
use Rattle.scene_format.specs.Scene.{fluid_size, boundary_size, size_of}
use Rattle.scene_format.specs.SceneOf.{target_at, scene_of}
use Rattle.scene_format.specs.declared.Kind.{Kind}
use Rattle.scene_format.specs.declared.Kind.TheVariants.{Fluid, Boundary}
use Rattle.std.specs.declared.result.Result.TheVariants.{Ok}
use Rattle.scene_check.specs.Accepted.{TargetOk, FluidParticleOk, BoundaryParticleOk}
use Rattle.scene_check.specs.Walk.{checked}
use Rattle.scene_check.proofs.Accepted.{NameOk, RecordNamed, accepted}
use Rattle.scene_walk.proofs.Walked.{RecordOk, HeadOk}
use Rattle.scene_layout.proofs.Locations.{each_location, locations_few, size_locations, size_sum, particle_at}
use Rattle.scene_layout.proofs.Locations.{boundary_at}

-- ---- particles

target_ok : {κ : Kind} {b : List ℕ} {at : ℕ} → NameOk κ b at → TargetOk κ b at
unfolding target_at
target_ok {κ} {b} h =
    record { model = rw length_starts h.model; below = rw (size_sum b κ) (start_below _ _ _ h.model h.number) }

-- what was met where a record of a kind stands
abbrev Met : Kind → List ℕ → Location → Type 0
Met κ b p = HeadOk κ b p.head × RecordOk κ b p × RecordNamed κ b p

module _ (b : List ℕ) {e : ℕ} (q : checked b ≡ Ok e) where
  met : (κ : Kind) (i : ℕ) → i < size_of κ (scene_of b) → Met κ b (location_of κ b i)
  met κ i h =
      let s = accepted b q in
      each_location κ b (Met κ b)
      (λ m k j l. ((s.fields.models κ m k).own, (s.fields.models κ m k).records j l, s.names κ m k j l))
      i (rw (size_locations b κ) at h)

  pub fluid-particle_ok : (i : ℕ) → i < fluid_size (scene_of b) → FluidParticleOk b (location_of Fluid b i) i
  unfolding size_of HeadOk RecordOk RecordNamed
  fluid-particle_ok i h =
      let r = met Fluid i h in
      record { particle = particle_at b i h; density0 = r.0; own = r.1; targets = λ κ k l. target_ok (r.2 κ k l) }

  pub boundary-particle_ok : (j : ℕ) → j < boundary_size (scene_of b) →
      BoundaryParticleOk b (location_of Boundary b j) j
  unfolding size_of HeadOk RecordOk
  boundary-particle_ok j h = record { boundary = boundary_at b j h; own = (met Boundary j h).1 }

  -- ---- how many there are

  pub size_few : (κ : Kind) → size_of κ (scene_of b) ≤ most_of_a_kind
  size_few κ =
      let s = (accepted b q).fields in
      rw (size_locations b κ) (locations_few κ b (s.header.few κ) (λ m l. (s.models κ m l).few))

  pub fluid_size_few : fluid_size (scene_of b) ≤ most_of_a_kind
  unfolding size_of
  fluid_size_few = size_few Fluid

  pub boundary_size_few : boundary_size (scene_of b) ≤ most_of_a_kind
  unfolding size_of
  boundary_size_few = size_few Boundary

-- ---- bytes are below 256, so a head's first bit is 0 or 1

pub keeps_below : (b : List ℕ) → Bytes b → (head : ℕ) → keeps_at b head < 2
keeps_below b y head = omega (arith, y head, y (head + 1))
