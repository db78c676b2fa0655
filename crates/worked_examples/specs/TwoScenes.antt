-- An instance of locality (METHOD 8): two packed scenes that differ in a second fluid that nothing links to, and what
-- is claimed of them. Two particles of the first fluid name each other, and one of them a boundary particle. The second
-- fluid's record is longer in one scene, so the boundary's stands at another offset. Definitions only.
use Rattle.std.specs.Prelude.{ℕ, ◌<◌, ◌≡◌, List, [], ◌∷◌}
use Rattle.scene_format.specs.Packed.{packed, fluid, boundary, fluid_record, boundary_record, contact, boundary_contact}
use Rattle.scene_format.specs.Packed.{v3, zero3}
use Rattle.scene_format.specs.SceneOf.{scene_of}
use Rattle.iisph_rules.specs.Locality.{Compared, SameAround, SameValues}
use Rattle.worked_examples.specs.Scenes.{bits·1, bits·-1, bits·2, bits·4, bits·½, header_b}

-- the first fluid
unfoldable pub pair_at_boundary : List ℕ
pair_at_boundary =
    fluid bits·1
    (fluid_record zero3 (v3 bits·1 0 0) zero3 bits·1 0
    (contact 0 1 bits·1 (v3 bits·1 0 0) ∷ [])
    (contact 0 0 bits·½ (v3 0 bits·1 0) ∷ [])
    ∷ fluid_record zero3 (v3 bits·-1 0 0) zero3 bits·1 0 (contact 0 0 bits·1 (v3 bits·-1 0 0) ∷ []) []
    ∷ [])

-- a second fluid of one particle, which names itself: rest density, velocity, volume, warm pressure, contacts
unfoldable pub apart : ℕ → List ℕ → ℕ → ℕ → List (List ℕ) → List ℕ
apart density0 velocity volume warm contacts =
    fluid density0 (fluid_record zero3 velocity zero3 volume warm contacts [] ∷ [])

-- with that second fluid; a step takes two iterations
unfoldable pub two_fluids : List ℕ → List ℕ
two_fluids second =
    packed (header_b 1 2) (pair_at_boundary ∷ second ∷ [])
    (boundary 1 (boundary_record zero3 zero3 (boundary_contact 0 0 bits·2 ∷ []) ∷ []) ∷ [])

unfoldable pub calm : List ℕ
calm = two_fluids (apart bits·2 zero3 bits·½ 0 (contact 1 0 bits·1 zero3 ∷ []))

unfoldable pub stirred : List ℕ
stirred =
    two_fluids
    (apart bits·4 (v3 0 0 bits·-1) bits·1 bits·4
    (contact 1 0 bits·1 (v3 0 0 bits·1) ∷ contact 1 0 bits·2 zero3 ∷ []))

-- the scenes differ and meet every condition of locality for both particles of the first fluid, which the rules then
-- give the same values
pub record Instance : Type 0 where
  pub different : calm ≡ stirred → ⊥
  pub compared : Compared 2 calm stirred
  pub around : (i : ℕ) → i < 2 → SameAround 2 calm stirred i
  pub values : (i : ℕ) → i < 2 → SameValues (scene_of calm) (scene_of stirred) i
