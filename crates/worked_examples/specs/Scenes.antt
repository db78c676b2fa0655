-- The scenes of the worked examples, packed: the empty scene, A and B (FORMAT 1.9, 2.1) and one with a boundary that
-- keeps forces; and the 64 bits of the doubles in the examples, each named after its double. Definitions only.
use Rattle.std.specs.Prelude.{ℕ, List, [], ◌∷◌, replicate}
use Rattle.scene_format.specs.Packed.{Header, packed, fluid, boundary, fluid_record, boundary_record, contact}
use Rattle.scene_format.specs.Packed.{boundary_contact, v3, zero3}

-- ---- bit patterns

abbrev pub bits·1 : ℕ
bits·1 = 0x3FF0000000000000

abbrev pub bits·-1 : ℕ
bits·-1 = 0xBFF0000000000000

abbrev pub bits·2 : ℕ
bits·2 = 0x4000000000000000

abbrev pub bits·-2 : ℕ
bits·-2 = 0xC000000000000000

abbrev pub bits·3 : ℕ
bits·3 = 0x4008000000000000

abbrev pub bits·4 : ℕ
bits·4 = 0x4010000000000000

abbrev pub bits·-4 : ℕ
bits·-4 = 0xC010000000000000

abbrev pub bits·½ : ℕ
bits·½ = 0x3FE0000000000000

abbrev pub bits·-½ : ℕ
bits·-½ = 0xBFE0000000000000

abbrev pub bits·¼ : ℕ
bits·¼ = 0x3FD0000000000000

abbrev pub bits·-¼ : ℕ
bits·-¼ = 0xBFD0000000000000

abbrev pub bits·-⅛ : ℕ
bits·-⅛ = 0xBFC0000000000000

abbrev pub bits·0·05 : ℕ
bits·0·05 = 0x3FA999999999999A

abbrev pub bits·0·1 : ℕ
bits·0·1 = 0x3FB999999999999A

abbrev pub bits·-0·1 : ℕ
bits·-0·1 = 0xBFB999999999999A

abbrev pub bits·0·3 : ℕ
bits·0·3 = 0x3FD3333333333333

abbrev pub bits·-0·3 : ℕ
bits·-0·3 = 0xBFD3333333333333

abbrev pub bits·0·7 : ℕ
bits·0·7 = 0x3FE6666666666666

abbrev pub bits·-0·7 : ℕ
bits·-0·7 = 0xBFE6666666666666

abbrev pub bits·1·3 : ℕ
bits·1·3 = 0x3FF4CCCCCCCCCCCD

abbrev pub bits·-0 : ℕ
bits·-0 = 0x8000000000000000

abbrev pub bits·∞ : ℕ
bits·∞ = 0x7FF0000000000000

abbrev pub bits·-∞ : ℕ
bits·-∞ = 0xFFF0000000000000

abbrev pub bits·nan : ℕ
bits·nan = 0x7FF8000000000000

-- ---- scenes

-- the empty scene: 10 00 01 32 hex, then 48 zero bytes; or with another most iterations than 32 hex
unfoldable pub empty_scene : ℕ → List ℕ
empty_scene most = 0x10 ∷ 0x00 ∷ 0x01 ∷ most ∷ replicate 48 0

-- scene A, with its contact or others
unfoldable pub scene_a : List (List ℕ) → List ℕ
scene_a contacts =
    packed
    (record {
      min_pressure_iter = 1;
      max_pressure_iter = 50;
      total_step_size = bits·½;
      remaining_time = bits·1;
      max_density_error = bits·0·05;
      gravity = v3 0 0 bits·-4;
    })
    (fluid bits·2 (fluid_record zero3 zero3 zero3 bits·½ 0 contacts [] ∷ []) ∷ [])
    []

-- scene A's contact, which names the particle with a number
unfoldable pub contact_a : ℕ → List ℕ
contact_a number = contact 0 number bits·2 zero3

-- step length 1, error limit 0.05, no gravity; the least and the most iterations
unfoldable pub header_b : ℕ → ℕ → Header
header_b least most =
    record {
      min_pressure_iter = least;
      max_pressure_iter = most;
      total_step_size = bits·1;
      remaining_time = 0;
      max_density_error = bits·0·05;
      gravity = zero3;
    }

-- fluid number m of two particles that name each other: rest density, volume, the two velocities, warm pressure
unfoldable pub pair : ℕ → ℕ → ℕ → ℕ → ℕ → ℕ → List ℕ
pair m density0 volume first second warm =
    fluid density0
    (fluid_record zero3 (v3 first 0 0) zero3 volume warm (contact m 1 bits·1 (v3 bits·1 0 0) ∷ []) []
    ∷ fluid_record zero3 (v3 second 0 0) zero3 volume warm (contact m 0 bits·1 (v3 bits·-1 0 0) ∷ []) []
    ∷ [])

-- scene B, with the two velocities and the most iterations
unfoldable pub scene_b : ℕ → ℕ → ℕ → List ℕ
scene_b first second most = packed (header_b 1 most) (pair 0 bits·1 bits·1 first second 0 ∷ []) []

-- a boundary that is pushed by half the warm pressure; its own contact names the boundary particle with a number
unfoldable pub boundary_scene : ℕ → List ℕ
boundary_scene number =
    packed
    (record {
      min_pressure_iter = 0;
      max_pressure_iter = 0;
      total_step_size = bits·½;
      remaining_time = 0;
      max_density_error = 0;
      gravity = zero3;
    })
    (fluid bits·1
    (fluid_record zero3 zero3 zero3 bits·1 bits·4
    (contact 0 0 bits·1 zero3 ∷ [])
    (contact 0 0 0 (v3 0 0 bits·1) ∷ [])
    ∷ [])
    ∷ [])
    (boundary 1 (boundary_record zero3 zero3 (boundary_contact 0 number bits·4 ∷ []) ∷ []) ∷ [])
