-- How a packed scene is written, field by field (FORMAT 1). A double is given by its 64 bits. Definitions only.
use Rattle.std.specs.Prelude.{ℕ, ◌+◌, ◌*◌, ◌/◌, ◌%◌, length, replicate}
use mathlib.Core.List.{List, [], ◌∷◌, ◌++◌, map, flatten}
use Rattle.math.specs.Vector.{plane, space}
use Rattle.scene_format.specs.Format.{nameable_particles, half_modulus, first_version, count_modulus}
use Rattle.scene_format.specs.declared.Kind.TheVariants.{Boundary}

-- ---- numbers, the most significant byte first

unfoldable pub be16 : ℕ → List ℕ
be16 n = n / 256 ∷ n % 256 ∷ []

unfoldable pub be64 : ℕ → List ℕ
be64 n =
    n / 0x1_00_0000_0000_0000
    ∷ n / 0x1_0000_0000_0000 % 256
    ∷ n / 0x1_00_0000_0000 % 256
    ∷ n / 0x1_0000_0000 % 256
    ∷ n / 0x1_00_0000 % 256
    ∷ n / 0x1_0000 % 256
    ∷ n / 0x1_00 % 256
    ∷ n % 256
    ∷ []

unfoldable pub doubles : List ℕ → List ℕ
doubles ds = flatten (map be64 ds)

-- a vector of space, and of the plane
abbrev pub v3 : ℕ → ℕ → ℕ → List ℕ
v3 x y z = x ∷ y ∷ z ∷ []

abbrev pub v2 : ℕ → ℕ → List ℕ
v2 x y = x ∷ y ∷ []

-- of zeros
abbrev pub zero3 : List ℕ
zero3 = replicate space 0

abbrev pub zero2 : List ℕ
zero2 = replicate plane 0

-- ---- contacts

-- with a fluid or boundary particle, from a fluid particle: model number, particle number, weight, gradient
unfoldable pub contact : ℕ → ℕ → ℕ → List ℕ → List ℕ
contact model number weight gradient = be16 (nameable_particles * model + number) ++ doubles (weight ∷ gradient)

-- between boundary particles: model number, particle number, weight
unfoldable pub boundary_contact : ℕ → ℕ → ℕ → List ℕ
boundary_contact model number weight = be16 (nameable_particles * model + number) ++ be64 weight

-- ---- records

-- position, velocity, acceleration, volume, warm pressure, fluid contacts, boundary contacts
unfoldable pub fluid_record : List ℕ → List ℕ → List ℕ → ℕ → ℕ → List (List ℕ) → List (List ℕ) → List ℕ
fluid_record position velocity acceleration volume warm fluids boundaries =
    doubles (position ++ (velocity ++ (acceleration ++ (volume ∷ warm ∷ []))))
    ++ (length fluids ∷ length boundaries ∷ flatten fluids ++ flatten boundaries)

-- velocity, force (empty where it is not kept), contacts
unfoldable pub boundary_record : List ℕ → List ℕ → List (List ℕ) → List ℕ
boundary_record velocity force contacts = doubles (velocity ++ force) ++ (length contacts ∷ flatten contacts)

-- ---- models

-- rest density, records
unfoldable pub fluid : ℕ → List (List ℕ) → List ℕ
fluid density0 records = be16 (length records) ++ (be64 density0 ++ flatten records)

-- 1 where forces are kept, else 0; records
unfoldable pub boundary : ℕ → List (List ℕ) → List ℕ
boundary keeps records = be16 (count_modulus Boundary * keeps + length records) ++ flatten records

-- ---- the scene

pub record Header : Type 0 where
  pub min_pressure_iter : ℕ
  pub max_pressure_iter : ℕ
  pub total_step_size : ℕ
  pub remaining_time : ℕ
  pub max_density_error : ℕ
  pub gravity : List ℕ

-- in a version and with a rule
unfoldable pub packed_as : ℕ → ℕ → Header → List (List ℕ) → List (List ℕ) → List ℕ
packed_as version rule h fluids boundaries =
    (half_modulus * version + length fluids)
    ∷ (half_modulus * length boundaries + rule)
    ∷ h.min_pressure_iter
    ∷ h.max_pressure_iter
    ∷ doubles (h.total_step_size ∷ h.remaining_time ∷ h.max_density_error ∷ h.gravity)
    ++ (flatten fluids ++ flatten boundaries)

-- in the first version, which has no rule but 0
unfoldable pub packed : Header → List (List ℕ) → List (List ℕ) → List ℕ
packed h fluids boundaries = packed_as first_version 0 h fluids boundaries
