-- When two packed scenes have the same bytes, records and shape: what locality compares (METHOD 8). Definitions only.
use Rattle.std.specs.Prelude.{ℕ, ◌+◌, ◌-◌, ◌<◌, ◌≡◌, List}
use Rattle.scene_format.specs.Bytes.{byte_at, double_width}
use Rattle.scene_format.specs.Format.{axes_of, header_width, density0_offset, next_record, counts_of, Location}
use Rattle.scene_format.specs.declared.Kind.{Kind}
use Rattle.scene_format.specs.declared.Kind.TheVariants.{Fluid}

-- n bytes are the same, from an offset of each scene on
pub record SameBytes (b : List ℕ) (at : ℕ) (b' : List ℕ) (at' n : ℕ) : Type 0 where
  pub each : (k : ℕ) → k < n → byte_at b (at + k) ≡ byte_at b' (at' + k)

-- the number of bytes of a record
abbrev pub record_length : Kind → List ℕ → Location → ℕ
record_length κ b p = next_record κ b p.head p.at - p.at

-- two records are the same: as many bytes, and the same ones. How long a boundary's record is, its bytes alone do not
-- say
pub record SameRecord (κ : Kind) (b : List ℕ) (p : Location) (b' : List ℕ) (p' : Location) : Type 0 where
  pub long : record_length κ b p ≡ record_length κ b' p'
  pub bytes : SameBytes b p.at b' p'.at (record_length κ b p)

-- for a fluid particle also the rest density is the same
pub record SameFluidRecord (b : List ℕ) (p : Location) (b' : List ℕ) (p' : Location) : Type 0 where
  pub density0 : SameBytes b (p.head + density0_offset) b' (p'.head + density0_offset) double_width
  pub own : SameRecord Fluid b p b' p'

-- the same header and the same counts; then a particle's number stands for the same model and number in both
pub record SameShape (b b' : List ℕ) : Type 0 where
  pub header : SameBytes b 0 b' 0 (header_width (axes_of b))
  pub counts : (κ : Kind) → counts_of κ b ≡ counts_of κ b'
