-- The normalizer, in two dimensions and in three (METHOD 1.1): a number over pi and, for each axis, the radius. Each
-- operation is one rounding, as math/specs/Real.antt has it. Definitions only.
use Rattle.std.specs.Prelude.{ℕ, zero, suc, Float}
use Rattle.math.specs.Real.{◌⊗◌, ◌⊘◌, bits}
use Rattle.cubic_spline.specs.declared.Dimension.{Dimension}
use Rattle.cubic_spline.specs.declared.Dimension.TheVariants.{Two, Three}

abbrev pub pi : Float
pi = bits 0x400921FB54442D18

-- the number of axes
abbrev pub axes : Dimension → ℕ
axes Two = 2
axes Three = 3

-- 40 / 7, and 8
abbrev pub numerator : Dimension → Float
numerator Two = bits 0x4044000000000000 ⊘ bits 0x401C000000000000
numerator Three = bits 0x4020000000000000

-- pi, multiplied n times by h
abbrev pub divisor : ℕ → Float → Float
divisor zero h = pi
divisor (suc n) h = divisor n h ⊗ h

-- (40 / 7) / ((pi × h) × h), and 8 / (((pi × h) × h) × h)
abbrev pub normalizer : Dimension → Float → Float
normalizer d h = numerator d ⊘ divisor (axes d) h
