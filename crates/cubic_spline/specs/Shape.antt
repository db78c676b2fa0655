-- The kernel on doubles (METHOD 1): its formulas, in its order. Each operation is one rounding, as math/specs/Real.antt
-- has it. Definitions only.
use Rattle.std.specs.Prelude.{Bool, cond, ◌&&◌, ◌||◌, Float}
use Rattle.std.specs.Float.Ieee.{le, lt}
use Rattle.std.specs.Float.Ieee.Scale.{finite}
use Rattle.math.specs.Real.{◌⊕◌, ◌⊖◌, ◌⊗◌, ◌⊘◌, ⊝, bits, +0, half, one}
use Rattle.cubic_spline.specs.Normalizer.{normalizer}
use Rattle.cubic_spline.specs.declared.Dimension.{Dimension}

abbrev pub two : Float
two = bits 0x4000000000000000

abbrev pub three : Float
three = bits 0x4008000000000000

abbrev pub six : Float
six = bits 0x4018000000000000

-- the double 1e-5
abbrev pub epsilon : Float
epsilon = bits 0x3EE4F8B588E368F1

-- ---- the weight's shape, at q

-- 1 + ((q2 × q) - q2) × 6, with q2 = q × q
abbrev pub near_weight : Float → Float
near_weight q = one ⊕ (q ⊗ q ⊗ q ⊖ q ⊗ q) ⊗ six

-- ((t × t) × t) × 2
abbrev pub far_weight : Float → Float
far_weight t = t ⊗ t ⊗ t ⊗ two

-- in three pieces: up to 0.5, up to 1 (by t = 1 - q), beyond
unfoldable pub weight_shape : Float → Float
weight_shape q = cond (le q half) (near_weight q) (cond (le q one) (far_weight (one ⊖ q)) +0)

-- ---- the slope's shape, at q

-- (((q × 3) - 2) × q) × 6
abbrev pub near_slope : Float → Float
near_slope q = (q ⊗ three ⊖ two) ⊗ q ⊗ six

-- ((-t) × t) × 6
abbrev pub far_slope : Float → Float
far_slope t = ⊝ t ⊗ t ⊗ six

-- 0 beyond 1 and up to 1e-5; between them two pieces, which meet at 0.5
unfoldable pub slope_shape : Float → Float
slope_shape q = cond (lt one q || le q epsilon) +0 (cond (le q half) (near_slope q) (far_slope (one ⊖ q)))

-- ---- the kernel in the dimension d, at the distance r, with the radius h: q = r / h

-- normalizer × shape
abbrev pub weight : Dimension → Float → Float → Float
weight d r h = normalizer d h ⊗ weight_shape (r ⊘ h)

-- (normalizer × shape) / h
abbrev pub slope : Dimension → Float → Float → Float
slope d r h = normalizer d h ⊗ slope_shape (r ⊘ h) ⊘ h

-- ---- the arguments that are taken

-- not below 0, and finite: -0 is taken
abbrev pub is_distance : Float → Bool
is_distance r = le +0 r && finite r

-- above 0, and finite
abbrev pub is_radius : Float → Bool
is_radius h = lt +0 h && finite h
