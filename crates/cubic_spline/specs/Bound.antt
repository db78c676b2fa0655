-- What is promised of the shapes: their values, and how near these are to the exact ones (METHOD 1.5), at
-- q = count q / unit. Definitions only.
use Rattle.std.specs.Prelude.{ℕ, ◌*◌, ◌/◌, ◌^◌, ◌≤◌, ◌≡◌, Bool, true, false, cond, T, Float}
use Rattle.std.specs.Float.Ieee.{le, lt}
use Rattle.std.specs.Float.Ieee.Scale.{finite}
use Rattle.math.specs.Real.{+0}
use Rattle.rounding.specs.Exact.{unit, count, Near}
use Rattle.cubic_spline.specs.Shape.{epsilon, weight_shape, slope_shape}
use Rattle.cubic_spline.specs.Exact.{exact_weight, monaghan_fall}

-- x lies within 2 ^ -b of the fraction v / (unit * c), and is not below 0; where m is true, within 2 ^ -b of minus
-- that, and is not above 0
pub record ShapeWithin (m : Bool) (v c b : ℕ) (x : Float) : Type 0 where
  pub is_finite : T (finite x)
  pub sign : T (cond m (le x +0) (le +0 x))
  pub near : Near (count x * c) v (unit * c / 2 ^ b)

-- ---- the weight

-- x lies within 2 ^ -50 of the fraction v / unit ^ 3, and is at most 1
pub record WeightWithin (v : ℕ) (x : Float) : Type 0 where
  pub within : ShapeWithin false v (unit * unit) 50 x
  pub most : count x ≤ unit

-- of the exact weight at q
abbrev pub WeightNear : Float → Float → Type 0
WeightNear q x = WeightWithin (exact_weight unit (count q)) x

pub record WeightPromise (q r : Float) : Type 0 where
  pub value : r ≡ weight_shape q
  pub bound : T (finite q) → T (le +0 q) → WeightNear q r

-- ---- the slope

-- x lies within 2 ^ -49 of minus the fraction v / unit ^ 2
abbrev pub SlopeWithin : ℕ → Float → Type 0
SlopeWithin v x = ShapeWithin true v unit 49 x

-- of the exact slope at q
abbrev pub SlopeNear : Float → Float → Type 0
SlopeNear q x = SlopeWithin (monaghan_fall unit (count q)) x

-- x is 0, and the exact slope at q, which is minus the fall there, lies between -0.00012 and 0
pub record SlopeFlat (q x : Float) : Type 0 where
  pub zero : x ≡ +0
  pub least : monaghan_fall unit (count q) * 100000 ≤ 12 * (unit * unit)

-- above the double 1e-5 the one, and up to there the other
pub record SlopeBound (q x : Float) : Type 0 where
  pub above : T (lt epsilon q) → SlopeNear q x
  pub up_to : T (le q epsilon) → SlopeFlat q x

pub record SlopePromise (q r : Float) : Type 0 where
  pub value : r ≡ slope_shape q
  pub bound : T (finite q) → T (le +0 q) → SlopeBound q r
