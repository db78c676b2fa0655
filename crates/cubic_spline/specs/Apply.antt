-- What `scalar_apply` promises: its answer and, unless the normalizer is infinite, how near its value is to normalizer
-- × exact weight at the exact quotient r / h, relative to the normalizer (METHOD 1.5). Definitions only.
use Rattle.std.specs.Prelude.{ℕ, ◌*◌, ◌^◌, ◌≡◌, T, Float}
use Rattle.std.specs.Float.Ieee.{le}
use Rattle.std.specs.Float.Ieee.Scale.{finite}
use Rattle.math.specs.Real.{bits, +0}
use Rattle.rounding.specs.Exact.{count, Near}
use Rattle.cubic_spline.specs.Normalizer.{normalizer}
use Rattle.cubic_spline.specs.Shape.{weight, is_distance, is_radius}
use Rattle.cubic_spline.specs.Exact.{exact_weight}
use Rattle.cubic_spline.specs.Answer.{KernelPromise}
use Rattle.cubic_spline.specs.declared.Dimension.{Dimension}
use Rattle.cubic_spline.specs.declared.Dimension.TheVariants.{Two, Three}
use Rattle.std.specs.declared.result.Result.{Result}
use Rattle.cubic_spline.specs.declared.KernelRefusal.{KernelRefusal}
use Rattle.std.specs.declared.result.Result.TheVariants.{Ok}

-- 2 ^ -511, some 1.5e-154, and 2 ^ -340, some 4.5e-103: for no radius from there on is the normalizer infinite
abbrev pub least_radius : Dimension → Float
least_radius Two = bits 0x2000000000000000
least_radius Three = bits 0x2AB0000000000000

abbrev pub cube : ℕ → ℕ
cube n = n * n * n

-- x lies within k × 2 ^ -52 × normalizer of normalizer × exact weight. At q = count r / count h that weight is
-- exact_weight (count h) (count r) / cube (count h); all is multiplied by unit, by cube (count h) and by 2 ^ 52
pub record AppliedWithin (d : Dimension) (k : ℕ) (r h x : Float) : Type 0 where
  pub is_finite : T (finite x)
  pub sign : T (le +0 x)
  pub near : Near (count x * cube (count h) * 2 ^ 52)
      (count (normalizer d h) * exact_weight (count h) (count r) * 2 ^ 52)
      (k * (count (normalizer d h) * cube (count h)))

abbrev pub AppliedNear : Dimension → Float → Float → Float → Type 0
AppliedNear d r h x = AppliedWithin d 5 r h x

-- a is a value, and that near
pub record Applied (d : Dimension) (r h : Float) (a : Result Float KernelRefusal) : Type 0 where
  pub value : Float
  pub is : a ≡ Ok value
  pub near : AppliedNear d r h value

pub record ApplyPromise (d : Dimension) (r h : Float) (a : Result Float KernelRefusal) : Type 0 where
  pub kernel : KernelPromise r h (weight d r h) a
  pub bound : T (is_distance r) → T (is_radius h) → T (finite (normalizer d h)) → Applied d r h a
  pub normalizes : T (is_radius h) → T (le (least_radius d) h) → T (finite (normalizer d h))
