-- What holds at single doubles, by evaluation: the definitions yield every row of specs/Rows.antt; the error bounds
-- hold at -0, and where errors are large closer ones do not. Assumes nothing.
use mathlib.Core.Path.{refl}
use Prim.Native.Nat.{◌*◌, ◌≤◌}
use native.Mathlib.Nat.{not-le_of_lt}
use mathlib.Core.Bool.{true, false}
use lib.Dec.{lit≤, lit<}
use lib.Ieee.{Float, of_bits, to_bits, add, sub, mul, div, neg, le, lt}
use Rattle.math.specs.Real.{bits, +0}
use Rattle.math.specs.Rows.{Yielded}
use Rattle.rounding.specs.Exact.{unit, count}
use Rattle.rounding.proofs.Counts.{minus_zero_lem}
use Rattle.cubic_spline.specs.Shape.{epsilon, weight_shape, slope_shape, weight}
use Rattle.cubic_spline.specs.Answer.{refusal, kernel_answer}
use Rattle.cubic_spline.specs.Exact.{pieces, exact_weight, monaghan_fall}
use Rattle.cubic_spline.specs.Bound.{ShapeWithin, WeightNear, SlopeNear, SlopeBound}
use Rattle.cubic_spline.specs.Apply.{AppliedWithin, AppliedNear, ApplyPromise}
use Rattle.cubic_spline.specs.Rows.{rows}
use Rattle.cubic_spline.specs.declared.Dimension.{Dimension}
use Rattle.cubic_spline.specs.declared.Dimension.TheVariants.{Two, Three}
use Rattle.std.specs.declared.result.Result.TheVariants.{Ok}

pub rows_hold : Yielded rows
unfolding weight_shape slope_shape kernel_answer of_bits to_bits add sub mul div neg le lt
rows_hold = refl

-- ---- the error bounds

pub weight-minus_zero : WeightNear minus_zero_lem (weight_shape minus_zero_lem)
unfolding weight_shape exact_weight pieces of_bits add sub mul le
weight-minus_zero =
    record { within = record { is_finite = tt; sign = tt; near = (lit≤ tt, lit≤ tt) }; most = lit≤ tt }

pub slope-minus_zero : SlopeBound minus_zero_lem (slope_shape minus_zero_lem)
unfolding slope_shape monaghan_fall pieces of_bits le lt
slope-minus_zero = record { above = λ a. absurd a; up_to = λ a. record { zero = refl; least = lit≤ tt } }

-- q = 0.3554674363481153: the error is 2 ^ -52.38, so within 2 ^ -50 and not within 2 ^ -53
abbrev farthest_weight : Float
farthest_weight = bits 0x3FD6BFFA7D7A1E96

pub weight_farthest : WeightNear farthest_weight (weight_shape farthest_weight)
unfolding weight_shape exact_weight pieces of_bits add sub mul le
weight_farthest =
    record { within = record { is_finite = tt; sign = tt; near = (lit≤ tt, lit≤ tt) }; most = lit≤ tt }

pub weight_no_nearer : ShapeWithin false (exact_weight unit (count farthest_weight)) (unit * unit) 53
    (weight_shape farthest_weight) → ⊥
unfolding weight_shape exact_weight pieces of_bits add sub mul le
weight_no_nearer W = not-le_of_lt (lit< tt) W.near.1

-- q = 0.4998947832772881: the error is 2 ^ -50.54, so within 2 ^ -49 and not within 2 ^ -51
abbrev farthest_slope : Float
farthest_slope = bits 0x3FDFFE46B0677C46

pub slope_farthest : SlopeNear farthest_slope (slope_shape farthest_slope)
unfolding slope_shape monaghan_fall pieces of_bits add sub mul le lt
slope_farthest = record { is_finite = tt; sign = tt; near = (lit≤ tt, lit≤ tt) }

pub slope_no_nearer : ShapeWithin true (monaghan_fall unit (count farthest_slope)) unit 51
    (slope_shape farthest_slope) → ⊥
unfolding slope_shape monaghan_fall pieces of_bits add sub mul le lt
slope_no_nearer W = not-le_of_lt (lit< tt) W.near.0

-- at the double 1e-5 the computed slope is 0 and the exact one below -0.00011, the least of those up to there
pub slope_least : SlopeBound epsilon (slope_shape epsilon)
unfolding slope_shape monaghan_fall pieces of_bits le lt
slope_least = record { above = λ a. absurd a; up_to = λ a. record { zero = refl; least = lit≤ tt } }

-- so there it is not within 2 ^ -49 of the exact one, as it is above
pub slope_cut : SlopeNear epsilon (slope_shape epsilon) → ⊥
unfolding slope_shape monaghan_fall pieces of_bits le lt
slope_cut N = not-le_of_lt (lit< tt) N.near.1

pub slope_no_flatter : monaghan_fall unit (count epsilon) * 100000 ≤ 11 * (unit * unit) → ⊥
unfolding monaghan_fall pieces of_bits
slope_no_flatter l = not-le_of_lt (lit< tt) l

-- ---- the weight, relative to the normalizer

-- r / h close to 0.35514369 and 0.35530094: the errors are 1.2521 and 1.2587 × 2 ^ -52 × normalizer, so within
-- 5 × 2 ^ -52 and not within 2 ^ -52
abbrev farthest_distance : Dimension → Float
farthest_distance Two = bits 0x4005DB4B1DEB8026
farthest_distance Three = bits 0x40039ACBA903908E

abbrev farthest_radius : Dimension → Float
farthest_radius Two = bits 0x401EC581A0A2BE29
farthest_radius Three = bits 0x401B96BD2E65B5BD

abbrev farthest : Dimension → Float
farthest d = weight d (farthest_distance d) (farthest_radius d)

pub applied_farthest : (d : Dimension) → AppliedNear d (farthest_distance d) (farthest_radius d) (farthest d)
unfolding weight_shape exact_weight pieces of_bits add sub mul div le
applied_farthest Two = record { is_finite = tt; sign = tt; near = (lit≤ tt, lit≤ tt) }
applied_farthest Three = record { is_finite = tt; sign = tt; near = (lit≤ tt, lit≤ tt) }

pub applied_no_nearer : (d : Dimension)
    → AppliedWithin d 1 (farthest_distance d) (farthest_radius d) (farthest d) → ⊥
unfolding weight_shape exact_weight pieces of_bits add sub mul div le
applied_no_nearer Two W = not-le_of_lt (lit< tt) W.near.0
applied_no_nearer Three W = not-le_of_lt (lit< tt) W.near.0

-- the radii 2 ^ -512 and 2 ^ -341: the normalizer is infinite, so the answer is promised, and not how near it is
abbrev tiny_radius : Dimension → Float
tiny_radius Two = bits 0x1FF0000000000000
tiny_radius Three = bits 0x2AA0000000000000

pub applied_tiny : (d : Dimension) → ApplyPromise d +0 (tiny_radius d) (Ok (weight d +0 (tiny_radius d)))
unfolding weight_shape kernel_answer refusal of_bits add sub mul div le lt
applied_tiny Two =
    record {
      kernel = record { answer = refl; numbered = refl };
      bound = λ q t n. absurd n;
      normalizes = λ t l. absurd l;
    }
applied_tiny Three =
    record {
      kernel = record { answer = refl; numbered = refl };
      bound = λ q t n. absurd n;
      normalizes = λ t l. absurd l;
    }

pub tiny_infinite : (d : Dimension) → AppliedNear d +0 (tiny_radius d) (weight d +0 (tiny_radius d)) → ⊥
unfolding weight_shape of_bits add sub mul div le
tiny_infinite Two N = N.is_finite
tiny_infinite Three N = N.is_finite
