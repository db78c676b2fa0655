-- `cubic_spline::and_finite` meets its contract: a magnitude is below infinity exactly where the double is finite.
-- Assumes nothing.
use mathlib.Core.Path.{◌≡◌, refl, ap, ◌∙◌}
use lib.Ieee.{Float, nan, inf, fin, lt, of_bits, nan_bits}
use lib.Ieee.Scale.{finite}
use Rattle.math.specs.Real.{+∞, magnitude}
use Rattle.cubic_spline.proofs.and_finite.Goals as goal

below_infinity : (x : Float) → lt (magnitude x) +∞ ≡ finite x
unfolding lt magnitude of_bits
below_infinity nan = refl
below_infinity (inf s) = refl
below_infinity (fin s m e) = refl

pub float_from_bits-result : goal.float_from_bits-result
unfolding nan_bits
float_from_bits-result c = tt

pub returns-then-test : goal.returns-then-test
returns-then-test c =
    simp c.if-test.true
    (ap (λ x. lt x +∞) c.magnitude.ensures ∙ below_infinity c.args.x)

pub returns-else-test : goal.returns-else-test
returns-else-test c = simp c.if-test.false
