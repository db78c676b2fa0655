-- A refusal's number is small: by its cases. Assumes nothing.
use Prim.Native.Nat.{◌≤◌}
use native.Mathlib.Omega.{arith}
use Rattle.scene_format.specs.Refusals.{number_of}
use Rattle.scene_format.specs.declared.Refusal.{Refusal}
use Rattle.scene_format.specs.declared.Refusal.TheVariants as refusal

pub number_few : (r : Refusal) → number_of r ≤ 10
number_few (refusal.MissingField at) = omega arith
number_few (refusal.UnknownForm at) = omega arith
number_few (refusal.TooManyModels at) = omega arith
number_few (refusal.TooManyParticles at) = omega arith
number_few (refusal.TrailingBytes at) = omega arith
number_few (refusal.NotFinite at) = omega arith
number_few (refusal.DanglingContact at) = omega arith
number_few refusal.ShortList = omega arith
number_few (refusal.ZeroDensity at) = omega arith
number_few (refusal.ZeroPredictedDensity at) = omega arith
