-- `math::from_bits` meets its contract: a pattern is a not-a-number's exactly where it lies above infinity's, its sign
-- left away. Assumes nothing.
use mathlib.Core.Path.{refl, sym}
use lib.Ieee.{of_bits, div}
use Rattle.math.proofs.Doubles.{nan_pattern, number_pattern}
use Rattle.math.proofs.from_bits.Goals as goal

pub float_from_bits-result : goal.float_from_bits-result
float_from_bits-result c = number_pattern c.args.b c.if-b-gt9218868437227405312.false

pub returns-then-b-gt9218868437227405312 : goal.returns-then-b-gt9218868437227405312
unfolding of_bits div
returns-then-b-gt9218868437227405312 c = sym (nan_pattern c.args.b c.if-b-gt9218868437227405312.true)

pub returns-else-b-gt9218868437227405312 : goal.returns-else-b-gt9218868437227405312
returns-else-b-gt9218868437227405312 c = refl
