-- `math::to_bits` meets its contract: what equals itself is a number and has its own pattern. Assumes nothing.
use mathlib.Core.Path.{refl, sym, ap}
use lib.Ieee.{binary64, to_bits}
use Rattle.math.proofs.Doubles.{equal_number, unequal_nan}
use Rattle.math.proofs.to_bits.Goals as goal

pub float_to_bits-result : goal.float_to_bits-result
float_to_bits-result c = equal_number c.args.x c.if-x.true

pub returns-then-x : goal.returns-then-x
returns-then-x c = refl

pub returns-else-x : goal.returns-else-x
unfolding to_bits
returns-else-x c = sym (ap (to_bits binary64) (unequal_nan c.args.x c.if-x.false))
