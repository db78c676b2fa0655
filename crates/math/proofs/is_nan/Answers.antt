-- `math::is_nan` meets its contract: what differs from itself is not a number. Assumes nothing.
use Rattle.math.proofs.Doubles.{differs_nan}
use Rattle.math.proofs.is_nan.Goals as goal

pub returns : goal.returns
returns c = differs_nan c.args.x
