-- `cubic_spline::normalizer` meets its contract: each arm is the definition at its dimension. Assumes nothing.
use Rattle.cubic_spline.proofs.normalizer.Goals as goal

pub returns-in-Two : goal.returns-in-Two
returns-in-Two c = rw c.in-Two.is

pub returns-in-Three : goal.returns-in-Three
returns-in-Three c = rw c.in-Three.is
