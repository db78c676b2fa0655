-- `cubic_spline::scalar_apply_diff` meets its contract: the definition is the code, by what the calls ensure.
-- Assumes nothing.
use Rattle.cubic_spline.proofs.scalar_apply_diff.Goals as goal

pub returns : goal.returns
returns c = rw (← c.slope_shape.ensures.value, ← c.normalizer.ensures) c.answer.ensures
