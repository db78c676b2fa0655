-- `cubic_spline::scalar_apply` meets its contract: the definition is the code, by what the calls ensure, and Apply has
-- the bound. Assumes nothing.
use Rattle.cubic_spline.proofs.Apply.{apply_promise}
use Rattle.cubic_spline.proofs.scalar_apply.Goals as goal

pub returns : goal.returns
returns c =
    apply_promise c.args.dimension c.args.r c.args.h _ c.well_formed.1.0.1 c.well_formed.1.1.0.1
    (rw (← c.weight_shape.ensures.value, ← c.normalizer.ensures) c.answer.ensures)
