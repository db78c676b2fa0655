-- `cubic_spline::weight_shape` meets its contract: each branch is the definition's, and Bounds has the bound.
-- Assumes nothing.
use Rattle.cubic_spline.specs.Shape.{weight_shape}
use Rattle.cubic_spline.proofs.Bounds.{weight_promise}
use Rattle.cubic_spline.proofs.weight_shape.Goals as goal

pub returns-then-q : goal.returns-then-q
unfolding weight_shape
returns-then-q c = weight_promise c.args.q _ c.well_formed.0.1 (simp c.if-q.true)

pub returns-then-q-2 : goal.returns-then-q-2
unfolding weight_shape
returns-then-q-2 c =
    weight_promise c.args.q _ c.well_formed.0.1 (simp (c.if-q.false, c.if-q-2.true))

pub returns-else-q-2 : goal.returns-else-q-2
unfolding weight_shape
returns-else-q-2 c =
    weight_promise c.args.q _ c.well_formed.0.1 (simp (c.if-q.false, c.if-q-2.false))
