-- `cubic_spline::slope_shape` meets its contract: each branch is the definition's, and Bounds has the bound.
-- Assumes nothing.
use mathlib.Core.Path.{◌≡◌, ◌∙◌}
use mathlib.Core.Bool.{◌||◌}
use lib.Ieee.{le, lt}
use Rattle.math.specs.Real.{one}
use Rattle.cubic_spline.specs.Shape.{epsilon, slope_shape}
use Rattle.cubic_spline.proofs.Bounds.{slope_promise}
use Rattle.cubic_spline.proofs.slope_shape.Goals as goal
use Rattle.cubic_spline.proofs.slope_shape.Goals.{then-q, else-q}

-- in each, the flag of the first test, which `||` makes of two

pub returns-then-q-2 : goal.returns-then-q-2
unfolding slope_shape
returns-then-q-2 c =
    let first_test : lt one c.args.q || le c.args.q epsilon ≡ c.if-q.value =
    elim c.if-q.branch
    [ then-q w ↦ simp (w.if-q.true, w.value-is) | else-q w ↦ simp (w.if-q.false, w.value-is) ] in
    slope_promise c.args.q _ c.well_formed.0.1 (simp (first_test ∙ c.if-q-2.true))

pub returns-then-q-3 : goal.returns-then-q-3
unfolding slope_shape
returns-then-q-3 c =
    let first_test : lt one c.args.q || le c.args.q epsilon ≡ c.if-q.value =
    elim c.if-q.branch
    [ then-q w ↦ simp (w.if-q.true, w.value-is) | else-q w ↦ simp (w.if-q.false, w.value-is) ] in
    slope_promise c.args.q _ c.well_formed.0.1 (simp (first_test ∙ c.if-q-2.false, c.if-q-3.true))

pub returns-else-q-3 : goal.returns-else-q-3
unfolding slope_shape
returns-else-q-3 c =
    let first_test : lt one c.args.q || le c.args.q epsilon ≡ c.if-q.value =
    elim c.if-q.branch
    [ then-q w ↦ simp (w.if-q.true, w.value-is) | else-q w ↦ simp (w.if-q.false, w.value-is) ] in
    slope_promise c.args.q _ c.well_formed.0.1 (simp (first_test ∙ c.if-q-2.false, c.if-q-3.false))
