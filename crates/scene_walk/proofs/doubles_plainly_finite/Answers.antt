-- `scene_walk::doubles_plainly_finite` meets its contract: the doubles before this one have passed, turn by turn.
-- Assumes nothing.
use mathlib.Core.Path.{sym, ◌∙◌}
use Rattle.scene_walk.specs.Plainly.{doubles_plainly_finite}
use Rattle.scene_walk.proofs.Plainly.{none_passed, one_more_passed, all_passed, one_failed}
use Rattle.scene_walk.proofs.doubles_plainly_finite.Goals as goal

pub loop-i-init : goal.loop-i-init
loop-i-init c = none_passed

pub returns-then-not-plainly_finite : goal.returns-then-not-plainly_finite
unfolding doubles_plainly_finite
returns-then-not-plainly_finite c =
    one_failed c.loop-i.invariant c.loop-i-test.true
    (sym c.plainly_finite.ensures ∙ c.if-not-plainly_finite.true)

pub loop-i-preserved : goal.loop-i-preserved
loop-i-preserved c =
    one_more_passed c.loop-i.invariant c.loop-i-test.true
    (sym c.plainly_finite.ensures ∙ c.if-not-plainly_finite.false)

pub returns : goal.returns
unfolding doubles_plainly_finite
returns c = all_passed c.loop-i.invariant c.loop-i-test.false
