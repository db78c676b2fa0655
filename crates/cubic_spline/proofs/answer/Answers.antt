-- `cubic_spline::answer` meets its contract: each branch is the definition's, by what the two tests ensure.
-- Assumes nothing.
use mathlib.Core.Path.{◌≡◌, sym, ◌∙◌}
use mathlib.Core.Bool.{true}
use Rattle.cubic_spline.specs.Shape.{is_distance}
use Rattle.cubic_spline.specs.Answer.{kernel_answer}
use Rattle.cubic_spline.proofs.Answers.{kernel_promise}
use Rattle.cubic_spline.proofs.answer.Goals as goal

pub returns-then-is_radius : goal.returns-then-is_radius
unfolding kernel_answer
returns-then-is_radius c =
    let distance_taken : is_distance c.args.r ≡ true = sym c.is_distance.ensures ∙ c.if-is_distance.true in
    kernel_promise _ _ _ _
    (simp (sym c.is_radius.ensures ∙ c.if-is_radius.true, distance_taken))

pub returns-else-is_radius : goal.returns-else-is_radius
unfolding kernel_answer
returns-else-is_radius c =
    let distance_taken : is_distance c.args.r ≡ true = sym c.is_distance.ensures ∙ c.if-is_distance.true in
    kernel_promise _ _ _ _
    (simp (sym c.is_radius.ensures ∙ c.if-is_radius.false, distance_taken))

pub returns-else-is_distance : goal.returns-else-is_distance
unfolding kernel_answer
returns-else-is_distance c = kernel_promise _ _ _ _ (simp (sym c.is_distance.ensures ∙ c.if-is_distance.false))
