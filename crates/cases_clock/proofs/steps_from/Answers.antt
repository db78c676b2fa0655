-- `cases_clock::steps_from` meets its contract: no step changes a clock's step length. Assumes nothing.
use mathlib.Core.Path.{◌≡◌, refl, ap, ◌∙◌}
use Rattle.std.proofs.lemmas.Result.{IfOk-weaker}
use Rattle.timestep_manager.specs.declared.Clock.{Clock}
use Rattle.timestep_manager.specs.Clock.{advanced}
use Rattle.iisph_rules.specs.Step.{StepAnswer}
use Rattle.std.specs.declared.result.Result.TheVariants.{Ok, Err}
use Rattle.iisph_kept.specs.Kept.{clock_after}
use Rattle.cases_clock.specs.Kept.{FromScene}
use Rattle.cases_clock.proofs.steps_from.Goals as goal

length-kept : (a : StepAnswer) (c : Clock) → (clock_after a c).total_step_size ≡ c.total_step_size
unfolding clock_after advanced
length-kept (Ok r) c = refl
length-kept (Err r) c = refl

same : (c c' : Clock) → FromScene c c' → c'.total_step_size ≡ c.total_step_size
same c c' s = ap (λ (x : Clock). x.total_step_size) s.clock ∙ length-kept _ c

pub returns : goal.returns
returns g c =
    let empty = c.in_ok-empty.empty in
    let so_far : empty.total_step_size ≡ c.args.total_step_size =
    same _ _ c.in_ok-empty.ensures ∙ same _ _ c.in_ok-crowd.ensures ∙ same _ _ c.in_ok-idle.ensures
    ∙ same _ _ c.in_ok-b.ensures ∙ same _ _ c.in_ok-a.ensures ∙ same _ _ c.in_ok-cut.ensures in
    IfOk-weaker c.step_on-7.result (FromScene empty) _ (λ clock s. same empty clock s ∙ so_far) c.step_on-7.ensures
