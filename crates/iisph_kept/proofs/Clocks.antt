-- The lent clock at exit, by whether the step is done. Assumes nothing.
use Rattle.std.proofs.Common.{◌≡◌, refl, sym}
use mathlib.Core.Bool.{true, false, true≢false}
use Rattle.timestep_manager.specs.declared.Clock.{Clock}
use Rattle.timestep_manager.specs.Clock.{advanced}
use Rattle.iisph_rules.specs.Answer.{is_done}
use Rattle.iisph_rules.specs.Step.{StepAnswer}
use Rattle.std.specs.Result.{is_ok}
use Rattle.std.specs.declared.result.Result.TheVariants.{Ok, Err}
use Rattle.iisph_kept.specs.Kept.{clock_after}

pub moved : (r : StepAnswer) (h : Clock) → true ≡ is_ok r → advanced h ≡ clock_after r h
unfolding clock_after
moved (Ok r) h e = refl
moved (Err r) h e = absurd (true≢false e)

pub kept : (r : StepAnswer) (h : Clock) → false ≡ is_ok r → h ≡ clock_after r h
unfolding clock_after
kept (Ok r) h e = absurd (true≢false (sym e))
kept (Err r) h e = refl
