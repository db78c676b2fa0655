-- A step for callers that keep a clock: what becomes of the clock that they lend. Definitions only.
use Rattle.timestep_manager.specs.declared.Clock.{Clock}
use Rattle.timestep_manager.specs.Clock.{advanced}
use Rattle.iisph_rules.specs.Step.{StepAnswer}
use Rattle.std.specs.declared.result.Result.TheVariants.{Ok, Err}

-- moved on by its own step length where the step is done; as it was where the step is refused
unfoldable pub clock_after : StepAnswer → Clock → Clock
clock_after (Ok r) c = advanced c
clock_after (Err r) c = c
