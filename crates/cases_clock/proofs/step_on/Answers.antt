-- `cases_clock::step_on` meets its contract: the scene is what was read, and the clock that is written is the one that
-- the step left. Assumes nothing.
use mathlib.Core.Path.{◌∙◌}
use Rattle.std.proofs.lemmas.Result.{IfOk-weaker}
use Rattle.cases_clock.specs.Kept.{FromScene}
use Rattle.cases_clock.proofs.step_on.Goals as goal

pub returns : goal.returns
returns g c =
    IfOk-weaker c.print_clock.result _ (FromScene c.args.clock)
    (λ written is. record { scene = _; clock = is ∙ c.step_lending-after.ensures.clock }) c.print_clock.ensures
