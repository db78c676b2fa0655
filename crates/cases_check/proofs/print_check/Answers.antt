-- `cases_check::print_check` meets its contract: what is handed back is that of the check's verdict, which is the
-- walk's. Assumes nothing.
use mathlib.Core.Path.{ap, ◌∙◌}
use Rattle.cases_check.specs.Printed.{printed}
use Rattle.cases_check.proofs.print_check.Goals as goal

pub returns : goal.returns
returns g c = c.in_ok-n.ensures ∙ ap printed c.check.ensures.verdict
