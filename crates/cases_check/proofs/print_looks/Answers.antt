-- `cases_check::print_looks` meets its contract: the boundaries only where the fluids are passed. Assumes nothing.
use Rattle.std.proofs.lemmas.Result.{IfOk-weaker}
use Rattle.cases_check.specs.Turns.{scene_turn}
use Rattle.cases_check.proofs.Turning.{both_turned, first_absent, first_refused}
use Rattle.cases_check.proofs.print_looks.Goals as goal

pub returns-in-Passed : goal.returns-in-Passed
unfolding scene_turn
returns-in-Passed g c =
    IfOk-weaker c.print_kind-in-Passed.result _ _ (λ turn is. both_turned c.in_ok-print_kind.ensures c.in-Passed.is is)
    c.print_kind-in-Passed.ensures

pub returns-in-Absent : goal.returns-in-Absent
unfolding scene_turn
returns-in-Absent g c = first_absent c.in_ok-print_kind.ensures _ c.in-Absent.is

pub returns-in-Refused : goal.returns-in-Refused
unfolding scene_turn
returns-in-Refused g c = first_refused c.in_ok-print_kind.ensures _ c.in-Refused.is
