-- `cases_check::print_particle` meets its contract: by the kind; the second list only where the first is passed.
-- Assumes nothing.
use Rattle.std.proofs.lemmas.Result.{IfOk-weaker}
use Rattle.cases_check.specs.Turns.{particle_turn}
use Rattle.cases_check.proofs.Turning.{both_turned, first_absent, first_refused}
use Rattle.cases_check.proofs.print_particle.Goals as goal

pub returns-in-Passed : goal.returns-in-Passed
unfolding particle_turn
returns-in-Passed g c =
    let first = c.in_ok-print_list-in-Fluid.ensures in
    rw c.in-Fluid.is
    (IfOk-weaker c.print_list-in-Passed.result _ _ (λ turn is. both_turned first c.in-Passed.is is)
    c.print_list-in-Passed.ensures)

pub returns-in-Absent : goal.returns-in-Absent
unfolding particle_turn
returns-in-Absent g c =
    rw c.in-Fluid.is (first_absent c.in_ok-print_list-in-Fluid.ensures _ c.in-Absent.is)

pub returns-in-Refused : goal.returns-in-Refused
unfolding particle_turn
returns-in-Refused g c =
    rw c.in-Fluid.is (first_refused c.in_ok-print_list-in-Fluid.ensures _ c.in-Refused.is)

pub returns-in-Boundary : goal.returns-in-Boundary
unfolding particle_turn
returns-in-Boundary g c = rw c.in-Boundary.is c.print_list-in-Boundary.ensures
