-- `cases_check::print_in_turn` meets its contract: what remains from here is the whole, turn by turn. Assumes nothing.
use Rattle.cases_check.proofs.Turning.{none_turned, all_turned, turn_passed, turn_absent, turn_refused}
use Rattle.cases_check.proofs.print_in_turn.Goals as goal

pub loop-k-init : goal.loop-k-init
loop-k-init g c f h = none_turned

pub returns-in-Absent : goal.returns-in-Absent
returns-in-Absent g c f h =
    let here = c.loop-k-test.true in
    turn_absent (c.loop-k.invariant f h) here (h _ _ here c.in_ok-print.ensures) c.in-Absent.is

pub returns-in-Refused : goal.returns-in-Refused
returns-in-Refused g c f h =
    let here = c.loop-k-test.true in
    turn_refused (c.loop-k.invariant f h) here (h _ _ here c.in_ok-print.ensures) c.in-Refused.is

pub loop-k-preserved : goal.loop-k-preserved
loop-k-preserved g c f h =
    let here = c.loop-k-test.true in
    turn_passed (c.loop-k.invariant f h) here (h _ _ here c.in_ok-print.ensures) c.in-Passed.is

pub returns : goal.returns
returns g c f h = all_turned (c.loop-k.invariant f h) c.loop-k-test.false
