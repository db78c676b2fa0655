-- `cases_check::check_all` meets its contract: each scene that is asked for adds at most what one takes.
-- Assumes nothing.
use Rattle.std.proofs.Common.{◌+◌, ◌*◌, arith}
use Rattle.full_reads.proofs.Given.{gives_more}
use Rattle.cases_check.specs.Printed.{room}
use Rattle.cases_check.proofs.check_all.Goals as goal

pub loop-scenes-preserved : goal.loop-scenes-preserved
loop-scenes-preserved g c =
    let n = c.loop-scenes.scenes in
    gives_more _ _ _ (n * (4 + room)) (4 + room) ((n + 1) * (4 + room)) c.loop-scenes.invariant
    c.in_ok-check_next.ensures.left (omega arith)

pub returns-in_err-check_next-clause-left : goal.returns-in_err-check_next-clause-left
returns-in_err-check_next-clause-left g c =
    gives_more _ _ _ (c.loop-scenes.scenes * (4 + room)) (4 + room) (4096 * (4 + room)) c.loop-scenes.invariant
    c.in_err-check_next.ensures.left (omega (arith, c.loop-scenes-test.true))

pub returns-in_default-clause-left : goal.returns-in_default-clause-left
returns-in_default-clause-left g c =
    gives_more _ _ _ (c.loop-scenes.scenes * (4 + room)) (4 + room) (4096 * (4 + room)) c.loop-scenes.invariant
    c.in_ok-check_next.ensures.left (omega (arith, c.loop-scenes-test.true))
