-- `cases_check::check_all` meets its contract: of each scene the reader gives what one asks at most. Assumes nothing.
use Prim.Native.Nat.{◌+◌, ◌*◌}
use Rattle.full_reads.specs.Given.{GivesAtMost}
use Rattle.cases_check.specs.Printed.{room}
use Rattle.cases_check.proofs.check_all.Given as goal

abbrev pub invariant-loop-scenes : goal.invariant-loop-scenes
invariant-loop-scenes g l =
    GivesAtMost (l.scenes * (4 + room)) (g.R.Read.remaining l.fn.reader) (g.R.Read.remaining l.reader)
