-- `cases_texts::print_all` meets its contract: of each scene the reader gives what one asks at most. Assumes nothing.
use Prim.Native.Nat.{◌+◌, ◌*◌}
use Rattle.full_reads.specs.Given.{GivesAtMost}
use Rattle.cases_texts.specs.Written.{room}
use Rattle.cases_texts.proofs.print_all.Given as goal

abbrev pub invariant-loop-scenes : goal.invariant-loop-scenes
invariant-loop-scenes g l =
    GivesAtMost (l.scenes * (4 + room)) (g.R.Read.remaining l.fn.reader) (g.R.Read.remaining l.reader)
