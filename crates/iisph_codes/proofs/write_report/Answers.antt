-- `iisph_codes::write_report` meets its contract: six stores, in the order of the definition. Assumes nothing.
use native.Mathlib.Omega.{arith}
use lib.ListN.{length-set}
use Rattle.iisph_rules.specs.Endings.{told_of}
use Rattle.iisph_codes.specs.Report.{report_numbers, report_counts}
use Rattle.iisph_codes.proofs.write_report.Goals as goal

pub returns : goal.returns
unfolding report_numbers report_counts told_of
returns c =
    let t = c.tell-told.ensures in
    (rw t, rw t, rw t)

pub bounds-numbers-1 : goal.bounds-numbers-1
bounds-numbers-1 c = simp length-set (omega arith)

pub bounds-numbers-2 : goal.bounds-numbers-2
bounds-numbers-2 c = simp length-set (omega arith)

pub bounds-numbers-3 : goal.bounds-numbers-3
bounds-numbers-3 c = simp length-set (omega arith)

pub bounds-counts-1 : goal.bounds-counts-1
bounds-counts-1 c = simp length-set (omega arith)
