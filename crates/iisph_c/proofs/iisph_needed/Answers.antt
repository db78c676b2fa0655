-- `iisph_c::iisph_needed` meets its contract: by the list's length, then by what is said of the scene. Assumes nothing.
use native.Mathlib.Omega.{arith}
use Rattle.iisph_c.proofs.Calls.{needs_short, needs_refused, needs_lists}
use Rattle.iisph_c.proofs.iisph_needed.Goals as goal

pub returns-then-counts-lt-COUNTS : goal.returns-then-counts-lt-COUNTS
returns-then-counts-lt-COUNTS c = needs_short _ _ (omega (arith, c.if-counts-lt-COUNTS.true))

pub returns-in-Ok : goal.returns-in-Ok
returns-in-Ok c =
    needs_lists _ _ (omega (arith, c.if-counts-lt-COUNTS.false)) c.lengths_needed.ensures c.in-Ok.is
    c.write_lengths.ensures.0 c.write_lengths.ensures.1

pub returns-in-Err : goal.returns-in-Err
returns-in-Err c =
    needs_refused _ _ (omega (arith, c.if-counts-lt-COUNTS.false)) c.lengths_needed.ensures c.in-Err.is
    c.write_refusal.ensures.0 c.write_refusal.ensures.1
