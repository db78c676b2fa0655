-- `iisph_c::iisph_step_keeping` meets its contract: by the length of `clock`, then by the number that `iisph_step`
-- returned. Assumes nothing.
use native.Mathlib.Omega.{arith}
use Rattle.iisph_c.proofs.Kept.{clock_short, done_kept, not_done_kept}
use Rattle.iisph_c.proofs.iisph_step_keeping.Goals as goal

pub returns-then-clock-lt-CLOCK : goal.returns-then-clock-lt-CLOCK
returns-then-clock-lt-CLOCK c = clock_short _ _ _ _ _ _ (omega (arith, c.if-clock-lt-CLOCK.true))

pub returns-then-told-lt-TOO_SHORT : goal.returns-then-told-lt-TOO_SHORT
returns-then-told-lt-TOO_SHORT c =
    let room = c.if-clock-lt-CLOCK.false in
    done_kept _ _ _ _ _ _ (omega (arith, room)) c.iisph_step-told.ensures (omega (arith, c.if-told-lt-TOO_SHORT.true))
    c.advance_listed.ensures.0
    c.advance_listed.ensures.1

pub returns-else-told-lt-TOO_SHORT : goal.returns-else-told-lt-TOO_SHORT
returns-else-told-lt-TOO_SHORT c =
    let room = c.if-clock-lt-CLOCK.false in
    not_done_kept _ _ _ _ _ _ (omega (arith, room)) c.iisph_step-told.ensures
    (omega (arith, c.if-told-lt-TOO_SHORT.false))
