-- `iisph_c::iisph_validate` meets its contract: by the length of `counts`, then by what `validate` answers. Assumes
-- nothing.
use native.Mathlib.Omega.{arith}
use Rattle.iisph_c.proofs.Calls.{validate_short, ready_to, unready_to}
use Rattle.iisph_c.proofs.iisph_validate.Goals as goal

pub returns-then-counts-lt-COUNTS : goal.returns-then-counts-lt-COUNTS
returns-then-counts-lt-COUNTS c = validate_short _ _ _ (omega (arith, c.if-counts-lt-COUNTS.true))

pub returns-in-Ok : goal.returns-in-Ok
returns-in-Ok c =
    ready_to _ _ _ (omega (arith, c.if-counts-lt-COUNTS.false)) c.validate.ensures c.in-Ok.is

pub returns-in-Err : goal.returns-in-Err
returns-in-Err c =
    unready_to _ _ _ (omega (arith, c.if-counts-lt-COUNTS.false)) c.validate.ensures c.in-Err.is
    c.write_refusal.ensures.0 c.write_refusal.ensures.1
