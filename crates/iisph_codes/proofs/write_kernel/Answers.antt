-- `iisph_codes::write_kernel` meets its contract: by the list's length and the kernel's answer. Assumes nothing.
use mathlib.Core.Path.{refl}
use native.Mathlib.Omega.{arith}
use Rattle.iisph_codes.proofs.Kernel.{out_empty, value_given, refusal_given}
use Rattle.iisph_codes.proofs.write_kernel.Goals as goal

pub returns-then-out-lt1 : goal.returns-then-out-lt1
returns-then-out-lt1 c = out_empty _ _ (omega (arith, c.if-out-lt1.true))

pub returns-in-Ok : goal.returns-in-Ok
returns-in-Ok c = value_given _ _ (omega (arith, c.if-out-lt1.false)) c.in-Ok.is refl

pub returns-in-Err : goal.returns-in-Err
returns-in-Err c =
    refusal_given _ _ (omega (arith, c.if-out-lt1.false)) c.in-Err.is c.refusal_code.ensures
