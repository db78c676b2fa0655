-- `iisph_c::write_answer` meets its contract: by the answer. Assumes nothing.
use mathlib.Core.Path.{refl}
use Rattle.iisph_c.specs.Step.{step_code, numbers_after, counts_after}
use Rattle.iisph_c.proofs.write_answer.Goals as goal

pub returns-in-Ok : goal.returns-in-Ok
unfolding step_code numbers_after counts_after
returns-in-Ok c =
    rw c.in-Ok.is c.write_report.ensures

pub returns-in-Err : goal.returns-in-Err
unfolding step_code numbers_after counts_after
returns-in-Err c =
    let e = c.write_refusal.ensures in
    rw c.in-Err.is (e.0, refl, e.1)
