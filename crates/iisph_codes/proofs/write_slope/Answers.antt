-- `iisph_codes::write_slope` meets its contract: what is written of the kernel's answer. Assumes nothing.
use Rattle.iisph_codes.proofs.Kernel.{answered}
use Rattle.iisph_codes.proofs.write_slope.Goals as goal

pub returns : goal.returns
returns c =
    answered c.scalar_apply_diff.ensures.answer c.write_kernel.ensures
