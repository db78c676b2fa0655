-- `iisph_codes::write_weight` meets its contract: what is written of the kernel's answer. Assumes nothing.
use Rattle.iisph_codes.proofs.Kernel.{answered}
use Rattle.iisph_codes.proofs.write_weight.Goals as goal

pub returns : goal.returns
returns c =
    answered c.scalar_apply.ensures.kernel.answer c.write_kernel.ensures
