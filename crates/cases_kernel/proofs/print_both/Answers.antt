-- `cases_kernel::print_both` meets its contract: each line shows the kernel's answer. Assumes nothing.
use Rattle.cases_kernel.specs.Printed.{shown}
use Rattle.cases_kernel.proofs.print_both.Goals as goal

pub returns : goal.returns
unfolding shown
returns g c =
    rw (
      c.in_ok-s.ensures,
      c.scalar_apply_diff.ensures.answer,
      c.in_ok-w.ensures,
      c.scalar_apply.ensures.kernel.answer,
    )
