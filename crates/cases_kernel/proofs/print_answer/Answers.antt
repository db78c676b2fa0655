-- `cases_kernel::print_answer` meets its contract: in each arm the answer is the arm's constructor, and the callee
-- hands back what it shows. Assumes nothing.
use Rattle.cases_kernel.proofs.print_answer.Goals as goal

pub returns-in-Ok : goal.returns-in-Ok
returns-in-Ok g c = rw c.in-Ok.is c.print_bits.ensures
