-- `cases_kernel::all_cases` meets its contract: at case i there were i before it. Assumes nothing.
use mathlib.Core.Path.{◌≡◌}
use Rattle.cases_kernel.proofs.all_cases.Given as goal

abbrev pub invariant-loop-i : goal.invariant-loop-i
invariant-loop-i g l = l.run ≡ l.i
