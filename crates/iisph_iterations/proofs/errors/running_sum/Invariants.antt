-- `iisph_iterations::errors::running_sum` meets its contract: term by term. Assumes nothing.
use Rattle.std.proofs.Common.{◌≡◌}
use Rattle.math.specs.Real.{+0, total}
use Rattle.iisph_iterations.specs.Errors.{terms_from}
use Rattle.iisph_iterations.proofs.errors.running_sum.Given as goal

abbrev pub invariant-loop-x : goal.invariant-loop-x
invariant-loop-x l = l.sum ≡ total +0 (terms_from l.work l.dim l.n l.from l.x-index)
