-- `iisph_iterations::pressure_solve::ending_after` meets its contract: by whether there was an iteration. Assumes
-- nothing.
use Rattle.std.proofs.Common.{arith}
use Rattle.iisph_iterations.proofs.Solving.{unswept, ran_out}
use Rattle.iisph_iterations.proofs.pressure_solve.ending_after.Goals as goal

pub returns-then-i-eq0 : goal.returns-then-i-eq0
returns-then-i-eq0 c = unswept _ _ (omega (arith, c.if-i-eq0.true))

pub returns-else-i-eq0 : goal.returns-else-i-eq0
returns-else-i-eq0 c = ran_out _ _ (omega (arith, c.if-i-eq0.false))
