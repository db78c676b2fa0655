-- `iisph_iterations::errors::with_fluid` meets its contract: by whether the fluid has particles. Assumes nothing.
use Rattle.std.proofs.Common.{arith}
use Rattle.iisph_iterations.proofs.Averages.{with_none, with_some}
use Rattle.iisph_iterations.proofs.errors.with_fluid.Goals as goal

pub returns-then-count-eq0 : goal.returns-then-count-eq0
returns-then-count-eq0 c = with_none _ _ _ _ _ (omega (arith, c.if-count-eq0.true))

pub returns : goal.returns
returns c =
    with_some _ _ _ _ _ (omega (arith, c.if-count-eq0.false)) c.term_sum-sum.ensures c.nearest_u64_to_f64.ensures
    c.with_average.ensures
