-- `iisph_iterations::errors::term_sum` meets its contract: by the summation; by halves the part of the list that is
-- handed on is the fluid's terms. Assumes nothing.
use Rattle.std.proofs.Common.{ap, ◌∙◌}
use Rattle.sums.specs.Halves.{sum_by_halves}
use Rattle.iisph_rules.specs.Iteration.{term_sum}
use Rattle.iisph_iterations.proofs.Averages.{terms_part}
use Rattle.iisph_iterations.proofs.errors.term_sum.Goals as goal

pub returns-in-InOrder : goal.returns-in-InOrder
unfolding term_sum
returns-in-InOrder c = rw c.in-InOrder.is c.running_sum.ensures

pub returns-in-ByHalves : goal.returns-in-ByHalves
unfolding term_sum
returns-in-ByHalves c =
    let a = c.args in
    rw c.in-ByHalves.is
    (c.sum_by_halves.ensures
    ∙ ap sum_by_halves (terms_part a.work.now a.dim a.n a.from c.terms_at-start.ensures.0 a.count
    c.terms_at-start.ensures.1))
