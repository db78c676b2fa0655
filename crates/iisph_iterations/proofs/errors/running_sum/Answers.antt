-- `iisph_iterations::errors::running_sum` meets its contract: term by term. Assumes nothing.
use Rattle.std.proofs.Common.{◌≡◌, refl, arith}
use Rattle.lists.specs.Lists.{fold, table}
use Rattle.iisph_rows.proofs.Volumes.{sum_next}
use Rattle.iisph_iterations.proofs.Averages.{terms-long, term_read}
use Rattle.iisph_iterations.proofs.errors.running_sum.Goals as goal

pub loop-x-init : goal.loop-x-init
unfolding table fold
loop-x-init c = refl

pub loop-x-preserved : goal.loop-x-preserved
loop-x-preserved c =
    let a = c.args in
    let at = c.terms_at-start.ensures in
    sum_next _ c.loop-x.x-index c.loop-x.invariant
    (term_read a.work.now a.dim a.n a.from at.0 a.count at.1 c.loop-x.x-index c.loop-x-test.true)

pub returns : goal.returns
returns c =
    let a = c.args in
    let at = c.terms_at-start.ensures in
    let long = terms-long a.work.now a.dim a.n a.from at.0 a.count at.1 in
    let all : c.loop-x.x-index ≡ a.count = omega (arith, long) in rw all at c.loop-x.invariant
