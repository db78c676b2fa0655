-- `iisph_iterations::errors::with_average` meets its contract: by the criterion; under the Rust's, by whether an
-- average was passed over before, and under Ihmsen's, by whether the average is the first. Assumes nothing.
use Rattle.iisph_rules.specs.Iteration.{with_average, first_error}
use Rattle.iisph_iterations.specs.Errors.{joined}
use Rattle.iisph_iterations.proofs.Averages.{joined_salva}
use Rattle.iisph_iterations.proofs.errors.with_average.Goals as goal

pub returns-then-error : goal.returns-then-error
unfolding with_average
returns-then-error c =
    let joined_is = joined_salva c.args.before c.args.average c.unwrap_or-error.ensures in
    rw (c.in-Salva.is, ← joined_is, c.larger.ensures, c.if-error.true)

pub returns-else-error : goal.returns-else-error
unfolding with_average
returns-else-error c =
    let joined_is = joined_salva c.args.before c.args.average c.unwrap_or-error.ensures in
    rw (c.in-Salva.is, ← joined_is, c.larger.ensures, c.if-error.false, c.is_nan.ensures)

pub returns-in-Some : goal.returns-in-Some
unfolding joined with_average
returns-in-Some c = rw (c.in-Ihmsen.is, c.in-Some.is, c.larger_or_nan.ensures)

pub returns-in-None : goal.returns-in-None
unfolding joined first_error
returns-in-None c = rw (c.in-Ihmsen.is, c.in-None.is)
