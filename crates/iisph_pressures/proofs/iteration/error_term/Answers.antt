-- `iisph_pressures::iteration::error_term` meets its contract: by the criterion. Assumes nothing.
use Rattle.iisph_rules.specs.Iteration.{error_term}
use Rattle.iisph_pressures.proofs.iteration.error_term.Goals as goal

pub returns-in-Salva : goal.returns-in-Salva
unfolding error_term
returns-in-Salva c = rw c.in-Salva.is

pub returns-in-Ihmsen : goal.returns-in-Ihmsen
unfolding error_term
returns-in-Ihmsen c = rw c.in-Ihmsen.is
