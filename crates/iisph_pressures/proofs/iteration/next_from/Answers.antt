-- `iisph_pressures::iteration::next_from` meets its contract: each branch is the definition's. Assumes nothing.
use Rattle.iisph_pressures.proofs.IterationTerms.{next_kept, next_clamped, next_none}
use Rattle.iisph_pressures.proofs.iteration.next_from.Goals as goal

pub returns-then-next : goal.returns-then-next
returns-then-next c =
    next_kept _ _ _ _ _ _ c.magnitude.ensures c.if-magnitude.true c.if-next.true c.error_term.ensures

pub returns-else-next : goal.returns-else-next
returns-else-next c = next_clamped _ _ _ _ _ _ c.magnitude.ensures c.if-magnitude.true c.if-next.false

pub returns-else-magnitude : goal.returns-else-magnitude
returns-else-magnitude c = next_none _ _ _ _ _ _ c.magnitude.ensures c.if-magnitude.false
