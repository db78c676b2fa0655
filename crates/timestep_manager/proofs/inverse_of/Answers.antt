-- `timestep_manager::inverse_of` meets its contract: each branch is the definition's, by what `is_zero` ensures.
-- Assumes nothing.
use mathlib.Core.Path.{sym, ◌∙◌}
use Rattle.timestep_manager.specs.Clock.{inverse}
use Rattle.timestep_manager.proofs.inverse_of.Goals as goal

pub returns-then-is_zero : goal.returns-then-is_zero
unfolding inverse
returns-then-is_zero c = simp (sym c.is_zero.ensures ∙ c.if-is_zero.true)

pub returns-else-is_zero : goal.returns-else-is_zero
unfolding inverse
returns-else-is_zero c = simp (sym c.is_zero.ensures ∙ c.if-is_zero.false)
