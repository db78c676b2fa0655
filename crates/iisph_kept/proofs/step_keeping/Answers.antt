-- `iisph_kept::step_keeping` meets its contract: the lists are what the step leaves, and the clock is moved on where
-- the answer is done and else as it was. Assumes nothing.
use Rattle.std.proofs.Common.{sym, ◌∙◌}
use Rattle.iisph_kept.proofs.Clocks.{moved, kept}
use Rattle.iisph_kept.proofs.step_keeping.Goals as goal

pub returns-then-is_ok : goal.returns-then-is_ok
returns-then-is_ok c =
    (c.step-answer.ensures, c.advance_in_place.ensures ∙ moved _ _ (sym c.if-is_ok.true ∙ c.is_ok.ensures.value))

pub returns-else-is_ok : goal.returns-else-is_ok
returns-else-is_ok c = (c.step-answer.ensures, kept _ _ (sym c.if-is_ok.false ∙ c.is_ok.ensures.value))
