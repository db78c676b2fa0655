-- `iisph_solver::step::step_sized` meets its contract: lists that are too short are 8; else the index of the size that
-- is chosen is long enough. Assumes nothing.
use mathlib.Core.Path.{sym, ◌∙◌}
use Rattle.iisph_rules.proofs.Reports.{long_lists}
use Rattle.iisph_lent.proofs.Stepped.{short_steps}
use Rattle.iisph_solver.proofs.step.step_sized.Goals as goal

pub returns-then-lists_short : goal.returns-then-lists_short
returns-then-lists_short c =
    short_steps c.args.scene.now c.args.answers.now c.args.work.now c.requires.walk
    (sym c.lists_short.ensures ∙ c.if-lists_short.true)

pub step_within-requires-clause-passed : goal.step_within-requires-clause-passed
step_within-requires-clause-passed c =
    (c.requires, long_lists _ _ _ (sym c.lists_short.ensures ∙ c.if-lists_short.false))

pub step_within-requires-then-needed-le-MIDDLE_INDEX-clause-passed
    : goal.step_within-requires-then-needed-le-MIDDLE_INDEX-clause-passed
step_within-requires-then-needed-le-MIDDLE_INDEX-clause-passed c =
    (c.requires, long_lists _ _ _ (sym c.lists_short.ensures ∙ c.if-lists_short.false))

pub step_largest-requires : goal.step_largest-requires
step_largest-requires c = (c.requires, long_lists _ _ _ (sym c.lists_short.ensures ∙ c.if-lists_short.false))
