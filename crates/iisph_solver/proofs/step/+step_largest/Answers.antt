-- `iisph_solver::step::step_largest` meets its contract: its index is long enough for every accepted scene, so it does
-- not call itself. Assumes nothing.
use native.Mathlib.Omega.{arith}
use Rattle.scene_index.proofs.Indexes.{index_few}
use Rattle.iisph_solver.proofs.step.+step_largest.Goals as goal

pub step_long-answer-requires-clause-scene_in_bounds : goal.step_long-answer-requires-clause-scene_in_bounds
step_long-answer-requires-clause-scene_in_bounds t c = omega (arith, index_few c.requires.0)

pub step_largest-requires : goal.step_largest-requires
step_largest-requires t c =
    absurd (omega (arith, index_few c.requires.0, c.if-index_needed-gt-LONGEST_INDEX.true, c.index_needed.ensures))

pub returns-then-index_needed-gt-LONGEST_INDEX : goal.returns-then-index_needed-gt-LONGEST_INDEX
returns-then-index_needed-gt-LONGEST_INDEX t c =
    absurd (omega (arith, index_few c.requires.0, c.if-index_needed-gt-LONGEST_INDEX.true, c.index_needed.ensures))
