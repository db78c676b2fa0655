-- `iisph_motion::answers::update_velocities_and_positions` meets its contract: a turn stores the answers of one
-- particle more. Assumes nothing.
use lib.Ieee.{nan}
use Rattle.scene_format.specs.SceneOf.{scene_of}
use Rattle.iisph_rules.specs.Coefficients.{coefficients}
use Rattle.iisph_rules.specs.Step.{fluid_answer}
use Rattle.iisph_pressures.specs.IterationRows.{pressures_in}
use Rattle.lists.specs.Stores.{in_rows}
use Rattle.lists.proofs.Stores.{stored_none}
use Rattle.scene_lengths.specs.Lengths.{fluid_answer_width}
use Rattle.iisph_motion.proofs.Motions.{answers_next}
use Rattle.iisph_motion.proofs.answers.update_velocities_and_positions.Goals as goal

pub loop-i-init : goal.loop-i-init
loop-i-init c = stored_none nan (in_rows _) 0 _ _

pub loop-i-preserved : goal.loop-i-preserved
loop-i-preserved c =
    let a = c.args in
    let s = scene_of a.over.scene.now in
    let ps = pressures_in a.over.dim a.over.n a.work.now in
    answers_next (fluid_answer_width a.over.dim) (fluid_answer s (coefficients s) ps) a.answers.now c.loop-i.i
    c.loop-i.invariant
    c.put_answer.ensures
