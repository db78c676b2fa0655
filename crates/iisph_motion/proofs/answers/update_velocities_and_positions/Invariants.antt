-- `iisph_motion::answers::update_velocities_and_positions` meets its contract. The loop's invariant: the list is as at
-- entry but for the answers of the first i particles. Assumes nothing.
use mathlib.Core.Path.{◌≡◌}
use Rattle.scene_format.specs.SceneOf.{scene_of}
use Rattle.iisph_rules.specs.Coefficients.{coefficients}
use Rattle.iisph_rules.specs.Step.{fluid_answer}
use Rattle.iisph_pressures.specs.IterationRows.{pressures_in}
use Rattle.lists.specs.Stores.{stored}
use Rattle.scene_lengths.specs.Lengths.{fluid_answer_width}
use Rattle.iisph_motion.proofs.answers.update_velocities_and_positions.Given as goal

abbrev pub invariant-loop-i : goal.invariant-loop-i
invariant-loop-i l =
    let s = scene_of l.over.scene.now in
    let ps = pressures_in l.over.dim l.over.n l.work in
    l.answers
    ≡ stored (fluid_answer_width l.over.dim) l.i 0 (fluid_answer s (coefficients s) ps) l.initial.answers
