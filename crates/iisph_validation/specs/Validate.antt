-- What is said of a scene without solving it: whether a step with a long enough answer list would refuse it.
-- Definitions only.
use Rattle.std.specs.Prelude.{◌≡◌, List, ℕ, Float, length}
use Rattle.scene_format.specs.SceneOf.{scene_of}
use Rattle.scene_lengths.specs.Lengths.{answers_needed}
use Rattle.iisph_rules.specs.Answer.{step_answer, work_after}
use Rattle.iisph_preparation.specs.Prepare.{readiness}
use Rattle.iisph_rules.specs.Step.{Readiness}

-- of the bytes b and a work list, which is left as that step leaves it
pub record Validates (b : List ℕ) (work : List Float) (r : Readiness) (after : List Float) : Type 0 where
  pub answer : r ≡ readiness (step_answer b (answers_needed (scene_of b)) (length work))
  pub list : after ≡ work_after b (answers_needed (scene_of b)) (length work) work
