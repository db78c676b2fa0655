-- The step's contract: what it answers, and every element of both lists afterwards, for all bytes and all lists.
-- `Steps` is the promise; what follows it is scaffolding. Definitions only.
use Rattle.std.specs.Prelude.{ℕ, ◌≡◌, List, ◌++◌, Float, length, drop, replicate}
use Rattle.math.specs.Real.{+0}
use Rattle.scene_format.specs.SceneOf.{scene_of}
use Rattle.scene_lengths.specs.Lengths.{answers_needed, work_needed}
use Rattle.iisph_rules.specs.Answer.{step_answer, answers_after, work_after}
use Rattle.iisph_rules.specs.Step.{answers_of, report_of}
use Rattle.iisph_rules.specs.declared.Report.{Report}
use Rattle.iisph_rules.specs.Step.{StepAnswer}

-- of the bytes b and the two lists: the answer r, and the lists afterwards
pub record Steps (b : List ℕ) (answers work : List Float) (r : StepAnswer) (answers' work' : List Float) : Type 0 where
  pub answer : r ≡ step_answer b (length answers) (length work)
  pub answers_then : answers' ≡ answers_after b (length answers) (length work) answers
  pub work_then : work' ≡ work_after b (length answers) (length work) work

-- of a scene that is not refused, from the list that its iterations begin with
pub record Finishes (b : List ℕ) (answers work : List Float) (r : Report) (answers' work' : List Float) : Type 0 where
  pub report : r ≡ report_of (scene_of b)
  pub answers_then : answers' ≡ answers_of (scene_of b) ++ drop (answers_needed (scene_of b)) answers
  pub work_then : work' ≡ replicate (work_needed (scene_of b)) +0 ++ drop (work_needed (scene_of b)) work
