-- What a step answers and what both lists then are, for all bytes and all lengths (FORMAT 2 and 3): the definitions
-- that its contract cites. `answers` and `work` are the lengths of the two lists. Definitions only.
use Rattle.std.specs.Prelude.{ℕ, ◌≤◌, ◌≡◌, Bool, true, false, ◌||◌, List, ◌++◌, leb, ltb, drop, replicate, Float}
use Rattle.math.specs.Real.{+0}
use Rattle.lists.specs.Lists.{choose}
use Rattle.scene_format.specs.Refusals.{Walk}
use Rattle.std.specs.declared.result.Result.TheVariants.{Ok, Err}
use Rattle.scene_format.specs.declared.Refusal.TheVariants.{ShortList}
use Rattle.scene_format.specs.Refusals.{number_of}
use Rattle.scene_check.specs.Walk.{checked}
use Rattle.scene_format.specs.declared.Kind.TheVariants.{Fluid}
use Rattle.scene_format.specs.Format.{location_of}
use Rattle.scene_format.specs.SceneOf.{scene_of}
use Rattle.scene_lengths.specs.Lengths.{answers_needed, work_needed}
use Rattle.iisph_rules.specs.Step.{answers_of, StepAnswer, scene_answer}
use Rattle.iisph_rules.specs.declared.Report.{Report}

-- refusals 1 to 7 come first
unfoldable pub after_check : Walk → StepAnswer → StepAnswer
after_check (Ok end) answer = answer
after_check (Err r) answer = Err r

-- whether a list is too short
abbrev pub lists_short : List ℕ → ℕ → ℕ → Bool
lists_short b answers work = ltb answers (answers_needed (scene_of b)) || ltb work (work_needed (scene_of b))

-- then 8, then 9 and 10
unfoldable pub step_answer : List ℕ → ℕ → ℕ → StepAnswer
step_answer b answers work =
    after_check (checked b)
    (choose (lists_short b answers work) (Err ShortList)
    (scene_answer (λ i. (location_of Fluid b i).at) (scene_of b)))

-- lists of these lengths are as long as a step needs them
pub record LongEnough (b : List ℕ) (answers work : ℕ) : Type 0 where
  pub enough_answers : answers_needed (scene_of b) ≤ answers
  pub enough_work : work_needed (scene_of b) ≤ work

-- an accepted packed scene: a step with long enough lists does not refuse it; and what such a step reports
pub record Accepted (b : List ℕ) : Type 0 where
  pub report : Report
  pub done : (answers work : ℕ) → LongEnough b answers work → step_answer b answers work ≡ Ok report

-- whether there are answers to write
unfoldable pub is_done : StepAnswer → Bool
is_done (Ok r) = true
is_done (Err r) = false

-- the needed front part is the rules' values; the old elements stay behind
unfoldable pub answers_after : List ℕ → ℕ → ℕ → List Float → List Float
answers_after b answers work old =
    choose (is_done (step_answer b answers work)) (answers_of (scene_of b) ++ drop (answers_needed (scene_of b)) old)
    old

-- whether the passes have used the work list, so that it is cleared: unless 1 to 8 refused
unfoldable pub clears_work : StepAnswer → Bool
clears_work (Ok r) = true
clears_work (Err r) = leb 9 (number_of r)

unfoldable pub work_after : List ℕ → ℕ → ℕ → List Float → List Float
work_after b answers work old =
    choose (clears_work (step_answer b answers work))
    (replicate (work_needed (scene_of b)) +0 ++ drop (work_needed (scene_of b)) old) old
