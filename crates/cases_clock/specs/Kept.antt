-- What a clock is after a step that it is lent to, and after steps on scenes that are read: no contract can say which.
-- Definitions only.
use Rattle.std.specs.Prelude.{ℕ, ◌≡◌, List, length, Float}
use Rattle.timestep_manager.specs.declared.Clock.{Clock}
use Rattle.iisph_rules.specs.Answer.{step_answer, answers_after, work_after}
use Rattle.iisph_kept.specs.Kept.{clock_after}

-- of the bytes b, a clock and the two lists: the clock and the lists afterwards
pub record Keeps (b : List ℕ) (c : Clock) (answers work : List Float) (c' : Clock)
    (answers' work' : List Float) : Type 0 where
  pub clock : c' ≡ clock_after (step_answer b (length answers) (length work)) c
  pub answers_then : answers' ≡ answers_after b (length answers) (length work) answers
  pub work_then : work' ≡ work_after b (length answers) (length work) work

-- after a step on some scene, with lists of 14 and 28 doubles
pub record FromScene (c c' : Clock) : Type 0 where
  pub scene : List ℕ
  pub clock : c' ≡ clock_after (step_answer scene 14 28) c
