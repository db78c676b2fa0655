-- The contract of a step that is lent its index: what it answers, every element of both lists afterwards, and when the
-- index is untouched, for all bytes, lists and indexes. Definitions only.
use Rattle.std.specs.Prelude.{ℕ, ◌≡◌, Bool, false, ◌&&◌, List, leb, ltb, Float, length}
use Rattle.lists.specs.Lists.{choose}
use Rattle.scene_index.specs.Index.{index_needed}
use Rattle.iisph_rules.specs.Answer.{step_answer, answers_after, clears_work, work_after}
use Rattle.std.specs.declared.result.Result.{Result}
use Rattle.std.specs.declared.result.Result.TheVariants.{Ok, Err}
use Rattle.iisph_rules.specs.Step.{StepAnswer}
use Rattle.iisph_rules.specs.declared.Report.{Report}
use Rattle.iisph_lent.specs.declared.LentRefusal.{LentRefusal}
use Rattle.iisph_lent.specs.declared.LentRefusal.TheVariants.{Refused, ShortIndex}

abbrev pub LentAnswer : Type 0
LentAnswer = Result Report LentRefusal

-- what a step answers that has its index
unfoldable pub answered : StepAnswer → LentAnswer
answered (Ok report) = Ok report
answered (Err r) = Err (Refused r)

-- whether the passes, which begin unless 1 to 8 refused, lack an index: `index` is the length of the lent one
unfoldable pub lacks_index : List ℕ → ℕ → ℕ → ℕ → Bool
lacks_index b answers work index = clears_work (step_answer b answers work) && ltb index (index_needed b)

unfoldable pub lent_answer : List ℕ → ℕ → ℕ → ℕ → LentAnswer
lent_answer b answers work index =
    choose (lacks_index b answers work index) (Err (ShortIndex (index_needed b)))
    (answered (step_answer b answers work))

-- of the bytes b, the two lists and an index of this length: the answer r, and the lists afterwards, which are those of
-- `Steps`, or untouched
pub record StepsLent (b : List ℕ) (answers work : List Float) (index : ℕ) (r : LentAnswer) (answers' work' : List Float)
    : Type 0 where
  pub answer : r ≡ lent_answer b (length answers) (length work) index
  pub answers_then : answers'
      ≡ choose (lacks_index b (length answers) (length work) index) answers
      (answers_after b (length answers) (length work) answers)
  pub work_then : work'
      ≡ choose (lacks_index b (length answers) (length work) index) work
      (work_after b (length answers) (length work) work)

-- whether the passes begin, with an index of this length
unfoldable pub uses_index : List ℕ → ℕ → ℕ → ℕ → Bool
uses_index b answers work index = clears_work (step_answer b answers work) && leb (index_needed b) index

-- then it is scratch; else it is as it was
abbrev pub IndexAfter : List ℕ → List Float → List Float → List ℕ → List ℕ → Type 0
IndexAfter b answers work index index' =
    uses_index b (length answers) (length work) (length index) ≡ false → index' ≡ index
