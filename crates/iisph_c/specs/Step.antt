-- What `iisph_step` and `iisph_step_lent` return, and every element of their lists afterwards; of the index, which is
-- scratch, when it is untouched. Definitions only.
use Rattle.std.specs.Prelude.{ℕ, ◌≡◌, Bool, false, ◌&&◌, List, leb, Float, length, set}
use Rattle.std.proofs.lemmas.List.Edits.{sets}
use Rattle.lists.specs.Lists.{choose}
use Rattle.iisph_rules.specs.Answer.{step_answer, answers_after, work_after}
use Rattle.iisph_rules.specs.Endings.{ending_number}
use Rattle.iisph_rules.specs.Step.{StepAnswer}
use Rattle.std.specs.declared.result.Result.TheVariants.{Ok, Err}
use Rattle.iisph_lent.specs.Lent.{LentAnswer, lacks_index, lent_answer, uses_index}
use Rattle.iisph_lent.specs.declared.LentRefusal.TheVariants.{Refused, ShortIndex}
use Rattle.iisph_codes.specs.Numbers.{too_short, short_index, refused_code, counts_room, refused_counts}
use Rattle.iisph_codes.specs.Report.{numbers_needed, report_numbers, report_counts}

-- ---- by the step's answer

unfoldable pub step_code : StepAnswer → ℕ
step_code (Ok r) = ending_number r.ending
step_code (Err r) = refused_code r

unfoldable pub numbers_after : StepAnswer → List Float → List Float
numbers_after (Ok r) old = sets old 0 (report_numbers r)
numbers_after (Err r) old = old

unfoldable pub counts_after : StepAnswer → List ℕ → List ℕ
counts_after (Ok r) old = sets old 0 (report_counts r)
counts_after (Err r) old = refused_counts r old

-- ---- the call

-- whether `numbers` and `counts` are long enough
unfoldable pub has_room : List Float → List ℕ → Bool
has_room numbers counts = leb numbers_needed (length numbers) && counts_room counts

-- by whether there is room for what is written of every answer, of the bytes b and the four lists: the result r, and
-- the lists afterwards
pub record StepsTo (room : Bool) (b : List ℕ) (answers work numbers : List Float) (counts : List ℕ) (r : ℕ)
    (answers' work' numbers' : List Float) (counts' : List ℕ) : Type 0 where
  pub result : r ≡ choose room (step_code (step_answer b (length answers) (length work))) too_short
  pub answers_then : answers' ≡ choose room (answers_after b (length answers) (length work) answers) answers
  pub work_then : work' ≡ choose room (work_after b (length answers) (length work) work) work
  pub numbers_then : numbers'
      ≡ choose room (numbers_after (step_answer b (length answers) (length work)) numbers) numbers
  pub counts_then : counts' ≡ choose room (counts_after (step_answer b (length answers) (length work)) counts) counts

-- ---- by the answer of a step that is lent its index

unfoldable pub lent_code : LentAnswer → ℕ
lent_code (Ok report) = step_code (Ok report)
lent_code (Err (Refused r)) = step_code (Err r)
lent_code (Err (ShortIndex k)) = short_index

unfoldable pub numbers_lent : LentAnswer → List Float → List Float
numbers_lent (Ok report) old = numbers_after (Ok report) old
numbers_lent (Err e) old = old

-- the length needed at 0
unfoldable pub counts_lent : LentAnswer → List ℕ → List ℕ
counts_lent (Ok report) old = counts_after (Ok report) old
counts_lent (Err (Refused r)) old = counts_after (Err r) old
counts_lent (Err (ShortIndex k)) old = set old 0 k

-- as `StepsTo`, with an index of this length
pub record LentTo (room : Bool) (b : List ℕ) (answers work : List Float) (index : ℕ) (numbers : List Float)
    (counts : List ℕ) (r : ℕ) (answers' work' numbers' : List Float) (counts' : List ℕ) : Type 0 where
  pub result : r ≡ choose room (lent_code (lent_answer b (length answers) (length work) index)) too_short
  pub answers_then : answers'
      ≡ choose room
      (choose (lacks_index b (length answers) (length work) index) answers
      (answers_after b (length answers) (length work) answers))
      answers
  pub work_then : work'
      ≡ choose room
      (choose (lacks_index b (length answers) (length work) index) work
      (work_after b (length answers) (length work) work))
      work
  pub numbers_then : numbers'
      ≡ choose room (numbers_lent (lent_answer b (length answers) (length work) index) numbers) numbers
  pub counts_then : counts'
      ≡ choose room (counts_lent (lent_answer b (length answers) (length work) index) counts) counts

-- and when the index is untouched: unless there is room and the passes begin
abbrev pub LentIndex : Bool → List ℕ → List Float → List Float → List ℕ → List ℕ → Type 0
LentIndex room b answers work index index' =
    room && uses_index b (length answers) (length work) (length index) ≡ false → index' ≡ index
