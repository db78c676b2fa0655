-- What `iisph_validate` returns, and every element of its two lists afterwards: as of a step with a long enough answer
-- list, but that nothing is told of one that is done. Definitions only.
use Rattle.std.specs.Prelude.{ℕ, ◌≡◌, List, Float, length}
use Rattle.lists.specs.Lists.{choose}
use Rattle.scene_lengths.specs.Lengths.{answers_needed}
use Rattle.scene_format.specs.SceneOf.{scene_of}
use Rattle.iisph_rules.specs.Answer.{step_answer, work_after}
use Rattle.iisph_rules.specs.Step.{StepAnswer}
use Rattle.std.specs.declared.result.Result.TheVariants.{Ok, Err}
use Rattle.iisph_codes.specs.Numbers.{too_short, refused_code, counts_room, refused_counts}

unfoldable pub validate_code : StepAnswer → ℕ
validate_code (Ok r) = 0
validate_code (Err r) = refused_code r

unfoldable pub validate_counts : StepAnswer → List ℕ → List ℕ
validate_counts (Ok r) old = old
validate_counts (Err r) old = refused_counts r old

-- of the bytes b and the two lists: the result r, and the lists afterwards
pub record ValidatesTo (b : List ℕ) (work : List Float) (counts : List ℕ) (r : ℕ) (work' : List Float)
    (counts' : List ℕ) : Type 0 where
  pub result : r
      ≡ choose (counts_room counts) (validate_code (step_answer b (answers_needed (scene_of b)) (length work)))
      too_short
  pub work_then : work' ≡ choose (counts_room counts) (work_after b (answers_needed (scene_of b)) (length work) work)
      work
  pub counts_then : counts'
      ≡ choose (counts_room counts) (validate_counts (step_answer b (answers_needed (scene_of b)) (length work)) counts)
      counts
