-- What a step answers and leaves in both lists, case by case: refused by the check, lists too short, a zero density, or
-- done. Each case unfolds the rules' answer once. Assumes nothing.
use Prim.Native.Nat.{ℕ, ◌≤◌, ◌<◌}
use mathlib.Core.Path.{◌≡◌, refl}
use mathlib.Core.Bool.{true}
use mathlib.Core.List.{List, ◌++◌}
use native.Mathlib.Omega.{arith}
use lib.Ieee.{Float}
use lib.ListN.{drop, replicate}
use borrow.Author.Tests.{le-ltb, lt-leb}
use Rattle.math.specs.Real.{+0}
use Rattle.lists.specs.Lists.{choose}
use Rattle.scene_format.specs.Format.{location_of}
use Rattle.scene_format.specs.SceneOf.{scene_of}
use Rattle.scene_lengths.specs.Lengths.{answers_needed, work_needed}
use Rattle.scene_format.specs.Refusals.{number_of}
use Rattle.scene_check.specs.Walk.{checked}
use Rattle.scene_format.specs.declared.Kind.TheVariants.{Fluid}
use Rattle.scene_format.specs.declared.Refusal.{Refusal}
use Rattle.scene_format.specs.declared.Refusal.TheVariants.{ShortList}
use Rattle.std.specs.declared.result.Result.TheVariants.{Ok, Err}
use Rattle.scene_check.proofs.Early.{refused_early}
use Rattle.iisph_rules.specs.Answer.{after_check, lists_short, step_answer, clears_work, work_after}
use Rattle.iisph_rules.specs.Step.{StepAnswer, unless_zero, scene_answer}
use Rattle.iisph_rules.proofs.Iterations.{chosen}

pub scene_clears : (b : List ℕ) → clears_work (scene_answer (λ i. (location_of Fluid b i).at) (scene_of b)) ≡ true
unfolding scene_answer unless_zero clears_work
scene_clears b =
    chosen (λ (x : StepAnswer). clears_work x ≡ true) _ _ _ (λ _. refl)
    (λ _. chosen (λ (x : StepAnswer). clears_work x ≡ true) _ _ _ (λ _. refl) (λ _. refl))

-- ---- the answer, for lists of these lengths

module _ (b : List ℕ) (answers work : ℕ) where
  -- refusals 1 to 7
  pub refused_answer : {r : Refusal} → checked b ≡ Err r → step_answer b answers work ≡ Err r
  unfolding step_answer after_check
  refused_answer q = rw q

  module _ {e : ℕ} (q : checked b ≡ Ok e) where
    -- 8
    pub short_answer : lists_short b answers work ≡ true → step_answer b answers work ≡ Err ShortList
    unfolding step_answer after_check choose
    short_answer h = rw (q, h)

    pub scene_answer_lem : answers_needed (scene_of b) ≤ answers → work_needed (scene_of b) ≤ work
        → step_answer b answers work ≡ scene_answer (λ i. (location_of Fluid b i).at) (scene_of b)
    unfolding step_answer after_check choose
    scene_answer_lem l h = rw (
      q,
      le-ltb answers (answers_needed (scene_of b)) l,
      le-ltb work (work_needed (scene_of b)) h,
    )

  -- ---- the work list

  work_early : {r : Refusal} → step_answer b answers work ≡ Err r → number_of r < 9 → (old : List Float)
      → work_after b answers work old ≡ old
  unfolding work_after clears_work choose
  work_early {r} q h old = rw (q, lt-leb 9 (number_of r) h)

  pub work_refused : {r : Refusal} → checked b ≡ Err r → (old : List Float)
      → work_after b answers work old ≡ old
  work_refused q old = work_early (refused_answer q) (early (refused_early b q)) old
    where
      early : {n : ℕ} → n ≤ 7 → n < 9
      early h = omega arith

  pub work_short : step_answer b answers work ≡ Err ShortList → (old : List Float)
      → work_after b answers work old ≡ old
  work_short q old = work_early q (omega arith) old

  -- 9, 10, and every accepted scene
  pub work_cleared : step_answer b answers work ≡ scene_answer (λ i. (location_of Fluid b i).at) (scene_of b)
      → (old : List Float)
      → work_after b answers work old ≡ replicate (work_needed (scene_of b)) +0 ++ drop (work_needed (scene_of b)) old
  unfolding work_after choose
  work_cleared q old = rw (q, scene_clears b)
