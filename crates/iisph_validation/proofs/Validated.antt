-- Validating a scene answers and leaves the work list as a step does that is refused, or that is done: by the cases of
-- `step_answer`. Refusals 1 to 8 leave the list alone, and what comes after them clears it. Assumes nothing.
use Prim.Native.Nat.{ℕ, ◌≤◌, ◌<◌}
use mathlib.Core.Path.{◌≡◌, sym, ap, ◌∙◌}
use mathlib.Core.List.{List, ◌++◌}
use native.Mathlib.Omega.{arith}
use lib.Ieee.{Float}
use lib.ListN.{length, drop, replicate}
use borrow.Author.Tests.{lt-ltb, le-ltb}
use Rattle.math.specs.Real.{+0}
use Rattle.scene_format.specs.Format.{location_of}
use Rattle.scene_format.specs.SceneOf.{scene_of}
use Rattle.scene_lengths.specs.Lengths.{answers_needed, work_needed}
use Rattle.scene_check.specs.Walk.{checked}
use Rattle.scene_format.specs.declared.Kind.TheVariants.{Fluid}
use Rattle.scene_format.specs.declared.Refusal.{Refusal}
use Rattle.scene_format.specs.declared.Refusal.TheVariants.{ShortList}
use Rattle.std.specs.declared.result.Result.TheVariants.{Ok, Err}
use Rattle.iisph_rules.specs.Step.{scene_answer}
use Rattle.iisph_preparation.specs.Prepare.{work_prepared, readiness}
use Rattle.iisph_validation.specs.Validate.{Validates}
use Rattle.iisph_rules.proofs.Cases.{refused_answer, short_answer, scene_answer_lem, work_refused, work_short}
use Rattle.iisph_rules.proofs.Cases.{work_cleared}
use Rattle.iisph_preparation.proofs.Prepared.{beyond}

module _ (b : List ℕ) (work : List Float) where
  -- refusals 1 to 7
  pub refused_validates : {r : Refusal} → checked b ≡ Err r → Validates b work (Err r) work
  unfolding readiness
  refused_validates q =
      record {
        answer = rw (refused_answer b (answers_needed (scene_of b)) (length work) q);
        list = sym
            (work_refused b (answers_needed (scene_of b)) (length work) q work);
      }

  module _ {e : ℕ} (q : checked b ≡ Ok e) where
    -- 8
    pub short_validates : length work < work_needed (scene_of b) → Validates b work (Err ShortList) work
    unfolding readiness
    short_validates h =
        let n = answers_needed (scene_of b) in
        let s = short_answer b n (length work) q (rw (le-ltb n n (omega arith), lt-ltb (length work) _ h)) in
        record { answer = rw s; list = sym (work_short b n (length work) s work) }

    -- 9 and 10, where the passes have cleared the list
    pub zero_validates : work_needed (scene_of b) ≤ length work → {r : Refusal} {x : List Float}
        → Err r ≡ readiness (scene_answer (λ i. (location_of Fluid b i).at) (scene_of b))
        → x ≡ work_prepared b (Err r) work → Validates b work (Err r) x
    unfolding work_prepared
    zero_validates h e p =
        let s = scene_answer_lem b (answers_needed (scene_of b)) (length work) q (omega arith) h in
        record {
          answer = e ∙ ap readiness (sym s);
          list = p ∙ sym (work_cleared b (answers_needed (scene_of b)) (length work) s work);
        }

    -- every accepted scene: the passes, then the list cleared
    pub ready_validates : work_needed (scene_of b) ≤ length work → {x after : List Float} {n : ℕ}
        → Ok tt ≡ readiness (scene_answer (λ i. (location_of Fluid b i).at) (scene_of b))
        → x ≡ work_prepared b (Ok tt) work
        → n ≡ work_needed (scene_of b)
        → after ≡ replicate n +0 ++ drop n x
        → Validates b work (Ok tt) after
    ready_validates h e p n w =
        let s = scene_answer_lem b (answers_needed (scene_of b)) (length work) q (omega arith) h in
        record {
          answer = e ∙ ap readiness (sym s);
          list = w ∙ rw (n, p, beyond b work (Ok tt))
              (sym (work_cleared b (answers_needed (scene_of b)) (length work) s work));
        }
