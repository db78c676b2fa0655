-- A step meets its contract in each case: refused by the check, by a short list or by a zero density, or done. From the
-- cases of the rules' answer and what the passes left in both lists. Assumes nothing.
use Prim.Native.Nat.{ℕ}
use mathlib.Core.Path.{◌≡◌, sym, ap, ◌∙◌}
use mathlib.Core.Bool.{true}
use mathlib.Core.List.{List}
use lib.Ieee.{Float}
use lib.ListN.{length}
use Rattle.scene_format.specs.Format.{location_of}
use Rattle.scene_format.specs.SceneOf.{scene_of}
use Rattle.scene_check.specs.Walk.{checked}
use Rattle.scene_format.specs.declared.Kind.TheVariants.{Fluid}
use Rattle.scene_format.specs.declared.Refusal.{Refusal}
use Rattle.scene_format.specs.declared.Refusal.TheVariants.{ShortList}
use Rattle.std.specs.declared.result.Result.TheVariants.{Ok, Err}
use Rattle.iisph_rules.specs.Answer.{lists_short, step_answer, LongEnough}
use Rattle.iisph_rules.specs.Step.{scene_answer}
use Rattle.iisph_rules.specs.declared.Report.{Report}
use Rattle.iisph_rules.proofs.Reports.{answers_refused, answers_done, work_done}
use Rattle.iisph_preparation.specs.Prepare.{work_prepared, readiness}
use Rattle.iisph_lent.specs.Step.{Steps, Finishes}
use Rattle.iisph_rules.proofs.Cases.{refused_answer, short_answer, scene_answer_lem, work_refused, work_short}
use Rattle.iisph_rules.proofs.Cases.{work_cleared}
use Rattle.iisph_preparation.proofs.ZeroRefusals.{refused_step, ready_step}
use Rattle.iisph_preparation.proofs.Prepared.{beyond}

module _ (b : List ℕ) (answers work : List Float) where
  -- refusals 1 to 7
  pub refused_steps_lem : {r : Refusal} → checked b ≡ Err r → Steps b answers work (Err r) answers work
  refused_steps_lem q =
      let a = refused_answer b (length answers) (length work) q in
      record {
        answer = sym a;
        answers_then = sym (answers_refused b (length answers) (length work) a answers);
        work_then = sym (work_refused b (length answers) (length work) q work);
      }

  module _ {e : ℕ} (q : checked b ≡ Ok e) where
    -- 8
    pub short_steps : lists_short b (length answers) (length work) ≡ true
        → Steps b answers work (Err ShortList) answers work
    short_steps h =
        let a = short_answer b (length answers) (length work) q h in
        record {
          answer = sym a;
          answers_then = sym (answers_refused b (length answers) (length work) a answers);
          work_then = sym (work_short b (length answers) (length work) a work);
        }

    module _ (long : LongEnough b (length answers) (length work)) where
      abbrev scene : step_answer b (length answers) (length work)
          ≡ scene_answer (λ i. (location_of Fluid b i).at) (scene_of b)
      scene = scene_answer_lem b (length answers) (length work) q long.enough_answers long.enough_work

      -- 9 and 10
      pub zero-steps : {r : Refusal} {after : List Float}
          → Err r ≡ readiness (scene_answer (λ i. (location_of Fluid b i).at) (scene_of b))
          → after ≡ work_prepared b (Err r) work → Steps b answers work (Err r) answers after
      unfolding work_prepared
      zero-steps {r} z w =
          let a = scene ∙ refused_step _ z in
          record {
            answer = sym a;
            answers_then = sym (answers_refused b (length answers) (length work) a answers);
            work_then = w ∙ sym (work_cleared b (length answers) (length work) scene work);
          }

      -- done
      pub done_steps : {x : List Float} {report : Report} {answers' work' : List Float}
          → Ok tt ≡ readiness (scene_answer (λ i. (location_of Fluid b i).at) (scene_of b))
          → x ≡ work_prepared b (Ok tt) work → Finishes b answers x report answers' work'
          → Steps b answers work (Ok report) answers' work'
      done_steps {x} {report} z p f =
          let a : step_answer b (length answers) (length work) ≡ Ok report = scene ∙ ready_step _ (scene_of b) z
          ∙ ap Ok (sym f.report) in
          record {
            answer = sym a;
            answers_then = f.answers_then ∙ sym (answers_done b (length answers) (length work) a answers);
            work_then = f.work_then
                ∙ rw (p, beyond b work (Ok tt)) (sym (work_done b (length answers) (length work) a work));
          }
