-- What a step that is done says: the scene passed the check, both lists are long enough, the report is the rules', so
-- are the answers, and the work list is cleared; and the scene is accepted, since with any other long enough lists the
-- step is done too. Every test that could have refused is taken apart. A refused step leaves the answers as they were.
-- Assumes nothing.
use Prim.Native.Nat.{ℕ}
use mathlib.Core.Path.{◌≡◌, refl}
use mathlib.Core.Bool.{Bool, true, false, ◌||◌}
use mathlib.Core.List.{List, ◌++◌}
use native.Mathlib.Omega.{arith}
use lib.Dec.{ltb}
use lib.ListN.{drop, replicate}
use lib.Ieee.{Float}
use borrow.Author.Tests.{ltb-false, le-ltb}
use Rattle.math.specs.Real.{+0}
use Rattle.lists.specs.Lists.{choose}
use Rattle.scene_format.specs.Refusals.{Walk}
use Rattle.std.specs.declared.result.Result.TheVariants.{Ok, Err}
use Rattle.scene_format.specs.declared.Refusal.{Refusal}
use Rattle.scene_format.specs.declared.Kind.TheVariants.{Fluid}
use Rattle.scene_format.specs.Format.{location_of}
use Rattle.scene_format.specs.Scene.{Scene}
use Rattle.scene_format.specs.SceneOf.{scene_of}
use Rattle.scene_lengths.specs.Lengths.{answers_needed, work_needed}
use Rattle.scene_check.specs.Walk.{checked}
use Rattle.iisph_rules.specs.Step.{answers_of, report_of, StepAnswer, unless_zero, scene_answer}
use Rattle.iisph_rules.specs.Answer.{after_check, lists_short, step_answer, LongEnough, is_done, answers_after}
use Rattle.iisph_rules.specs.Answer.{clears_work, work_after}
use Rattle.iisph_rules.specs.Locality.{AcceptedAnswered, DoneAccepted}
use Rattle.iisph_rules.specs.declared.Report.{Report}

pub never : {A : Type 0} {x : Refusal} {r : Report} → Err x ≡ Ok r → A
never q = let z : ◌≡◌ {A = ℕ} 0 1 = cc in absurd (omega arith)

not_refused : (t : Bool) (x : Refusal) (a : StepAnswer) {r : Report} → choose t (Err x) a ≡ Ok r
    → (t ≡ false) × (a ≡ Ok r)
unfolding choose
not_refused true x a q = never q
not_refused false x a q = (refl, q)

scene_done : (at : ℕ → ℕ) (s : Scene) {r : Report} → scene_answer at s ≡ Ok r → report_of s ≡ r
unfolding scene_answer unless_zero
scene_done at s q =
    let p = (not_refused _ _ _ (not_refused _ _ _ q).1).1 in
    cc

walked : (w : Walk) (a : StepAnswer) {r : Report} → after_check w a ≡ Ok r → (e : ℕ) × (w ≡ Ok e) × (a ≡ Ok r)
unfolding after_check
walked (Ok e) a q = (e, refl, q)
walked (Err x) a q = never q

neither : (s t : Bool) → (s || t) ≡ false → (s ≡ false) × (t ≡ false)
neither true t q = (q, let z : ◌≡◌ {A = ℕ} 0 1 = cc in absurd (omega arith))
neither false t q = (refl, q)

pub long_lists : (b : List ℕ) (answers work : ℕ) → lists_short b answers work ≡ false → LongEnough b answers work
long_lists b answers work e =
    let n = neither (ltb answers (answers_needed (scene_of b))) (ltb work (work_needed (scene_of b))) e in
    record {
      enough_answers = ltb-false answers (answers_needed (scene_of b)) n.0;
      enough_work = ltb-false work (work_needed (scene_of b)) n.1;
    }

pub answers_refused : (b : List ℕ) (answers work : ℕ) {r : Refusal} → step_answer b answers work ≡ Err r
    → (old : List Float) → answers_after b answers work old ≡ old
unfolding answers_after is_done choose
answers_refused b answers work q old = rw q

-- of a call with answer and work lists of these lengths
pub record IsDone (b : List ℕ) (answers work : ℕ) (r : Report) : Type 0 where
  pub end : ℕ
  pub accepted : checked b ≡ Ok end
  pub long : LongEnough b answers work
  pub scene : scene_answer (λ i. (location_of Fluid b i).at) (scene_of b) ≡ Ok r
  pub report : report_of (scene_of b) ≡ r

module _ (b : List ℕ) (answers work : ℕ) {r : Report} (q : step_answer b answers work ≡ Ok r) where
  pub step_done : IsDone b answers work r
  unfolding step_answer
  step_done =
      let (e, p, h) = walked (checked b) _ q in
      let (short, k) = not_refused _ _ _ h in
      record {
        end = e;
        accepted = p;
        long = long_lists b answers work short;
        scene = k;
        report = scene_done _ _ k;
      }

  -- with any other long enough lists it is done too
  step_long : (answers' work' : ℕ) → LongEnough b answers' work' → step_answer b answers' work' ≡ Ok r
  unfolding step_answer after_check choose
  step_long answers' work' h =
      rw (
        step_done.accepted,
        le-ltb answers' (answers_needed (scene_of b)) h.enough_answers,
        le-ltb work' (work_needed (scene_of b)) h.enough_work,
      ) step_done.scene

  pub answers_done : (old : List Float)
      → answers_after b answers work old ≡ answers_of (scene_of b) ++ drop (answers_needed (scene_of b)) old
  unfolding answers_after choose is_done
  answers_done old = rw q

  pub work_done : (old : List Float)
      → work_after b answers work old ≡ replicate (work_needed (scene_of b)) +0 ++ drop (work_needed (scene_of b)) old
  unfolding work_after choose clears_work
  work_done old = rw q

-- ---- accepted scenes

pub done_accepted : DoneAccepted
done_accepted b answers work r q = (record { report = r; done = step_long b answers work q }, refl)

pub accepted_answered : AcceptedAnswered
accepted_answered b a answers work h old =
    let q = a.done answers work h in
    (q, answers_done b answers work q old)
