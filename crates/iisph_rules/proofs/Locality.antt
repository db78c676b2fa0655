-- The claims of specs/Locality.antt: what two packed scenes have in common at a particle's own bytes, their scenes have
-- in common at the particle's number, so locality on scenes says it of the rules' values, and with them of the answer
-- lists. The number of iterations is the most where the least plus one is at least that. Assumes nothing.
use Prim.Native.Nat.{ℕ, ◌+◌, ◌*◌, ◌<◌}
use mathlib.Core.Path.{◌≡◌, refl, sym, ap, ◌∙◌}
use mathlib.Core.List.{List, append_assoc}
use native.Mathlib.Omega.{arith}
use lib.Ieee.{Float}
use Rattle.lists.proofs.Numbering.{sum_same}
use Rattle.lists.proofs.Rows.{row_at_lem}
use Rattle.scene_format.specs.Format.{axes_of}
use Rattle.scene_format.specs.Scene.{fluid_size}
use Rattle.scene_format.specs.SceneOf.{header_of, scene_of}
use Rattle.scene_lengths.specs.Lengths.{fluid_answer_width, answers_needed, work_needed}
use Rattle.scene_check.proofs.OwnBytes.{same_scene_header, same_fluid_size, same_particle, same_boundary}
use Rattle.iisph_rules.specs.Coefficients.{coefficients}
use Rattle.iisph_rules.specs.Step.{solution, fluid_answer, answers_from, answers_of, report_of}
use Rattle.iisph_rules.specs.Answer.{LongEnough, Accepted, answers_after}
use Rattle.iisph_rules.specs.Locality.{Matched, SameAround, FluidLocality, SameNumberLocality}
use Rattle.iisph_rules.specs.Locality.{MostIterations, answers_for, FluidAnswerLocality}
use Rattle.iisph_rules.proofs.Iterations.{solution_max}
use Rattle.iisph_rules.proofs.Near.{Near, SameSize}
use Rattle.iisph_rules.proofs.SceneLocality.{scene_locality}
use Rattle.iisph_rules.proofs.Reports.{step_done, accepted_answered}
use Rattle.iisph_rules.proofs.Sizes.{length-fluid}

-- ---- an accepted scene

pub needed : {b : List ℕ} → LongEnough b (answers_needed (scene_of b)) (work_needed (scene_of b))
needed = record { enough_answers = omega arith; enough_work = omega arith }

-- what its step reports is what the rules yield
pub accepted_report : {b : List ℕ} (a : Accepted b) → report_of (scene_of b) ≡ a.report
accepted_report {b} a = (step_done b _ _ (a.done _ _ needed)).report

taken : {k : ℕ} {b : List ℕ} (a : Accepted b) → a.report.iterations ≡ k → (solution (scene_of b)).iterations ≡ k
unfolding report_of
taken a e = ap (λ r. r.iterations) (accepted_report a) ∙ e

pub most_iterations : MostIterations
unfolding scene_of header_of
most_iterations b a h = sym (taken a refl) ∙ solution_max (scene_of b) h

-- ---- two scenes, by the rules

module _ {b b' : List ℕ} (m : Matched b b') where
  alike : SameSize (scene_of b) (scene_of b')
  alike = record { headers = same_scene_header m.shape; sizes = same_fluid_size m.shape }

  near : (k i : ℕ) → SameAround k b b' i → Near (scene_of b) (scene_of b') (2 * k + 2) i
  near k i h j w =
      let r = h j w in
      record {
        own = same_particle m.shape j (λ _. r.own);
        named = λ l n. same_boundary m.shape m.bytes m.bytes' l (λ _. r.named l n);
      }

pub fluid_locality : FluidLocality
fluid_locality k b b' p i h =
    let m = p.matched in
    scene_locality (alike m) k (taken m.accepted p.iterations) (taken m.accepted' p.iterations')
    i (near m k i h)

pub same_number_locality : SameNumberLocality
same_number_locality b b' m e = fluid_locality _ b b' (record { matched = m; iterations = refl; iterations' = sym e })

-- ---- and in their answer lists

-- what the rules yield for fluid particle i stands in its part of the answer list
answers_for_lem : (b : List ℕ) (a : Accepted b) (answers work : ℕ) → LongEnough b answers work →
    (old : List Float) (i : ℕ)
    → i < fluid_size (scene_of b)
    → answers_for b i (answers_after b answers work old)
    ≡ fluid_answer (scene_of b) (coefficients (scene_of b)) (solution (scene_of b)).pressures i
unfolding answers_of answers_from
answers_for_lem b a answers work h old i l =
    rw ((accepted_answered b a answers work h old).1, append_assoc, ← sum_same (fluid_answer_width (axes_of b)) i)
    (row_at_lem (fluid_size (scene_of b)) _ (λ _. fluid_answer_width (axes_of b)) (length-fluid b _ _) _ i l)

pub fluid_answer_locality : FluidAnswerLocality
unfolding fluid_answer
fluid_answer_locality k b b' p i l h answers work answers' work' q q' old old' =
    let m = p.matched in
    let v = fluid_locality k b b' p i h in
    answers_for_lem b m.accepted answers work q old i l
    ∙ cc (v.positions, v.velocities, v.pressures)
    ∙ sym (answers_for_lem b' m.accepted' answers' work' q' old' i (rw (same_fluid_size m.shape) at l))
