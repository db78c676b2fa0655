-- A step that is done on a scene that passed the check and is short enough: the lines fit where every text has room,
-- and they read answers that are there. From what the step's answer says of the scene. Assumes nothing.
use Prim.Native.Nat.{ℕ, ◌+◌, ◌≤◌}
use mathlib.Core.Path.{◌≡◌, sym, ap, ◌∙◌}
use mathlib.Core.List.{List, ◌++◌}
use native.Mathlib.Omega.{arith}
use lib.ListN.{length, drop, length-append}
use lib.Ieee.{Float}
use Rattle.scene_format.specs.Bytes.{Bytes}
use Rattle.scene_format.specs.SceneOf.{scene_of}
use Rattle.scene_format.specs.declared.Kind.TheVariants.{Fluid, Boundary}
use Rattle.std.specs.declared.result.Result.TheVariants.{Ok}
use Rattle.scene_check.proofs.Accepted.{accepted_length}
use Rattle.scene_lengths.specs.Lengths.{answers_in, answers_needed}
use Rattle.scene_lengths.proofs.Needed.{fluid_answers, answers_needed_lem}
use Rattle.iisph_rules.specs.Answer.{step_answer, answers_after}
use Rattle.iisph_rules.specs.Step.{answers_of}
use Rattle.iisph_rules.specs.declared.Report.{Report}
use Rattle.iisph_rules.specs.Step.{StepAnswer}
use Rattle.iisph_rules.proofs.Reports.{step_done, answers_done}
use Rattle.iisph_rules.proofs.Sizes.{length_answers, beyond_answers}
use Rattle.iisph_words.specs.declared.text.Text.{Text}
use Rattle.iisph_words.specs.Texts.{HasRoom, Adds}
use Rattle.iisph_lines.specs.Lines.{step_line, clock_line, particles_text}
use Rattle.iisph_lines.proofs.Behind.{text_behind}
use Rattle.iisph_lent.specs.Step.{Steps}
use Rattle.iisph_text.specs.Text.{most_bytes, answer_text}
use Rattle.iisph_text.specs.Run.{text_room, Reported, behind, LinesReady}
use Rattle.iisph_text.proofs.Texts.{done_room}

-- ---- what a step's answer says

module _ (b : List ℕ) (answers work : ℕ) {r : Report} (q : step_answer b answers work ≡ Ok r) where
  reported : Reported b r
  reported =
      let d = step_done b answers work q in
      record { accepted = d.accepted ∙ ap Ok (accepted_length b d.accepted); report = d.report }

  -- the answers stand in front of the list
  answers_front : (old : List Float) {xs : List Float} → xs ≡ answers_after b answers work old
      → xs ≡ answers_of (scene_of b) ++ drop (answers_needed (scene_of b)) xs
  answers_front old e =
      e
      ∙ answers_done b answers work q old
      ∙ ap (λ (rest : List Float). answers_of (scene_of b) ++ rest)
      (sym (beyond_answers b answers work old) ∙ ap (drop (answers_needed (scene_of b))) (sym e))

-- ---- the lines of an accepted scene, which read a list with the answers in front

module _ (b : List ℕ) (y : Bytes b) where
  fluids_needed : answers_in Fluid b ≤ answers_needed (scene_of b)
  fluids_needed = omega (arith, answers_needed_lem b y, fluid_answers b)

  boundaries_needed : behind b + answers_in Boundary b ≤ answers_needed (scene_of b)
  boundaries_needed = omega (arith, answers_needed_lem b y)

  module _ {xs : List Float} (rest : List Float) (x : xs ≡ answers_of (scene_of b) ++ rest) where
    needed_there : answers_needed (scene_of b) ≤ length xs
    needed_there = omega (arith, ap length x, length-append (answers_of (scene_of b)) rest, length_answers b)

    lines_ready : {r : Report} {t : Text} → Reported b r → length b ≤ most_bytes → HasRoom t text_room
        → LinesReady b xs r t
    lines_ready d short h =
        record {
          fluids = omega (arith, needed_there, fluids_needed);
          boundaries = omega (arith, needed_there, boundaries_needed);
          room = omega (arith, done_room b y d (behind b) xs);
        }

    lines_same : particles_text b xs ≡ particles_text b (answers_of (scene_of b))
    unfolding particles_text
    lines_same =
        let long = length_answers b in
        let same = text_behind (answers_of (scene_of b)) rest in
        rw (
          x,
          same Fluid b 0 (omega (arith, fluids_needed)),
          same Boundary b (behind b) (omega (arith, boundaries_needed)),
        )

    lines_added : (r : Report) {t t' : Text} → Adds t (step_line r ++ clock_line r.clock ++ particles_text b xs) t'
        → Adds t (answer_text b (Ok r)) t'
    unfolding answer_text
    lines_added r w = rw lines_same at w

-- ---- what a step that is done comes to, from its contract

module _ {b : List ℕ} (y : Bytes b) {answers work answers' work' : List Float} {a : StepAnswer}
    (s : Steps b answers work a answers' work') {r : Report} (q : a ≡ Ok r) where
  abbrev is_done_lem : step_answer b (length answers) (length work) ≡ Ok r
  is_done_lem = sym s.answer ∙ q

  front : answers' ≡ answers_of (scene_of b) ++ drop (answers_needed (scene_of b)) answers'
  front = answers_front b (length answers) (length work) is_done_lem answers s.answers_then

  pub done_ready : {t : Text} → length b ≤ most_bytes → HasRoom t text_room → LinesReady b answers' r t
  done_ready short room =
      lines_ready b y _ front (reported b (length answers) (length work) is_done_lem) short room

  pub done_added : {t t' : Text} → Adds t (step_line r ++ clock_line r.clock ++ particles_text b answers') t'
      → Adds t (answer_text b (step_answer b (length answers) (length work))) t'
  done_added w = rw is_done_lem (lines_added b y _ front r w)
