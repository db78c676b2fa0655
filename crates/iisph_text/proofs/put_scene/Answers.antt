-- `iisph_text::put_scene` meets its contract: by the verdict of the check. Assumes nothing.
use mathlib.Core.Path.{sym, ◌∙◌}
use native.Mathlib.Omega.{arith}
use lib.ListN.{length}
use Rattle.iisph_words.specs.Texts.{Adds}
use Rattle.iisph_rules.specs.Answer.{step_answer}
use Rattle.iisph_lent.specs.Step.{Steps}
use Rattle.iisph_lent.proofs.Stepped.{refused_steps_lem}
use Rattle.scene_check.proofs.Checks.{verdict_refused, verdict_accepted}
use Rattle.iisph_text.specs.Text.{answer_text}
use Rattle.iisph_text.proofs.Ran.{text_run, refused_added}
use Rattle.iisph_text.proofs.put_scene.Goals as goal
use Rattle.iisph_text.proofs.put_scene.Goals.{in-Ok, in-Err}

pub put_accepted-requires-clause-passed : goal.put_accepted-requires-clause-passed
put_accepted-requires-clause-passed c =
    verdict_accepted _ c.check.ensures (λ i. omega (arith, c.shared_slice_known-1.given i)) c.in-Ok.is

pub returns : goal.returns
returns c =
    let a = c.args in
    let m = c.match-check in
    let begun = c.new-text.ensures.begun in
    let answer = step_answer a.scene.now (length a.answers.now) (length a.work.now) in
    let done : Steps a.scene.now a.answers.now a.work.now answer m.answers m.work
    × Adds c.new-text.result (answer_text a.scene.now answer) m.text =
    elim m.branch [
      | in-Ok w ↦
          rw (w.answers-is, w.work-is, w.text-is) (w.put_accepted.ensures.stepped, w.put_accepted.ensures.written)
      | in-Err w ↦
          let q = verdict_refused _ c.check.ensures w.in-Err.is in
          let s = refused_steps_lem a.scene.now a.answers.now a.work.now q in
          rw (w.answers-is, w.work-is, w.text-is)
          (rw s.answer at s, refused_added a.scene.now (sym s.answer) w.put_refused.ensures)
    ] in
    let same = done.1.same ∙ c.new-text.ensures.same in
    text_run c.requires.1 c.requires.0 done.0 done.1 begun.0 begun.1 (sym (c.out-1.given.1.1 (sym same))) (search)
