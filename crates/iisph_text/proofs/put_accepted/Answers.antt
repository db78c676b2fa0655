-- `iisph_text::put_accepted` meets its contract: the step, and the text of its answer. Assumes nothing.
use mathlib.Core.Path.{sym, ◌∙◌}
use Rattle.iisph_text.specs.Text.{answer_text}
use Rattle.iisph_text.proofs.Done.{done_ready, done_added}
use Rattle.iisph_text.proofs.put_accepted.Goals as goal

pub put_done-requires : goal.put_done-requires
put_done-requires c = (
  c.requires.passed,
  done_ready c.requires.passed.bytes c.step_short.ensures c.in-Ok.is
      c.requires.scene_len_bound.0
      c.requires.scene_len_bound.1,
)

pub returns-in-Ok : goal.returns-in-Ok
returns-in-Ok c =
    let s = c.step_short.ensures in
    record {
      stepped = rw s.answer at s;
      written = done_added c.requires.passed.bytes s c.in-Ok.is c.put_done.ensures;
    }

pub returns-in-Err : goal.returns-in-Err
unfolding answer_text
returns-in-Err c =
    let s = c.step_short.ensures in
    record { stepped = rw s.answer at s; written = rw (sym s.answer ∙ c.in-Err.is) c.put_refused.ensures }
