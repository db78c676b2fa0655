-- `iisph_lines::lines::put_model` meets its contract. The loop's invariant: the lines of the first i particles are
-- written. Assumes nothing.
use Rattle.iisph_words.specs.Texts.{Adds}
use Rattle.iisph_lines.specs.Lines.{model_text}
use Rattle.iisph_lines.proofs.lines.put_model.Given as goal

abbrev pub invariant-loop-i : goal.invariant-loop-i
invariant-loop-i l = Adds l.initial.text (model_text l.kind l.m l.i l.w l.k l.xs) l.text
