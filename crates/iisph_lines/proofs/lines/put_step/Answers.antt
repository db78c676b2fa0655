-- `iisph_lines::lines::put_step` meets its contract: its parts one after the other. Assumes nothing.
use Rattle.iisph_words.proofs.Texts.{◌then◌}
use Rattle.iisph_lines.specs.Lines.{step_line}
use Rattle.iisph_lines.proofs.lines.put_step.Goals as goal

pub returns : goal.returns
unfolding step_line
returns c =
    c.put_word.ensures then c.put_ending.ensures then c.put_byte.ensures
