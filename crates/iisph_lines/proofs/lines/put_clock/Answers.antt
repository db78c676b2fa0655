-- `iisph_lines::lines::put_clock` meets its contract: its parts one after the other. Assumes nothing.
use Rattle.iisph_words.proofs.Texts.{◌then◌}
use Rattle.iisph_lines.specs.Lines.{clock_line}
use Rattle.iisph_lines.proofs.lines.put_clock.Goals as goal

pub returns : goal.returns
unfolding clock_line
returns c =
    c.put_word.ensures
    then c.put_double.ensures
    then c.put_double-2.ensures
    then c.put_double-3.ensures
    then c.put_byte.ensures
