-- `iisph_lines::lines::put_error` meets its contract: its parts one after the other. Assumes nothing.
use Rattle.iisph_words.proofs.Texts.{◌then◌}
use Rattle.iisph_lines.specs.Lines.{error_words}
use Rattle.iisph_lines.proofs.lines.put_error.Goals as goal

pub returns : goal.returns
unfolding error_words
returns c =
    c.put_double.ensures then c.put_byte.ensures then c.put_decimal.ensures
