-- `iisph_words::text::Text::put_double` meets its contract: the space, then the digits. Assumes nothing.
use Rattle.iisph_words.proofs.Texts.{◌then◌}
use Rattle.iisph_words.specs.Words.{double_text}
use Rattle.iisph_words.proofs.text.Text.put_double.Goals as goal

pub returns : goal.returns
unfolding double_text
returns c =
    c.put_byte.ensures then c.put_hex.ensures
