-- `iisph_words::text::Text::put_hex` meets its contract: 16 digits of the bits. Assumes nothing.
use Rattle.iisph_words.specs.Digits.{hex_of}
use Rattle.iisph_words.proofs.text.Text.put_hex.Goals as goal

pub returns : goal.returns
unfolding hex_of
returns c = rw c.to_bits.ensures at c.put_digits.ensures
