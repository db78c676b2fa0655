-- `iisph_words::text::Text::put_pair` meets its contract: its parts one after the other. Assumes nothing.
use native.Mathlib.Omega.{arith}
use Rattle.iisph_words.specs.Words.{pair_text}
use Rattle.iisph_words.proofs.Texts.{◌then◌}
use Rattle.iisph_words.proofs.WordWidths.{length-pair}
use Rattle.iisph_words.proofs.text.Text.put_pair.Goals as goal

pub put_decimal-requires : goal.put_decimal-requires
put_decimal-requires c = omega (arith, length-pair c.args.m c.args.n)

pub put_byte-requires : goal.put_byte-requires
put_byte-requires c = omega (arith, length-pair c.args.m c.args.n)

pub put_decimal-requires-2 : goal.put_decimal-requires-2
put_decimal-requires-2 c = omega (arith, length-pair c.args.m c.args.n)

pub returns : goal.returns
unfolding pair_text
returns c = c.put_decimal.ensures then c.put_byte.ensures then c.put_decimal-2.ensures
