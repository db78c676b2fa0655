-- `iisph_words::text::Text::put_decimal` meets its contract: as many digits as the number has. Assumes nothing.
use native.Mathlib.Omega.{arith}
use Rattle.iisph_words.specs.Digits.{decimal_of}
use Rattle.iisph_words.proofs.Numbers.{length_decimal}
use Rattle.iisph_words.proofs.text.Text.put_decimal.Goals as goal

pub put_digits-requires : goal.put_digits-requires
put_digits-requires c =
    let n = c.args.n in
    (omega arith, omega arith, omega (arith, length_decimal n, c.places.ensures))

pub returns : goal.returns
unfolding decimal_of
returns c = rw c.places.ensures at c.put_digits.ensures
