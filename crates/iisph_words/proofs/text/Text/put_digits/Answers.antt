-- `iisph_words::text::Text::put_digits` meets its contract: what is stored is a text. Assumes nothing.
use mathlib.Core.Path.{refl}
use native.Mathlib.Omega.{arith}
use Rattle.lists.proofs.Writing.{stores}
use Rattle.iisph_words.proofs.Numbers.{length_digits}
use Rattle.iisph_words.proofs.text.Text.put_digits.Goals as goal

pub returns : goal.returns
returns c =
    record { written = stores c.store_digits.ensures (rw length_digits (omega arith)) (omega arith); same = refl }
