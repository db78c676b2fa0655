-- `iisph_lines::lines::put_refused` meets its contract: its parts one after the other; both numbers have 64 bits.
-- Assumes nothing.
use native.Mathlib.Omega.{arith}
use Rattle.iisph_words.proofs.Texts.{◌then◌}
use Rattle.iisph_lines.specs.Lines.{refused_line}
use Rattle.iisph_words.proofs.WordWidths.{pair_most}
use Rattle.iisph_lines.proofs.lines.put_refused.Goals as goal

pub put_pair-requires : goal.put_pair-requires
put_pair-requires c =
    let n = c.number in
    omega (arith, pair_most n.result c.place.result n.type_inv c.place.type_inv)

pub put_byte-requires : goal.put_byte-requires
put_byte-requires c =
    let n = c.number in
    omega (arith, pair_most n.result c.place.result n.type_inv c.place.type_inv)

pub returns : goal.returns
unfolding refused_line
returns c =
    c.put_word.ensures
    then rw (c.number.ensures, c.place.ensures) at c.put_pair.ensures
    then c.put_byte.ensures
