-- `iisph_lines::lines::put_ending` meets its contract: its parts one after the other, and the error by the ending's
-- number. Assumes nothing.
use native.Mathlib.Omega.{arith}
use Rattle.iisph_words.proofs.Texts.{◌then◌}
use Rattle.iisph_lines.proofs.Widths.{unswept_text, swept_text, ending_room_lem, swept_room}
use Rattle.iisph_lines.proofs.lines.put_ending.Goals as goal

pub put_ending_word-requires : goal.put_ending_word-requires
put_ending_word-requires c =
    let a = c.args in
    omega (arith, ending_room_lem a.ending c.tell-told.ensures a.iterations)

pub put_decimal-requires : goal.put_decimal-requires
put_decimal-requires c =
    let a = c.args in
    omega (arith, ending_room_lem a.ending c.tell-told.ensures a.iterations)

pub returns-then-told-eq0 : goal.returns-then-told-eq0
returns-then-told-eq0 c =
    rw (unswept_text _ c.tell-told.ensures _ c.if-told-eq0.true) at
    (c.put_ending_word.ensures then c.put_decimal.ensures)

pub put_error-requires : goal.put_error-requires
put_error-requires c =
    let a = c.args in
    omega (arith, swept_room a.ending c.tell-told.ensures a.iterations c.if-told-eq0.false)

pub returns : goal.returns
returns c =
    rw (swept_text _ c.tell-told.ensures _ c.if-told-eq0.false) at
    (c.put_ending_word.ensures then c.put_decimal.ensures then c.put_error.ensures)
