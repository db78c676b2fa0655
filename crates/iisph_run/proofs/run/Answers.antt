-- `iisph_run::run` meets its contract: by its two tests. Assumes nothing.
use mathlib.Core.Path.{sym, ◌∙◌}
use native.Mathlib.Omega.{arith}
use Rattle.iisph_text.specs.Text.{too_long}
use Rattle.iisph_text.proofs.Ran.{no_room, too_long_lem}
use Rattle.iisph_run.proofs.run.Goals as goal

pub returns-then-out-lt-TEXT_ROOM : goal.returns-then-out-lt-TEXT_ROOM
returns-then-out-lt-TEXT_ROOM c = no_room c.if-out-lt-TEXT_ROOM.true

pub returns-then-scene-gt-MOST_BYTES : goal.returns-then-scene-gt-MOST_BYTES
unfolding too_long
returns-then-scene-gt-MOST_BYTES c =
    let begun = c.new-text.ensures.begun in
    let w = c.put_word.ensures in
    let ends = sym (c.out-1.given.1.1 (sym (w.same ∙ c.new-text.ensures.same))) in
    too_long_lem c.if-out-lt-TEXT_ROOM.false (omega (arith, c.if-scene-gt-MOST_BYTES.true))
    (rw (begun.0, begun.1, ends, sym c.len.ensures) at w.written)
