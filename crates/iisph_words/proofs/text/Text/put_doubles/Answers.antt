-- `iisph_words::text::Text::put_doubles` meets its contract. The loop's invariant: the doubles so far are written.
-- Assumes nothing.
use Prim.Native.Nat.{◌+◌}
use mathlib.Core.Path.{◌≡◌}
use mathlib.Core.List.{flatten}
use native.Mathlib.Omega.{arith}
use lib.ListN.{get_or}
use lib.Ieee.{nan}
use Rattle.std.proofs.lemmas.List.Edits.{length-between, get_or-between}
use Rattle.lists.specs.Lists.{table}
use Rattle.iisph_words.specs.Words.{double_text, doubles_text}
use Rattle.iisph_words.proofs.Texts.{none_added, next_added}
use Rattle.iisph_words.proofs.WordWidths.{length-doubles}
use Rattle.iisph_words.proofs.text.Text.put_doubles.Goals as goal

pub loop-x-init : goal.loop-x-init
unfolding doubles_text table flatten
loop-x-init c = none_added (omega (arith, c.requires.w_in_bounds_2))

pub put_double-requires : goal.put_double-requires
put_double-requires c =
    let l = c.loop-x in
    let a = c.args in
    let long = length-doubles a.xs.now a.k in
    omega (
      arith,
      length-between a.xs.now a.k (a.k + a.w) c.requires.w_in_bounds,
      l.invariant.written.ends,
      l.invariant.written.long,
      long l.x-index,
      long a.w,
    )

pub loop-x-preserved : goal.loop-x-preserved
unfolding doubles_text
loop-x-preserved c =
    let a = c.args in
    let i = c.loop-x.x-index in
    let n = length-between a.xs.now a.k (a.k + a.w) c.requires.w_in_bounds in
    next_added (λ e. double_text (get_or a.xs.now (a.k + e) nan)) c.loop-x.invariant
    (rw (get_or-between a.xs.now a.k (a.k + a.w) i nan (omega (arith, n))) at c.put_double.ensures)

pub returns : goal.returns
returns c =
    let l = c.loop-x in
    let a = c.args in
    let e : l.x-index ≡ a.w = omega (arith, length-between a.xs.now a.k (a.k + a.w) c.requires.w_in_bounds) in
    rw e at l.invariant
