-- `iisph_words::digits::store_digits` meets its contract. The loop's invariant: the digits that are left, stored over
-- what is there, are all of them. Assumes nothing.
use mathlib.Core.Path.{◌≡◌, sym, ◌∙◌}
use native.Mathlib.Omega.{arith}
use lib.ListN.{length-set}
use Rattle.iisph_words.specs.Digits.{digits}
use Rattle.iisph_words.proofs.Numbers.{digit_stored}
use Rattle.iisph_words.proofs.digits.store_digits.Goals as goal

pub loop-i-preserved : goal.loop-i-preserved
loop-i-preserved c =
    let l = c.loop-i in
    let a = c.args in (
      simp length-set l.invariant.0,
      l.invariant.1
          ∙ digit_stored a.base l.out a.at l.i l.rest c.loop-i-test.true
          ∙ rw c.digit.ensures,
    )

pub returns : goal.returns
unfolding digits
returns c =
    let l = c.loop-i in
    let e : l.i ≡ 0 = omega (arith, c.loop-i-test.false) in
    sym (l.invariant.1 ∙ rw e)
