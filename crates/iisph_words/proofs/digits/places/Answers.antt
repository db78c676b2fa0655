-- `iisph_words::digits::places` meets its contract. The loop's invariant: the digits counted and the rest's digits are
-- the number's, with one counted ahead. Assumes nothing.
use native.Mathlib.Omega.{arith}
use Rattle.iisph_words.proofs.Numbers.{one_place, more_places}
use Rattle.iisph_words.proofs.digits.places.Goals as goal

pub loop-rest-init : goal.loop-rest-init
loop-rest-init c = (omega arith, omega arith)

pub loop-rest-preserved : goal.loop-rest-preserved
loop-rest-preserved c = omega (arith, more_places c.loop-rest.rest c.loop-rest-test.true)

pub returns : goal.returns
returns c = omega (arith, one_place c.loop-rest.rest c.loop-rest-test.false)
