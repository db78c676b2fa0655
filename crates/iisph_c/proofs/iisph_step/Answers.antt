-- `iisph_c::iisph_step` meets its contract: by the lengths of the two small lists; then the step's answer is written.
-- Assumes nothing.
use native.Mathlib.Omega.{arith}
use Rattle.iisph_c.proofs.Calls.{numbers_short, counts_short, stepped_to}
use Rattle.iisph_c.proofs.iisph_step.Goals as goal

pub returns-then-numbers-lt-NUMBERS : goal.returns-then-numbers-lt-NUMBERS
returns-then-numbers-lt-NUMBERS c = numbers_short _ _ _ _ _ (omega (arith, c.if-numbers-lt-NUMBERS.true))

pub returns-then-counts-lt-COUNTS : goal.returns-then-counts-lt-COUNTS
returns-then-counts-lt-COUNTS c = counts_short _ _ _ _ _ (omega (arith, c.if-numbers-lt-NUMBERS.false))
    (omega (arith, c.if-counts-lt-COUNTS.true))

pub write_answer-requires : goal.write_answer-requires
write_answer-requires c =
    (omega (arith, c.if-numbers-lt-NUMBERS.false), omega (arith, c.if-counts-lt-COUNTS.false))

pub returns : goal.returns
returns c =
    let told = c.write_answer.ensures in
    stepped_to _ _ _ _ _ (omega (arith, c.if-numbers-lt-NUMBERS.false)) (omega (arith, c.if-counts-lt-COUNTS.false))
    c.step-answer.ensures
    told.0 told.1 told.2
