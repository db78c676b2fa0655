-- `iisph_words::digits::store_digits` meets its contract. The loop's invariant: the digits that are left, stored over
-- what is there, are all of them. Assumes nothing.
use mathlib.Core.Path.{◌≡◌}
use lib.ListN.{length}
use lib.Seq.{sets}
use Rattle.iisph_words.specs.Digits.{digits}
use Rattle.iisph_words.proofs.digits.store_digits.Given as goal

abbrev pub invariant-loop-i : goal.invariant-loop-i
invariant-loop-i l =
    (length l.out ≡ length l.initial.out)
    × (sets l.initial.out l.at (digits l.base l.k l.n) ≡ sets l.out l.at (digits l.base l.i l.rest))
