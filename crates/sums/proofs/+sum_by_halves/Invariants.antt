-- The measure of `sum_by_halves` is the number of terms: both parts of two or more are shorter.
use lib.ListN.{length}
use Rattle.sums.proofs.+sum_by_halves.Given as goal

abbrev pub decreases-sum_by_halves : goal.decreases-sum_by_halves
decreases-sum_by_halves l = length l.terms.now
