-- No call follows, so any measure will do.
use Rattle.iisph_validation.proofs.+validate_largest.Given as goal

abbrev pub decreases-validate_largest : goal.decreases-validate_largest
decreases-validate_largest l = 0
