-- No call follows, so any measure will do.
use Rattle.iisph_solver.proofs.step.+step_largest.Given as goal

abbrev pub decreases-step_largest : goal.decreases-step_largest
decreases-step_largest l = 0
