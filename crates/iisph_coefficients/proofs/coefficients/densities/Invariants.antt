-- `iisph_coefficients::coefficients::densities` meets its contract. The invariant: each sum is the rule's over the
-- contacts passed; a turn takes in one more. Assumes nothing.
use mathlib.Core.Path.{◌≡◌}
use Rattle.math.specs.Vector.{coordinates}
use Rattle.iisph_coefficients.specs.Neighbours.{weighed, approached, summed}
use Rattle.iisph_coefficients.proofs.Targets.{kind_by}
use Rattle.iisph_coefficients.proofs.coefficients.densities.Given as goal

abbrev pub invariant-loop-k : goal.invariant-loop-k
invariant-loop-k g l =
    let sum = summed (kind_by g.row.FLUID) l.over.dim l.over.scene.now l.list in
    (l.sums.density ≡ sum weighed l.initial.sums.density l.k)
    × (l.sums.delta ≡ sum (approached (coordinates l.over.dim l.v)) l.initial.sums.delta l.k)
