-- `iisph_coefficients::coefficients::dii` meets its contract. The invariant: the sum is the rule's over the contacts
-- passed; a turn takes in one more. Assumes nothing.
use mathlib.Core.Path.{◌≡◌}
use Rattle.math.specs.Vector.{coordinates}
use Rattle.iisph_coefficients.specs.Neighbours.{pushed, summed}
use Rattle.iisph_coefficients.proofs.Targets.{kind_by}
use Rattle.iisph_coefficients.proofs.coefficients.dii.Given as goal

abbrev pub invariant-loop-k : goal.invariant-loop-k
invariant-loop-k g l =
    let o = l.over in
    let sum = summed (kind_by g.row.FLUID) o.dim o.scene.now l.list in
    coordinates o.dim l.sum ≡ sum (pushed l.factor) (coordinates o.dim l.initial.sum) l.k
