-- `iisph_coefficients::coefficients::aii` meets its contract. The invariant: the sum is the rule's over the contacts
-- passed; a turn takes in one more. Assumes nothing.
use mathlib.Core.Path.{◌≡◌}
use Rattle.math.specs.Vector.{coordinates}
use Rattle.iisph_coefficients.specs.Neighbours.{returned, summed}
use Rattle.iisph_coefficients.proofs.Targets.{kind_by}
use Rattle.iisph_coefficients.proofs.coefficients.aii.Given as goal

abbrev pub invariant-loop-k : goal.invariant-loop-k
invariant-loop-k g l =
    let sum = summed (kind_by g.row.FLUID) l.over.dim l.over.scene.now l.list in
    l.sum ≡ sum (returned (coordinates l.over.dim l.d) l.factor) l.initial.sum l.k
