-- `iisph_iterations::pressure_solve::pressure_solve` meets its contract. The invariant: what remains from this
-- iteration on is the whole. Assumes nothing.
use Rattle.iisph_iterations.proofs.Solving.{Solving}
use Rattle.iisph_iterations.proofs.pressure_solve.pressure_solve.Given as goal

abbrev pub invariant-loop-i : goal.invariant-loop-i
invariant-loop-i l =
    Solving l.over.scene.now l.over.dim l.over.n l.initial.work l.i l.error l.work
