-- `iisph_iterations::errors::max_error` meets its contract. The invariant: the error so far, with the averages of the
-- fluids that remain, comes to the whole. Assumes nothing.
use Rattle.scene_format.specs.Format.{counts_of}
use Rattle.scene_format.specs.declared.Kind.TheVariants.{Fluid}
use Rattle.iisph_iterations.proofs.Averages.{Averaged}
use Rattle.iisph_iterations.proofs.errors.max_error.Given as goal

abbrev pub invariant-loop-head : goal.invariant-loop-head
invariant-loop-head l =
    Averaged l.criterion l.summation (counts_of Fluid l.over.scene.now) l.over.dim l.over.n l.work l.head-index l.from
    l.error
