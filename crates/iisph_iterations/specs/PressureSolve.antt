-- What the iterations make of the work list and report: one iteration's passes, some of them after each other, and how
-- they end. Scaffolding: no promise rests on it. Definitions only.
use Rattle.std.specs.Prelude.{◌≡◌, ℕ, zero, suc, List, Float}
use Rattle.iisph_passes.specs.Traverse.{after_pass}
use Rattle.iisph_passes.specs.declared.traverse.Pass.TheVariants.{Quotients, DijPjl, NextPressures, Exchange}
use Rattle.iisph_pressures.specs.IterationRows.{pressures_in}
use Rattle.iisph_rules.specs.Coefficients.{coefficients}
use Rattle.iisph_rules.specs.Iteration.{iteration}
use Rattle.iisph_rules.specs.Step.{ran_out_with, solution}
use Rattle.iisph_rules.specs.declared.Ending.{Ending}
use Rattle.iisph_rules.specs.declared.Ending.TheVariants.{Unswept}
use Rattle.iisph_rules.specs.declared.IterationError.{IterationError}
use Rattle.scene_format.specs.Scene.{Scene, fluid_size}
use Rattle.iisph_iterations.specs.declared.pressure_solve.Solved.{Solved}

-- the passes of one iteration, for d axes
unfoldable pub iterated : ℕ → Scene → List Float → List Float
iterated d s work =
    after_pass d s Exchange (after_pass d s NextPressures (after_pass d s DijPjl (after_pass d s Quotients work)))

-- k iterations
unfoldable pub iterated_times : ℕ → ℕ → Scene → List Float → List Float
iterated_times zero d s work = work
iterated_times (suc k) d s work = iterated d s (iterated_times k d s work)

-- an iteration from the pressures that stand in the rows: its error and the list afterwards
pub record Iterates (d : ℕ) (s : Scene) (work : List Float) (r : IterationError) (after : List Float) : Type 0 where
  pub error : r ≡ (iteration s (coefficients s) (pressures_in d (fluid_size s) work)).error
  pub list : after ≡ iterated d s work

-- the ending after i iterations of which none met the stopping test, the last with this error
unfoldable pub ending_after : ℕ → IterationError → Ending
ending_after zero error = Unswept
ending_after (suc i) error = ran_out_with error

-- `pressure_solve` on a list that is ready for it
pub record Solves (d : ℕ) (s : Scene) (work : List Float) (r : Solved) (after : List Float) : Type 0 where
  pub iterations : r.iterations ≡ (solution s).iterations
  pub ending : r.ending ≡ (solution s).ending
  pub list : after ≡ iterated_times (solution s).iterations d s work
