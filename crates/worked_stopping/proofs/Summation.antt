-- The definitions yield each worked example of summations: by evaluation. Assumes nothing.
use mathlib.Core.Path.{refl}
use Rattle.worked_examples.specs.Row.{Holds, All, none, ◌and◌}
use Rattle.worked_examples.proofs.Evaluation.{evaluation}
use Rattle.worked_stopping.specs.Stopping.{ruled, limited, thin}
use Rattle.worked_stopping.specs.Summation.{three, minus_zero, resting, once, torn, summation}

pub summation_holds : All Holds summation
unfolding evaluation ruled limited thin three minus_zero resting once torn summation
summation_holds =
    refl and refl and refl and refl and refl and refl and refl and refl and refl and refl and refl and refl
    and refl and refl and refl and refl and none
