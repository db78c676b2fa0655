-- The definitions yield each worked example of versions and criteria: by evaluation. Assumes nothing.
use mathlib.Core.Path.{refl}
use Rattle.worked_examples.specs.PassedOver.{overflowing}
use Rattle.worked_examples.specs.Row.{Holds, All, none, ◌and◌}
use Rattle.worked_examples.proofs.Evaluation.{evaluation}
use Rattle.worked_stopping.specs.Stopping.{ruled, scene_b2, limited, below_zero, thin, quarter, three_eighths, alone}
use Rattle.worked_stopping.specs.Stopping.{nan_behind, nan_before, stopping}

pub stopping_hold : All Holds stopping
unfolding evaluation overflowing ruled scene_b2 limited below_zero thin quarter three_eighths alone nan_behind
    nan_before
    stopping
stopping_hold =
    refl and refl and refl and refl and refl and refl and refl and refl and refl and refl and refl and refl
    and refl and refl and refl and refl and refl and refl and refl and refl and refl and refl and none
