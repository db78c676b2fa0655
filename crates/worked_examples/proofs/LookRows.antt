-- The check of one list answers what each row says: by evaluation. Assumes nothing.
use mathlib.Core.Path.{refl}
use Rattle.worked_examples.specs.Row.{Holds, All, none, ◌and◌}
use Rattle.worked_examples.specs.LookRows.{three, look_rows}
use Rattle.worked_examples.proofs.Evaluation.{writing, walking, looking}

pub looks_hold : All Holds look_rows
unfolding writing walking looking three look_rows
looks_hold =
    refl and refl and refl and refl and refl and refl and refl and refl and refl and refl and refl and refl and refl
    and refl and refl and none
