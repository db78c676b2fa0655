-- The check says of each row what the row says: by evaluation. Assumes nothing.
use mathlib.Core.Path.{refl}
use Rattle.worked_examples.specs.Row.{Holds, All, none, ◌and◌}
use Rattle.worked_examples.specs.RefusalRows.{empty, naming, refusal_rows}
use Rattle.worked_examples.proofs.Evaluation.{writing, walking}

pub refusals_hold : All Holds refusal_rows
unfolding writing walking empty naming refusal_rows
refusals_hold =
    refl and refl and refl and refl and refl and refl and refl and refl and refl and refl and refl and refl
    and refl and refl and refl and refl and refl and refl and refl and refl and refl and refl and refl and refl
    and refl and refl and refl and refl and refl and refl and none
