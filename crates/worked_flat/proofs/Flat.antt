-- The definitions yield each worked example of flat scenes: by evaluation. Assumes nothing.
use mathlib.Core.Path.{refl}
use Rattle.worked_examples.specs.Row.{Holds, All, none, ◌and◌}
use Rattle.worked_examples.proofs.Evaluation.{writing, walking, looking, evaluation}
use Rattle.worked_flat.specs.Flat.{empty_flat, flat, headed, flat_a, flat_contact, flat_b, flat_boundary, flat_forms}
use Rattle.worked_flat.specs.Flat.{flat_steps}

pub flat_forms_hold : All Holds flat_forms
unfolding writing walking looking empty_flat flat headed flat_a flat_contact flat_b flat_boundary flat_forms
flat_forms_hold =
    refl and refl and refl and refl and refl and refl and refl and refl and refl and refl and refl and refl
    and refl and refl and refl and refl and refl and refl and refl and refl and refl and none

pub flat_steps_hold : All Holds flat_steps
unfolding evaluation empty_flat flat headed flat_a flat_contact flat_b flat_boundary flat_steps
flat_steps_hold =
    refl and refl and refl and refl and refl and refl and refl and refl and refl and refl and refl and refl and none
