-- `scene_layout::models_of` meets its contract: model by model, with the models that are left within the bytes and what
-- is still to be stored. Assumes nothing.
use mathlib.Core.Path.{◌≡◌}
use Rattle.scene_format.specs.Format.{model_number, model_end, first_head}
use Rattle.scene_format.specs.Within.{ModelWithin}
use Rattle.scene_fields.proofs.Walks.{Ahead}
use Rattle.scene_layout.proofs.Filled.{Filled}
use Rattle.scene_layout.proofs.models_of.Given as goal

abbrev pub invariant-loop-head : goal.invariant-loop-head
invariant-loop-head l =
    let step = model_end l.kind l.s in
    (l.n ≡ model_number l.kind l.s)
    × Ahead step (ModelWithin l.kind l.s) (model_number l.kind l.s) (first_head l.kind l.s) l.head-index l.at
    × Filled l.kind l.s l.head-items l.total l.at l.head-index
