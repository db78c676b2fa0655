-- `scene_check::walk_names::models_names` meets its contract: what remains from here is the whole, model by model, with
-- the models that are left within the bytes. Assumes nothing.
use mathlib.Core.Path.{◌≡◌}
use Rattle.scene_format.specs.Format.{model_number, model_end}
use Rattle.scene_check.specs.Walk.{model_names_of}
use Rattle.scene_format.specs.Within.{ModelWithin}
use Rattle.scene_fields.proofs.Walks.{Remains, Ahead}
use Rattle.scene_check.proofs.walk_names.models_names.Given as goal

abbrev pub invariant-loop : goal.invariant-loop
invariant-loop l =
    (l.n ≡ model_number l.kind l.s) × Remains (model_names_of l.kind l.s) l.n l.from l.counter l.at
    × Ahead (model_end l.kind l.s) (ModelWithin l.kind l.s) l.n l.from l.counter l.at
