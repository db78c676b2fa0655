-- `scene_index::index::fill_models` meets its contract: model by model. Assumes nothing.
use Prim.Native.Nat.{◌+◌, ◌≤◌}
use native.Mathlib.Omega.{arith}
use lib.ListN.{length, take}
use Rattle.scene_layout.proofs.Turns.{Turn, head_turn, number_is}
use Rattle.scene_index.proofs.Traversals.{none_traversed, model_room, one_more_traversed}
use Rattle.scene_index.proofs.Traversals.{all_traversed}
use Rattle.scene_index.proofs.index.fill_models.Goals as goal
use Rattle.scene_index.proofs.index.fill_models.Goals.{In-loop-head, After-particles-n}

turn : (c : In-loop-head)
    → let a = c.args in Turn a.kind a.scene.now (take a.models.number a.models.heads) c.loop-head.head-index
turn c = head_turn c.requires.models_within.0 c.requires.models_within.1 _ (omega arith)

-- the model's records fit
room : (c : After-particles-n) → c.loop-head.to + c.particles-n.result ≤ length c.loop-head.index
room c =
    let within = c.requires.models_within in
    let here = head_turn within.0 within.1 c.loop-head.head-index (omega arith) in
    rw c.particles-n.ensures.0
    (model_room _ _ _ _ _ c.loop-head.invariant here.below here.head c.requires.scene_in_bounds)

pub loop-head-init : goal.loop-head-init
loop-head-init c = none_traversed _ _ _ _ _

pub particles-n-requires : goal.particles-n-requires
particles-n-requires c = (turn (goal.at.particles-n-requires c).In-loop-head).within.head_room

pub fill_model-requires : goal.fill_model-requires
fill_model-requires c =
    let here = goal.at.fill_model-requires c in
    record {
      model_within = (turn here.In-loop-head).within;
      n_value = (c.particles-n.ensures.0, room here.After-particles-n);
    }

pub overflow_add-to : goal.overflow_add-to
overflow_add-to c = omega (arith, room (goal.at.overflow_add-to c).After-particles-n)

pub loop-head-preserved : goal.loop-head-preserved
loop-head-preserved c =
    let here = turn (goal.at.loop-head-preserved c).In-loop-head in
    one_more_traversed _ _ _ _ _ c.loop-head.invariant here.below here.head c.particles-n.ensures.0
    c.fill_model.ensures

pub returns : goal.returns
returns c =
    let within = c.requires.models_within in
    all_traversed _ _ _ _ _ c.loop-head.invariant (omega (arith, number_is within.0 within.1))
