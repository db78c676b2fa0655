-- `scene_index::index::fill_bases` meets its contract: model by model, each from the number of the particles before it
-- on. Assumes nothing.
use Prim.Native.Nat.{◌+◌, ◌≤◌}
use mathlib.Core.Path.{◌∙◌}
use native.Mathlib.Omega.{arith}
use lib.ListN.{get_or, take}
use Rattle.scene_format.specs.Format.{most_of_a_kind, counts_of}
use Rattle.scene_layout.proofs.Turns.{Turn, head_turn, number_is}
use Rattle.scene_index.proofs.Bases.{none_based, blocks_room, start_few, one_more_based, all_based}
use Rattle.scene_index.proofs.index.fill_bases.Goals as goal
use Rattle.scene_index.proofs.index.fill_bases.Goals.{In-loop-head}

turn : (c : In-loop-head)
    → let a = c.args in Turn a.kind a.scene.now (take a.models.number a.models.heads) c.loop-head.head-index
turn c = head_turn c.requires.models_within.0 c.requires.models_within.1 _ (omega arith)

-- the numbers of the model's particles are small
few : (c : In-loop-head)
    → c.loop-head.start + get_or (counts_of c.args.kind c.args.scene.now) c.loop-head.head-index 0 ≤ most_of_a_kind
few c = omega (arith, start_few _ _ _ _ c.loop-head.invariant (turn c).below, c.requires.scene_bound.0)

pub loop-head-init : goal.loop-head-init
loop-head-init c = none_based _ _ _ _

pub fill_blocks-requires : goal.fill_blocks-requires
fill_blocks-requires c =
    let here = (goal.at.fill_blocks-requires c).In-loop-head in (
      omega (arith, few here),
      blocks_room _ _ _ _ c.loop-head.invariant (turn here).below c.requires.scene_bound.1,
    )

pub particles-start-requires : goal.particles-start-requires
particles-start-requires c = (turn (goal.at.particles-start-requires c).In-loop-head).within.head_room

pub overflow_add-start : goal.overflow_add-start
overflow_add-start c =
    let here = (goal.at.overflow_add-start c).In-loop-head in
    omega (arith, few here, c.particles-start.ensures.0 ∙ (turn here).count)

pub loop-head-preserved : goal.loop-head-preserved
loop-head-preserved c =
    let here = turn (goal.at.loop-head-preserved c).In-loop-head in
    one_more_based _ _ _ _ c.loop-head.invariant here.below (c.particles-start.ensures.0 ∙ here.count)
    c.fill_blocks.ensures

pub returns : goal.returns
returns c =
    let within = c.requires.models_within in
    all_based _ _ _ _ c.loop-head.invariant (omega (arith, number_is within.0 within.1))
