-- `scene_check::walk_names::fill_counts` meets its contract: model by model, each count read at the head that the
-- layout has. Assumes nothing.
use mathlib.Core.Path.{◌∙◌}
use lib.ListN.{take}
use Rattle.lists.proofs.Fills.{none_stored, one_more_in_front, all_stored, table_list}
use Rattle.scene_format.specs.Format.{counts_of}
use Rattle.scene_layout.proofs.Locations.{length_counts}
use Rattle.scene_layout.proofs.Turns.{Turn, number_few, length_front, front_turn}
use Rattle.scene_check.proofs.walk_names.fill_counts.Goals as goal
use Rattle.scene_check.proofs.walk_names.fill_counts.Goals.{In-loop-m}

-- a model that is there
turn_of : (c : In-loop-m) → let a = c.args in
    Turn a.kind a.s.now (take a.models.number a.models.heads) c.loop-m.m
turn_of c = front_turn c.requires.models_within.0 c.requires.models_within.1 _ c.loop-m-test.true

pub shared_ref_as_front-heads : goal.shared_ref_as_front-heads
shared_ref_as_front-heads c = number_few c.requires.models_within.0 c.requires.models_within.1

pub loop-m-init : goal.loop-m-init
loop-m-init c = none_stored _ _ _ _

pub particles-requires : goal.particles-requires
particles-requires c = (turn_of (goal.at.particles-requires c).In-loop-m).within.head_room

pub loop-m-preserved : goal.loop-m-preserved
loop-m-preserved c =
    let turn = turn_of (goal.at.loop-m-preserved c).In-loop-m in
    one_more_in_front _ _ _ c.loop-m.invariant turn.below (c.particles.ensures.0 ∙ turn.count)

pub returns : goal.returns
returns c =
    let (within, is) = c.requires.models_within in
    all_stored _ _ _ _ c.loop-m.invariant (rw (← length_front within is) c.loop-m-test.false)
    (table_list _ (counts_of c.args.kind c.args.s.now) 0 (length_counts c.args.kind c.args.s.now))
