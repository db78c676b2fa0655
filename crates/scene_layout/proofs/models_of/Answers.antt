-- `scene_layout::models_of` meets its contract: model by model, with the models that are left within the bytes and what
-- is still to be stored. Assumes nothing.
use Prim.Native.Nat.{◌<◌}
use Rattle.scene_format.specs.Format.{model_number}
use Rattle.scene_format.specs.Within.{ModelWithin}
use Rattle.scene_fields.proofs.Walks.{none_stepped, one_more_stepped, holds_here, all_stepped}
use Rattle.scene_layout.proofs.Filled.{none_filled, one_more_filled, all_filled, room_is}
use Rattle.scene_layout.proofs.models_of.Goals as goal
use Rattle.scene_layout.proofs.models_of.Goals.{In-loop-head}

-- a model that is there
below : (c : In-loop-head) → c.loop-head.head-index < model_number c.args.kind c.args.s.now
below c = rw (room_is _ _ c.requires.models_within.few c.requires.n_value.0) at c.loop-head-test.true

within : (c : In-loop-head) → ModelWithin c.args.kind c.args.s.now c.loop-head.at
within c = holds_here c.loop-head.invariant.1 (below c)

pub loop-head-init : goal.loop-head-init
loop-head-init c =
    let p = c.requires in (
      p.n_value.0,
      rw p.n_value.1 (none_stepped p.models_within.models),
      rw (p.n_value.0, p.n_value.1) (none_filled _ _ p.models_within.few),
    )

pub particles-total-requires : goal.particles-total-requires
particles-total-requires c = (within (goal.at.particles-total-requires c).In-loop-head).head_room

pub model_end-at-requires : goal.model_end-at-requires
model_end-at-requires c = within (goal.at.model_end-at-requires c).In-loop-head

pub loop-head-preserved : goal.loop-head-preserved
loop-head-preserved c =
    let l = c.loop-head in
    let h = below (goal.at.loop-head-preserved c).In-loop-head in (
      l.invariant.0,
      one_more_stepped l.invariant.1 h c.model_end-at.ensures,
      one_more_filled _ _ l.invariant.2 h c.particles-total.ensures.0 c.particles-total.ensures.1
          c.model_end-at.ensures,
    )

pub returns : goal.returns
returns c =
    let l = c.loop-head in
    let few = c.requires.models_within.few in
    let h = rw (room_is _ _ few c.requires.n_value.0) at c.loop-head-test.false in
    all_filled _ _ l.invariant.2 few h (all_stepped l.invariant.1 h) l.invariant.0
