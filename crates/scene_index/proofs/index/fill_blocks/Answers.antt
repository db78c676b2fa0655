-- `scene_index::index::fill_blocks` meets its contract: block by block. Assumes nothing.
use mathlib.Core.Path.{refl}
use Rattle.lists.proofs.Fills.{none_stored, one_more_stored, all_stored}
use Rattle.scene_index.specs.Index.{blocks_from}
use Rattle.scene_index.proofs.index.fill_blocks.Goals as goal

pub loop-x-init : goal.loop-x-init
loop-x-init c = none_stored _ _ _ _

pub loop-x-preserved : goal.loop-x-preserved
loop-x-preserved c = one_more_stored _ _ _ _ c.loop-x.invariant c.loop-x-test.true refl

pub returns : goal.returns
unfolding blocks_from
returns c = all_stored _ _ _ _ c.loop-x.invariant c.loop-x-test.false refl
