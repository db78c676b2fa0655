-- `scene_index::index::fill_offsets` meets its contract: record by record. Assumes nothing.
use mathlib.Core.Path.{sym, ◌∙◌}
use Rattle.lists.specs.Lists.{iter}
use Rattle.scene_index.specs.Index.{entry_of}
use Rattle.lists.proofs.Fills.{none_stored, one_more_stored, all_stored}
use Rattle.lists.proofs.Numbering.{iter_next}
use Rattle.scene_index.proofs.Traversals.{model_table}
use Rattle.scene_index.proofs.index.fill_offsets.Goals as goal

pub loop-i-init : goal.loop-i-init
unfolding iter
loop-i-init c = (c.first_record-at.ensures, none_stored _ _ _ _)

pub loop-i-preserved : goal.loop-i-preserved
loop-i-preserved c =
    let l = c.loop-i in (
      c.next_record-at.ensures ∙ rw l.invariant.0 (sym (iter_next _ _ _)),
      one_more_stored _ _ _ _ l.invariant.1 c.loop-i-test.true l.invariant.0,
    )

pub returns : goal.returns
unfolding entry_of
returns c =
    all_stored _ _ _ _ c.loop-i.invariant.1 c.loop-i-test.false
    (model_table c.args.kind c.args.scene.now (λ p. p.at) c.args.head c.requires.n_value.0)
