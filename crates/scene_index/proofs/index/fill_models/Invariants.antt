-- `scene_index::index::fill_models` meets its contract: model by model. Assumes nothing.
use Rattle.scene_index.specs.Index.{entry_of}
use Rattle.scene_index.proofs.Traversals.{Traversed}
use Rattle.scene_index.proofs.index.fill_models.Given as goal

abbrev pub invariant-loop-head : goal.invariant-loop-head
invariant-loop-head l =
    Traversed l.kind l.scene (entry_of l.entry) l.initial.index l.k l.to l.head-index l.index
