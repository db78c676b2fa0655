-- `scene_index::index::fill_bases` meets its contract: model by model, each from the number of the particles before it
-- on. Assumes nothing.
use Rattle.scene_index.proofs.Bases.{Based}
use Rattle.scene_index.proofs.index.fill_bases.Given as goal

abbrev pub invariant-loop-head : goal.invariant-loop-head
invariant-loop-head l = Based l.kind l.scene l.initial.index l.k l.start l.to l.head-index l.index
