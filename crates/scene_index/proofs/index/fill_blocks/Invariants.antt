-- `scene_index::index::fill_blocks` meets its contract: block by block. Assumes nothing.
use Prim.Native.Nat.{ℕ, ◌+◌, ◌*◌}
use Rattle.lists.proofs.Fills.{Filling}
use Rattle.scene_index.specs.Index.{block_size, model_blocks}
use Rattle.scene_index.proofs.index.fill_blocks.Given as goal

abbrev base : ℕ → ℕ → ℕ
base start x = start + block_size * x

abbrev pub invariant-loop-x : goal.invariant-loop-x
invariant-loop-x l = Filling l.initial.index l.k (base l.start) model_blocks l.x l.index
