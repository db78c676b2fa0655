-- `scene_index::records::head_of` meets its contract: the section of heads begins where the index says. Assumes
-- nothing.
use native.Mathlib.Omega.{arith}
use Rattle.scene_index.proofs.Targets.{head_found}
use Rattle.scene_index.proofs.records.head_of.Goals as goal

pub overflow_add-result : goal.overflow_add-result
overflow_add-result c = omega (arith, (head_found c.requires.0 _ c.requires.1).0)

pub offset_bounds-index-heads : goal.offset_bounds-index-heads
offset_bounds-index-heads c = omega (arith, (head_found c.requires.0 _ c.requires.1).0)

pub bounds-index-heads : goal.bounds-index-heads
bounds-index-heads c =
    let p = c.requires in
    omega (arith, (head_found p.0 _ p.1).0)

pub returns : goal.returns
returns c = let p = c.requires in (head_found p.0 _ p.1).1
