-- `scene_index::index::fill_offsets` meets its contract: record by record. Assumes nothing.
use mathlib.Core.Path.{◌≡◌}
use Rattle.scene_format.specs.Format.{record_at}
use Rattle.lists.proofs.Fills.{Filling}
use Rattle.scene_index.proofs.index.fill_offsets.Given as goal

abbrev pub invariant-loop-i : goal.invariant-loop-i
invariant-loop-i l =
    (l.at ≡ (record_at l.kind l.scene l.head l.i).at) × Filling l.initial.index l.k
    (λ j. (record_at l.kind l.scene l.head j).at) l.n l.i l.index
