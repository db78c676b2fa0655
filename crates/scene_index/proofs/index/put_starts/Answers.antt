-- `scene_index::index::put_starts` meets its contract: number by number. Assumes nothing.
use mathlib.Core.Path.{refl}
use Rattle.scene_index.specs.Index.{start_numbers}
use Rattle.scene_index.proofs.index.put_starts.Goals as goal

pub returns : goal.returns
unfolding start_numbers
returns c = refl
