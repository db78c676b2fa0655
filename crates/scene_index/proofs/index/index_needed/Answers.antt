-- `scene_index::index::index_needed` meets its contract: the sections end where the index does. Assumes nothing.
use mathlib.Core.Path.{ap}
use Rattle.scene_index.specs.Index.{sections_of}
use Rattle.scene_index.specs.declared.index.Sections.{Sections}
use Rattle.scene_index.proofs.index.index_needed.Goals as goal

pub returns : goal.returns
unfolding sections_of
returns c = ap (λ (s : Sections). s.end) c.sections_of.ensures
