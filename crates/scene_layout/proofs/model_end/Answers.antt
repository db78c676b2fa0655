-- `scene_layout::model_end` meets its contract: it is where a record behind the last would begin. Assumes nothing.
use mathlib.Core.Path.{◌∙◌}
use native.Mathlib.Omega.{arith}
use Rattle.scene_format.specs.Format.{model_end}
use Rattle.scene_layout.proofs.model_end.Goals as goal

pub record_offset-requires : goal.record_offset-requires
record_offset-requires c = (c.requires, omega (arith, c.particles.ensures.0))

pub returns : goal.returns
unfolding model_end
returns c = c.record_offset.ensures ∙ rw c.particles.ensures.0
