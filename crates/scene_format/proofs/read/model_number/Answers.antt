-- `scene_format::read::model_number` meets its contract: by the kind. Assumes nothing.
use mathlib.Core.Path.{ap}
use Rattle.scene_format.specs.Format.{upper_half, lower_half}
use Rattle.scene_format.proofs.read.model_number.Goals as goal

pub returns-in-Fluid : goal.returns-in-Fluid
returns-in-Fluid c = rw c.in-Fluid.is (ap lower_half c.byte.ensures.0)

pub returns-in-Boundary : goal.returns-in-Boundary
returns-in-Boundary c = rw c.in-Boundary.is (ap upper_half c.byte-in-Boundary.ensures.0)
