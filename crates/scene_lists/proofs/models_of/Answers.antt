-- `scene_lists::models_of` meets its contract, kind by kind. Assumes nothing.
use Rattle.scene_check.proofs.Checks.{fluids_are, boundaries_are}
use Rattle.scene_lists.proofs.models_of.Goals as goal

pub returns-in-Fluid : goal.returns-in-Fluid
returns-in-Fluid c = rw c.in-Fluid.is (fluids_are _ c.requires)

pub returns-in-Boundary : goal.returns-in-Boundary
returns-in-Boundary c = rw c.in-Boundary.is (boundaries_are _ c.requires)
