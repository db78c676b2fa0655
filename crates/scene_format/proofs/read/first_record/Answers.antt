-- `scene_format::read::first_record` meets its contract: by the kind. Assumes nothing.
use Rattle.scene_format.proofs.read.first_record.Goals as goal

pub returns-in-Fluid : goal.returns-in-Fluid
returns-in-Fluid c = rw c.in-Fluid.is

pub returns-in-Boundary : goal.returns-in-Boundary
returns-in-Boundary c = rw c.in-Boundary.is
