-- `scene_walk::record` meets its contract: by the kind. Assumes nothing.
use Rattle.scene_walk.specs.Walk.{record_of}
use Rattle.scene_walk.proofs.record.Goals as goal

pub returns-in-Fluid : goal.returns-in-Fluid
unfolding record_of
returns-in-Fluid c = rw c.in-Fluid.is c.fluid_record.ensures

pub returns-in-Boundary : goal.returns-in-Boundary
unfolding record_of
returns-in-Boundary c = rw (c.in-Boundary.is, c.keeps.ensures) c.boundary_record.ensures
