-- `scene_format::read::particles` meets its contract: by the kind. Assumes nothing.
use native.Mathlib.Omega.{arith}
use Rattle.scene_format.proofs.read.particles.Goals as goal

pub returns-in-Fluid : goal.returns-in-Fluid
returns-in-Fluid c =
    (rw c.in-Fluid.is (omega (arith, c.be16.ensures.0, c.be16.ensures.1)), c.be16.ensures.1)

pub returns-in-Boundary : goal.returns-in-Boundary
returns-in-Boundary c = (
  rw (c.in-Boundary.is, ← c.be16-in-Boundary.ensures.0),
  omega (arith, c.be16-in-Boundary.ensures.1),
)
