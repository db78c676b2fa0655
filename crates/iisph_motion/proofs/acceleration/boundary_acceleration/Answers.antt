-- `iisph_motion::acceleration::boundary_acceleration` meets its contract: the volume of what the contact names stands
-- in the work list, and the operations are the rule's. Assumes nothing.
use mathlib.Core.Path.{refl}
use native.Mathlib.Omega.{arith}
use Rattle.scene_index.proofs.Targets.{boundary_named}
use Rattle.iisph_motion.proofs.Accelerations.{pass_axes, acceleration_made}
use Rattle.iisph_motion.proofs.acceleration.boundary_acceleration.Goals as goal

pub volume_at-requires : goal.volume_at-requires
volume_at-requires c =
    let p = c.requires in
    omega (arith, p.pass_over.1.room, boundary_named p.contact_ready.target c.target_of-j.ensures refl)

pub vector-requires : goal.vector-requires
vector-requires c =
    let p = c.requires in
    (pass_axes p.pass_over.0, p.contact_ready.doubles.gradient)

pub returns : goal.returns
returns c =
    let p = c.requires in
    acceleration_made p.pass_over.1 p.contact_ready c.target_of-j.ensures c.volume_at.ensures.0 c.args.state
    c.vector.ensures
    (c.scale.ensures c.args.over.dim)
