-- `iisph_motion::answers::motion_of` meets its contract: position and velocity before stand in the particle's record,
-- and the operations are the rules'. Assumes nothing.
use native.Mathlib.Omega.{arith}
use Rattle.iisph_rows.proofs.Particles.{record_asked, record_here, velocity_read, velocity_within}
use Rattle.iisph_motion.proofs.Motions.{position_read, velocity_made, position_made}
use Rattle.iisph_motion.proofs.answers.motion_of.Goals as goal

pub record_of-at-requires : goal.record_of-at-requires
record_of-at-requires c =
    let p = c.requires.driven_pass in
    record_asked p.0.timed.over p.1

pub overflow_add-at : goal.overflow_add-at
overflow_add-at c =
    let p = c.requires.driven_pass in
    let over = p.0.timed.over in
    omega (arith, velocity_within over.axes (record_here over p.1 c.record_of-at.ensures) c.vector_width.ensures.0)

pub vector-before-requires : goal.vector-before-requires
vector-before-requires c =
    let p = c.requires.driven_pass in
    let over = p.0.timed.over in
    velocity_read over.axes (record_here over p.1 c.record_of-at.ensures) c.vector_width.ensures.0

pub vector-requires : goal.vector-requires
vector-requires c =
    let p = c.requires.driven_pass in
    let over = p.0.timed.over in
    position_read over.axes (record_here over p.1 c.record_of-at.ensures)

pub returns : goal.returns
returns c =
    let p = c.requires.driven_pass in
    let timed = p.0.timed in
    let here = record_here timed.over p.1 c.record_of-at.ensures in
    let d = c.args.over.dim in
    let change = c.final_change_of-change.ensures in
    let offset = c.vector_width.ensures.0 in
    record {
      position =
          position_made timed.over.axes here _ change offset c.vector-before.ensures (c.add-velocity.ensures d)
          timed.dt_is
          c.vector.ensures
          (c.scale.ensures d)
          (c.add-position.ensures d);
      velocity = velocity_made timed.over.axes here _ change offset c.vector-before.ensures (c.add-velocity.ensures d);
    }
