-- `iisph_motion::acceleration::pressure_state_of` meets its contract: the rest density stands in the head that the
-- index finds, all else in the work list. Assumes nothing.
use mathlib.Core.Path.{refl}
use native.Mathlib.Omega.{arith}
use Rattle.iisph_rows.proofs.Particles.{over_here}
use Rattle.iisph_motion.proofs.Accelerations.{state_made}
use Rattle.iisph_motion.proofs.acceleration.pressure_state_of.Goals as goal

pub overflow_add-head : goal.overflow_add-head
overflow_add-head c =
    let p = c.requires.pass_over in
    omega (arith, (over_here p.0 p.1 refl c.head_of-head.ensures).density0.present)

pub double-density0-requires : goal.double-density0-requires
double-density0-requires c =
    let p = c.requires.pass_over in
    (over_here p.0 p.1 refl c.head_of-head.ensures).density0

pub returns : goal.returns
returns c =
    let p = c.requires.pass_over in
    state_made p.0 c.requires.iterating (over_here p.0 p.1 refl c.head_of-head.ensures) p.1
    c.double-density0.ensures c.row_at-row.ensures.0 c.pressure_slot.ensures c.density_column.ensures
    c.column_at.ensures.0
