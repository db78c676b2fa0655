-- `iisph_rows::records::mass_of` meets its contract: the two doubles stand in the particle's record and its model's
-- head, where the index says. Assumes nothing.
use Prim.Native.Nat.{◌+◌}
use native.Mathlib.Omega.{arith}
use Rattle.scene_check.specs.Accepted.{FluidParticleOk}
use Rattle.scene_format.specs.Bytes.{FiniteAt}
use Rattle.iisph_rows.proofs.Particles.{record_asked, over_here, volume_read, mass_made}
use Rattle.iisph_rows.proofs.records.mass_of.Goals as goal
use Rattle.iisph_rows.proofs.records.mass_of.Goals.{After-volume}

own : (c : After-volume) → FluidParticleOk c.args.over.scene.now
    (record { head = c.head_of-head.result; at = c.record_of-at.result }) c.args.i
own c = over_here c.requires.0 c.requires.1 c.record_of-at.ensures c.head_of-head.ensures

read : (c : After-volume) → FiniteAt c.args.over.scene.now (c.record_of-at.result + c.volume.result)
read c = volume_read c.requires.0.axes (own c) c.volume.ensures.0

pub record_of-at-requires : goal.record_of-at-requires
record_of-at-requires c = record_asked c.requires.0 c.requires.1

pub overflow_add-at : goal.overflow_add-at
overflow_add-at c = omega (arith, (read (goal.at.overflow_add-at c).After-volume).present)

pub double-requires : goal.double-requires
double-requires c = read (goal.at.double-requires c).After-volume

pub overflow_add-head : goal.overflow_add-head
overflow_add-head c = omega (arith, (own (goal.at.overflow_add-head c).After-volume).density0.present)

pub double-requires-2 : goal.double-requires-2
double-requires-2 c = (own (goal.at.double-requires-2 c).After-volume).density0

pub returns : goal.returns
returns c =
    mass_made c.requires.0.axes (own (goal.at.returns c).After-volume) c.volume.ensures.0 c.double.ensures
    c.double-2.ensures
