-- `iisph_rows::records::first_pressure` meets its contract: the warm pressure stands in the particle's record, where
-- the index says. Assumes nothing.
use Prim.Native.Nat.{◌+◌}
use native.Mathlib.Omega.{arith}
use Rattle.scene_format.specs.Bytes.{FiniteAt}
use Rattle.iisph_rows.proofs.Particles.{RecordOk, record_asked, record_here, pressure_read, pressure_made}
use Rattle.iisph_rows.proofs.records.first_pressure.Goals as goal
use Rattle.iisph_rows.proofs.records.first_pressure.Goals.{After-warm_pressure}

own : (c : After-warm_pressure) → RecordOk c.args.over.scene.now c.args.i c.record_of-at.result
own c = record_here c.requires.0 c.requires.1 c.record_of-at.ensures

read : (c : After-warm_pressure) → FiniteAt c.args.over.scene.now (c.record_of-at.result + c.warm_pressure.result)
read c = pressure_read c.requires.0.axes (own c) c.warm_pressure.ensures.0

pub record_of-at-requires : goal.record_of-at-requires
record_of-at-requires c = record_asked c.requires.0 c.requires.1

pub overflow_add-at : goal.overflow_add-at
overflow_add-at c = omega (arith, (read (goal.at.overflow_add-at c).After-warm_pressure).present)

pub double-requires : goal.double-requires
double-requires c = read (goal.at.double-requires c).After-warm_pressure

pub returns : goal.returns
returns c =
    pressure_made c.requires.0.axes (own (goal.at.returns c).After-warm_pressure) c.warm_pressure.ensures.0
    c.double.ensures
