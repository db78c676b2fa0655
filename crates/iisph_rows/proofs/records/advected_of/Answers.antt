-- `iisph_rows::records::advected_of` meets its contract: the velocity stands in the particle's record. Assumes nothing.
use mathlib.Core.Path.{◌∙◌}
use native.Mathlib.Omega.{arith}
use Rattle.iisph_rows.proofs.Particles.{RecordOk, record_asked, record_here}
use Rattle.iisph_rows.proofs.Particles.{velocity_read, velocity_within, advected_made}
use Rattle.iisph_rows.proofs.records.advected_of.Goals as goal
use Rattle.iisph_rows.proofs.records.advected_of.Goals.{After-vector_width}

own : (c : After-vector_width) → RecordOk c.args.over.scene.now c.args.i c.record_of-at.result
own c = record_here c.requires.0.timed.over c.requires.1 c.record_of-at.ensures

pub record_of-at-requires : goal.record_of-at-requires
record_of-at-requires c = record_asked c.requires.0.timed.over c.requires.1

pub overflow_add-at : goal.overflow_add-at
overflow_add-at c =
    let here = own (goal.at.overflow_add-at c).After-vector_width in
    omega (arith, velocity_within c.requires.0.timed.over.axes here c.vector_width.ensures.0)

pub vector-requires : goal.vector-requires
vector-requires c =
    velocity_read c.requires.0.timed.over.axes (own (goal.at.vector-requires c).After-vector_width)
    c.vector_width.ensures.0

pub returns : goal.returns
returns c =
    c.add.ensures c.args.over.dim
    ∙ advected_made c.requires.0.timed.over.axes (own (goal.at.returns c).After-vector_width)
    c.vector_width.ensures.0 c.vector.ensures c.velocity_change_of-change.ensures
