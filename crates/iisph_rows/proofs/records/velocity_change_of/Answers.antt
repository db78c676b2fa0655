-- `iisph_rows::records::velocity_change_of` meets its contract: the acceleration stands in the particle's record, and
-- the operations are the rule's. Assumes nothing.
use mathlib.Core.Path.{◌∙◌, ap}
use native.Mathlib.Omega.{arith}
use Rattle.math.specs.Vector.{Vector, coordinates, ◌⊞◌, ◌⊡◌}
use Rattle.iisph_rows.proofs.Particles.{RecordOk, few_axes, record_asked, record_here}
use Rattle.iisph_rows.proofs.Particles.{acceleration_read, acceleration_within, change_made}
use Rattle.iisph_rows.proofs.records.velocity_change_of.Goals as goal
use Rattle.iisph_rows.proofs.records.velocity_change_of.Goals.{After-acceleration}

own : (c : After-acceleration) → RecordOk c.args.over.scene.now c.args.i c.record_of-at.result
own c = record_here c.requires.0.timed.over c.requires.1 c.record_of-at.ensures

pub record_of-at-requires : goal.record_of-at-requires
record_of-at-requires c = record_asked c.requires.0.timed.over c.requires.1

pub overflow_add-at : goal.overflow_add-at
overflow_add-at c =
    let here = own (goal.at.overflow_add-at c).After-acceleration in
    omega (arith, acceleration_within c.requires.0.timed.over.axes here c.acceleration.ensures.0)

pub vector-own-requires : goal.vector-own-requires
vector-own-requires c =
    acceleration_read c.requires.0.timed.over.axes (own (goal.at.vector-own-requires c).After-acceleration)
    c.acceleration.ensures.0

pub returns : goal.returns
returns c =
    let p = c.requires.0 in
    let d = c.args.over.dim in
    c.add.ensures d
    ∙ ap (λ (x : Vector). coordinates d c.zero-none.result ⊞ x)
    (c.scale.ensures d ∙ ap (λ (x : Vector). x ⊡ c.args.drive.dt) (c.add-acceleration.ensures d))
    ∙ change_made p.timed.over.axes (own (goal.at.returns c).After-acceleration) c.acceleration.ensures.0
    c.vector-own.ensures p.gravity_is p.timed.dt_is (c.zero-none.ensures d (few_axes _ p.timed.over.axes))
