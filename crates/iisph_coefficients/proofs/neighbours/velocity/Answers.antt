-- `iisph_coefficients::neighbours::velocity` meets its contract: by the kind, the velocity that the contact names
-- stands in the work list, or in the boundary particle's record, which the index finds. Assumes nothing.
use mathlib.Core.Path.{◌∙◌}
use native.Mathlib.Omega.{arith}
use Rattle.iisph_coefficients.proofs.Targets.{is_fluid, is_boundary, pass_axes, fluid_row, fluid-velocity}
use Rattle.iisph_coefficients.proofs.Targets.{boundary-velocity_read, boundary-velocity}
use Rattle.iisph_coefficients.proofs.neighbours.velocity.Goals as goal

pub row_at-requires : goal.row_at-requires
row_at-requires g c =
    let p = c.requires in
    fluid_row p.pass_over p.contact_ready.1 p.contact_ready.0 (is_fluid g.row.FLUID c.if-this-ne0.true)
    c.target_of-j.ensures

pub vector_at-requires : goal.vector_at-requires
vector_at-requires g c = (pass_axes c.requires.pass_over, omega (arith, c.row_at.ensures.1))

pub vector-requires : goal.vector-requires
vector-requires g c =
    let p = c.requires in
    boundary-velocity_read p.pass_over p.contact_ready.1 p.contact_ready.0
    (is_boundary g.row.FLUID c.if-this-ne0.false) c.target_of-j-else-this-ne0.ensures c.record_of-record.ensures

pub returns-then-this-ne0 : goal.returns-then-this-ne0
returns-then-this-ne0 g c =
    let p = c.requires in
    c.vector_at.ensures
    ∙ fluid-velocity p.pass_over p.contact_ready.1 p.contact_ready.0 (is_fluid g.row.FLUID c.if-this-ne0.true)
    c.target_of-j.ensures c.row_at.ensures.0

pub returns-else-this-ne0 : goal.returns-else-this-ne0
returns-else-this-ne0 g c =
    let p = c.requires in
    c.vector.ensures
    ∙ boundary-velocity p.pass_over p.contact_ready.1 p.contact_ready.0 (is_boundary g.row.FLUID c.if-this-ne0.false)
    c.target_of-j-else-this-ne0.ensures c.record_of-record.ensures
