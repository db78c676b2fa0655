-- `iisph_coefficients::neighbours::mass` meets its contract: by the kind, the work list holds the mass or the volume of
-- what the contact names. Assumes nothing.
use Rattle.iisph_coefficients.proofs.Targets.{is_fluid, is_boundary}
use Rattle.iisph_coefficients.proofs.Targets.{fluid_row, fluid_mass_lem, boundary_volume_lem, boundary_mass_lem}
use Rattle.iisph_coefficients.proofs.neighbours.mass.Goals as goal

pub row_at-requires : goal.row_at-requires
row_at-requires g c =
    let p = c.requires in
    fluid_row p.pass_over p.contact_ready.1 p.contact_ready.0 (is_fluid g.row.FLUID c.if-this-ne0.true)
    c.target_of-j.ensures

pub volume_at-requires : goal.volume_at-requires
volume_at-requires g c =
    let p = c.requires in
    boundary_volume_lem p.pass_over p.contact_ready.1 p.contact_ready.0 (is_boundary g.row.FLUID c.if-this-ne0.false)
    c.target_of-j-else-this-ne0.ensures

pub returns-then-this-ne0 : goal.returns-then-this-ne0
returns-then-this-ne0 g c =
    let p = c.requires in
    fluid_mass_lem p.pass_over p.contact_ready.1 p.contact_ready.0 (is_fluid g.row.FLUID c.if-this-ne0.true)
    c.target_of-j.ensures c.row_at.ensures.0 _

pub returns-else-this-ne0 : goal.returns-else-this-ne0
returns-else-this-ne0 g c =
    let p = c.requires in
    boundary_mass_lem p.pass_over p.contact_ready.1 p.contact_ready.0 (is_boundary g.row.FLUID c.if-this-ne0.false)
    c.target_of-j-else-this-ne0.ensures _ c.volume_at.ensures.0
