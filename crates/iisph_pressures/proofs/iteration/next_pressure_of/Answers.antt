-- `iisph_pressures::iteration::next_pressure_of` meets its contract: the pressure sum over both kinds of contacts is
-- the rule's, and the work list holds what else it takes of the particle. Assumes nothing.
use Prim.Native.Nat.{ℕ, ◌+◌, ◌*◌}
use mathlib.Core.Path.{ap, ◌∙◌}
use native.Mathlib.Omega.{arith}
use Rattle.scene_check.proofs.Accepted.{accepted_header}
use Rattle.iisph_rows.specs.Rows.{element_at}
use Rattle.iisph_pressures.proofs.ContactTurns.{contacts_found, contacts_ready}
use Rattle.iisph_pressures.proofs.IterationTerms.{axes-are, next_made}
use Rattle.iisph_pressures.proofs.iteration.next_pressure_of.Goals as goal

pub owner_of-owner-requires : goal.owner_of-owner-requires
owner_of-owner-requires c =
    let p = c.requires.timed_pass in
    (axes-are _ p.0.over.axes, p.1, omega (arith, c.requires.iterating.room))

pub fluid_pressure_sum-part-requires-clause-contacts_ready : goal.fluid_pressure_sum-part-requires-clause-contacts_ready
fluid_pressure_sum-part-requires-clause-contacts_ready c =
    let p = c.requires.timed_pass in
    contacts_ready p.0.over p.1 c.contacts_of-fluid.ensures

pub boundary_pressure_sum-sum-requires-clause-contacts_ready :
    goal.boundary_pressure_sum-sum-requires-clause-contacts_ready
boundary_pressure_sum-sum-requires-clause-contacts_ready c =
    let p = c.requires.timed_pass in
    contacts_ready p.0.over p.1 c.contacts_of-boundary.ensures

pub criterion-requires : goal.criterion-requires
criterion-requires c =
    omega (arith, accepted_header _ c.requires.timed_pass.0.over.indexed.accepted)

pub returns : goal.returns
returns c =
    let p = c.requires.timed_pass in
    let over = p.0.over in
    next_made _ over.axes over.size c.requires.iterating _ p.1
    (contacts_found over p.1 c.contacts_of-fluid.ensures)
    (contacts_found over p.1 c.contacts_of-boundary.ensures)
    _ p.0.dt_is c.owner_of-owner.result c.owner_of-owner.ensures
    c.fluid_pressure_sum-part.ensures
    c.boundary_pressure_sum-sum.ensures
    c.criterion.ensures
    (c.in_column.ensures ∙ ap (λ (x : ℕ). element_at c.args.work.now (x * c.args.over.n + c.args.i))
    c.aii_column.ensures)
    (c.in_column-2.ensures ∙ ap (λ (x : ℕ). element_at c.args.work.now (x * c.args.over.n + c.args.i))
    c.predicted_column.ensures)
    c.next_from.ensures
