-- `iisph_motion::changes::final_change_of` meets its contract: the folds over both lists of contacts, one from the
-- other on, are the rule's. Assumes nothing.
use native.Mathlib.Omega.{arith}
use Rattle.iisph_pressures.proofs.ContactTurns.{contacts_found, contacts_ready}
use Rattle.iisph_motion.proofs.Accelerations.{pass_axes}
use Rattle.iisph_motion.proofs.PressureChanges.{share_at, change_made}
use Rattle.iisph_motion.proofs.changes.final_change_of.Goals as goal

pub column_at-requires : goal.column_at-requires
column_at-requires c =
    let p = c.requires in (
      omega (arith, c.quotient_column.ensures, (pass_axes p.driven_pass.0.timed.over).least),
      p.driven_pass.1,
      omega (arith, p.changes_ready.iteration.room),
    )

pub fluid_changes-part-requires-clause-contacts_ready : goal.fluid_changes-part-requires-clause-contacts_ready
fluid_changes-part-requires-clause-contacts_ready c =
    let p = c.requires.driven_pass in
    contacts_ready p.0.timed.over p.1 c.contacts_of-fluid.ensures

pub boundary_changes-requires-clause-contacts_ready : goal.boundary_changes-requires-clause-contacts_ready
boundary_changes-requires-clause-contacts_ready c =
    let p = c.requires.driven_pass in
    contacts_ready p.0.timed.over p.1 c.contacts_of-boundary.ensures

pub returns : goal.returns
returns c =
    let p = c.requires.driven_pass in
    let over = p.0.timed.over in
    change_made over.axes _
    (contacts_found over p.1 c.contacts_of-fluid.ensures)
    (contacts_found over p.1 c.contacts_of-boundary.ensures)
    _ _ p.0.timed.dt_is _ c.pressure_state_of-state.ensures _
    (share_at c.requires.changes_ready p.1 c.quotient_column.ensures c.column_at.ensures.0)
    c.velocity_change_of-first.ensures
    c.fluid_changes-part.ensures
    c.boundary_changes.ensures
