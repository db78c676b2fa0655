-- `iisph_forces::gather::gather` meets its contract: where the boundary keeps forces, the force stands as many kept
-- answers behind the first as the particle's number says. Assumes nothing.
use native.Mathlib.Omega.{arith}
use Rattle.iisph_motion.proofs.Accelerations.{pass_axes}
use Rattle.iisph_forces.proofs.Contacts.{force_kept, force_offset_lem, force_room, force_none}
use Rattle.iisph_forces.proofs.Contacts.{gather_kept, gather_none}
use Rattle.iisph_forces.proofs.gather.gather.Goals as goal

pub overflow_add-k : goal.overflow_add-k
overflow_add-k c =
    let p = c.requires in
    let over = p.pass_over.0 in
    let contact = p.force_contact in
    omega (
      arith,
      force_room over.indexed contact.0 contact.1 c.contact_name-name.ensures c.in-Some.is
          c.kept_answer_width.ensures.0 over.axes contact.2,
    )

pub vector_at-requires : goal.vector_at-requires
vector_at-requires c =
    let p = c.requires in
    let over = p.pass_over.0 in
    let contact = p.force_contact in (
      pass_axes over,
      force_room over.indexed contact.0 contact.1 c.contact_name-name.ensures c.in-Some.is
          c.kept_answer_width.ensures.0 over.axes contact.2,
    )

pub put_vector-requires : goal.put_vector-requires
put_vector-requires c =
    let p = c.requires in
    let over = p.pass_over.0 in
    let contact = p.force_contact in (
      pass_axes over,
      force_room over.indexed contact.0 contact.1 c.contact_name-name.ensures c.in-Some.is
          c.kept_answer_width.ensures.0 over.axes contact.2,
    )

pub returns-in-Some : goal.returns-in-Some
returns-in-Some c =
    let a = c.args in
    let p = c.requires in
    let d = a.over.dim in
    let taken = c.in-Some.is in
    gather_kept d a.over.scene.now a.at a.state a.answers.now
    (force_kept p.pass_over.0.indexed p.force_contact.0 p.force_contact.1 c.contact_name-name.ensures taken)
    c.put_vector.ensures
    (force_offset_lem p.pass_over.0.indexed p.force_contact.0 p.force_contact.1 c.contact_name-name.ensures taken
    c.kept_answer_width.ensures.0)
    (c.add-force.ensures d)
    c.vector_at.ensures
    (c.scale.ensures d)
    c.boundary_acceleration-a.ensures

pub returns-in_default : goal.returns-in_default
returns-in_default c =
    let a = c.args in
    let p = c.requires in
    gather_none a.over.dim a.over.scene.now a.at a.state a.answers.now
    (force_none p.pass_over.0.indexed p.force_contact.0 p.force_contact.1 c.contact_name-name.ensures
    c.in_default.is)
