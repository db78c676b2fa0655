-- `iisph_forces::gather::gather_all` meets its contract. The invariant: the answer list is what the particles passed
-- make of it. Assumes nothing.
use Prim.Native.Nat.{◌<◌}
use native.Mathlib.Omega.{arith}
use Rattle.scene_format.specs.Scene.{fluid_size}
use Rattle.scene_format.specs.SceneOf.{scene_of}
use Rattle.iisph_pressures.specs.IterationRows.{pressures_in}
use Rattle.iisph_forces.proofs.Contacts.{force_contacts, from_made, no_particles, one_more_particle}
use Rattle.iisph_forces.proofs.gather.gather_all.Goals as goal

pub loop-i-init : goal.loop-i-init
loop-i-init c = no_particles _ _ _ _

pub gather_list-requires-clause-force_contacts : goal.gather_list-requires-clause-force_contacts
gather_list-requires-clause-force_contacts c =
    let p = c.requires in
    let over = p.pass_over.0 in
    let s = scene_of c.args.over.scene.now in
    let below : c.loop-i.i < fluid_size s = omega (arith, c.loop-i-test.true, over.size) in (
      force_contacts over.indexed c.loop-i.i below over.axes c.contacts_of-list.ensures,
      p.forces_known.0,
      omega (arith, c.loop-i.auto, p.forces_known.1),
    )

pub loop-i-preserved : goal.loop-i-preserved
loop-i-preserved c =
    let a = c.args in
    let d = a.over.dim in
    let s = scene_of a.over.scene.now in
    let over = c.requires.pass_over.0 in
    let below : c.loop-i.i < fluid_size s = omega (arith, c.loop-i-test.true, over.size) in
    one_more_particle d s (pressures_in d a.over.n a.work.now) a.answers.now c.loop-i.i c.loop-i.invariant
    (from_made over.indexed c.loop-i.i below over.axes c.contacts_of-list.ensures c.pressure_state_of-state.ensures
    c.loop-i.answers c.gather_list.ensures)
