-- `iisph_motion::changes::fluid_changes` meets its contract: a turn takes off what the rule takes off for the next
-- contact; the mass of what it names stands in its row and the share in its column. Assumes nothing.
use native.Mathlib.Omega.{arith}
use Rattle.iisph_pressures.specs.IterationRows.{pressures_in}
use Rattle.iisph_pressures.proofs.ContactTurns.{none_passed, fluid_target}
use Rattle.iisph_rows.proofs.RowStores.{row_within}
use Rattle.scene_format.specs.SceneOf.{scene_of}
use Rattle.scene_format.specs.declared.Kind.TheVariants.{Fluid}
use Rattle.scene_index.proofs.ContactLists.{contact_here}
use Rattle.iisph_motion.specs.Changes.{fluid_change}
use Rattle.iisph_motion.proofs.PressureChanges.{fluid_change_lem, change_next}
use Rattle.iisph_motion.proofs.changes.fluid_changes.Goals as goal

pub loop-k-init : goal.loop-k-init
loop-k-init c = none_passed _ _ _ _ _ _

pub row_at-requires : goal.row_at-requires
row_at-requires c =
    let p = c.requires in
    let below = fluid_target c.contact_width-width.ensures.0 c.loop-k-test.true p.contacts_ready c.target_of-j.ensures
    p.pass_over.0.size in
    omega (arith, row_within c.args.over.dim below, p.pass_over.1.iteration.room)

pub column_at-requires : goal.column_at-requires
column_at-requires c =
    let p = c.requires in (
      omega (arith, c.quotient_column-shares.ensures, p.contacts_ready.axes.least),
      fluid_target c.contact_width-width.ensures.0 c.loop-k-test.true p.contacts_ready c.target_of-j.ensures
          p.pass_over.0.size,
      omega (arith, p.pass_over.1.iteration.room),
    )

pub loop-k-preserved : goal.loop-k-preserved
loop-k-preserved c =
    let l = c.loop-k in
    let a = c.args in
    let p = c.requires in
    let d = a.over.dim in
    let ps = pressures_in d a.over.n a.work.now in
    let we = c.contact_width-width.ensures.0 in
    change_next Fluid d _ (fluid_change (scene_of a.over.scene.now) ps a.dt a.own) a.list.at l.k _ we l.invariant
    (fluid_change_lem _ (contact_here p.contacts_ready l.k we c.loop-k-test.true) p.pass_over.0 p.pass_over.1 a.own a.dt
    c.target_of-j.ensures c.row_at.ensures.0 c.quotient_column-shares.ensures c.column_at.ensures.0 c.vector.ensures
    (c.scale.ensures d))
    (c.sub-change.ensures d)
