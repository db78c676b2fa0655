-- `iisph_passes::traverse::update_rows` meets its contract: what a turn needs of the list the pass has left as it was,
-- and the turn stores the slots of one particle more. Assumes nothing.
use mathlib.Core.Path.{◌∙◌}
use native.Mathlib.Omega.{arith}
use lib.Ieee.{nan}
use Rattle.scene_format.specs.SceneOf.{scene_of}
use Rattle.iisph_pressures.proofs.IterationTerms.{axes-are}
use Rattle.iisph_rows.specs.Rows.{slot_at}
use Rattle.iisph_passes.specs.Traverse.{slot_of, row_of}
use Rattle.lists.proofs.Stores.{stored_none, stored_next}
use Rattle.iisph_passes.proofs.Traversal.{ready_kept, row_again}
use Rattle.iisph_passes.proofs.traverse.update_rows.Goals as goal

pub loop-i-init : goal.loop-i-init
loop-i-init c = stored_none nan (slot_at _ _) _ _ _

pub update_row-requires-clause-room : goal.update_row-requires-clause-room
update_row-requires-clause-room c =
    let a = c.args in
    let p = c.requires in
    let over = p.driven_pass.timed.over in (
      omega (arith, p.room.0, c.loop-i.auto.work),
      ready_kept a.over.scene.now over.axes (axes-are _ over.axes) over.size c.loop-i.i c.loop-i.auto.i-end
          a.work.now a.pass c.loop-i.invariant p.room.1,
    )

pub loop-i-preserved : goal.loop-i-preserved
loop-i-preserved c =
    let a = c.args in
    let over = c.requires.driven_pass.timed.over in
    let o = a.over in
    stored_next nan (slot_at o.dim o.n) (slot_of o.dim a.pass) (row_of o.dim (scene_of o.scene.now) a.work.now a.pass)
    a.work.now c.loop-i.i c.loop-i.invariant
    (c.update_row.ensures
    ∙ row_again o.scene.now over.axes (axes-are _ over.axes) over.size c.loop-i.i c.loop-i-test.true a.work.now
    a.pass c.loop-i.invariant)
