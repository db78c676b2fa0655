-- `iisph_passes::traverse::update_rows` meets its contract. The loop's invariant: the list is as at entry but for the
-- slots of the first i particles. Assumes nothing.
use mathlib.Core.Path.{◌≡◌}
use Rattle.scene_format.specs.SceneOf.{scene_of}
use Rattle.iisph_rows.specs.Rows.{slot_at}
use Rattle.lists.specs.Stores.{stored_at}
use Rattle.iisph_passes.specs.Traverse.{slot_of, row_of}
use Rattle.iisph_passes.proofs.traverse.update_rows.Given as goal

abbrev pub invariant-loop-i : goal.invariant-loop-i
invariant-loop-i l =
    let o = l.over in
    l.work
    ≡ stored_at (slot_at o.dim o.n) l.i (slot_of o.dim l.pass)
    (row_of o.dim (scene_of o.scene.now) l.initial.work l.pass) l.initial.work
