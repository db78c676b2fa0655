-- `iisph_forces::gather::gather_list` meets its contract. The invariant: the answer list is what the contacts passed
-- make of it; a turn takes in one more. Assumes nothing.
use mathlib.Core.Path.{refl}
use Rattle.lists.specs.Lists.{fold, table}
use Rattle.scene_format.specs.SceneOf.{contact_list, scene_of}
use Rattle.scene_format.specs.declared.Kind.TheVariants.{Boundary}
use Rattle.scene_index.proofs.ContactLists.{fold_next}
use Rattle.iisph_forces.specs.Forces.{gathered, state_gain}
use Rattle.iisph_forces.proofs.gather.gather_list.Goals as goal

pub loop-k-init : goal.loop-k-init
unfolding contact_list table fold
loop-k-init c = refl

pub loop-k-preserved : goal.loop-k-preserved
loop-k-preserved c =
    let a = c.args in
    let d = a.over.dim in
    let b = a.over.scene.now in
    let s = scene_of b in
    fold_next (gathered d s (state_gain s a.state)) a.answers.now Boundary d b a.list.at c.loop-k.k
    c.contact_width-width.ensures.0 c.loop-k.invariant c.gather.ensures
