-- `scene_walk::contacts` meets its contract: the closure is the step, at each number. Assumes nothing.
use Rattle.std.proofs.Common.{rules}
use Rattle.scene_fields.proofs.Folded.{times_folded}
use Rattle.scene_walk.specs.Walk.{contact}
use Rattle.scene_walk.proofs.contacts.Goals as goal

pub returns : goal.returns
returns c =
    let a = c.args in
    times_folded _ (contact a.d a.s.now) _ (λ at k w d h. search rules) c.try_fold.ensures.ran
