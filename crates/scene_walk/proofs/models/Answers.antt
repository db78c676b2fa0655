-- `scene_walk::models` meets its contract: the closure is the step, at each number. Assumes nothing.
use Rattle.std.proofs.Common.{rules}
use Rattle.scene_fields.proofs.Folded.{times_folded}
use Rattle.scene_walk.specs.Walk.{models_of, model_of}
use Rattle.scene_walk.proofs.models.Goals as goal

pub returns : goal.returns
unfolding models_of
returns c =
    let a = c.args in
    rw (← c.model_number.ensures)
    (times_folded _ (model_of a.kind a.s.now) _ (λ at k w d h. search rules) c.try_fold.ensures.ran)
