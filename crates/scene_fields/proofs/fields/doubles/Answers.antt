-- `scene_fields::fields::doubles` meets its contract: the closure is the step, at each number. Assumes nothing.
use Rattle.std.proofs.Common.{rules}
use Rattle.scene_fields.specs.Fields.{double}
use Rattle.scene_fields.proofs.Folded.{times_folded}
use Rattle.scene_fields.proofs.fields.doubles.Goals as goal

pub returns : goal.returns
returns c =
    let a = c.args in
    times_folded _ (double a.s.now) _ (λ at k w d h. search rules) c.try_fold.ensures.ran
