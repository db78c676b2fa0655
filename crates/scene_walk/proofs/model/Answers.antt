-- `scene_walk::model` meets its contract: the head, and then its records, which are as many as it says. Assumes
-- nothing.
use mathlib.Core.Path.{sym, ◌∙◌}
use Rattle.std.proofs.Common.{rules}
use Rattle.std.proofs.iter.Serving.{serving}
use Rattle.scene_fields.proofs.Folded.{times_folded}
use Rattle.scene_walk.specs.Walk.{model_of, record_of}
use Rattle.scene_fields.specs.Fields.{◌▹◌}
use Rattle.scene_fields.proofs.Walks.{handed_on}
use Rattle.scene_walk.proofs.Within.{passed_head}
use Rattle.scene_walk.proofs.model.Goals as goal

pub returns-in_err-first : goal.returns-in_err-first
unfolding model_of ◌▹◌
returns-in_err-first c = handed_on c.from_residual.ensures.1 ∙ rw (sym c.model_head.ensures ∙ c.in_err-first.was)

pub particles-requires : goal.particles-requires
particles-requires c = passed_head _ _ _ (sym c.model_head.ensures ∙ c.in_ok-first.was)

pub try_fold-requires-clause-callable : goal.try_fold-requires-clause-callable
try_fold-requires-clause-callable c =
    let there = passed_head _ _ _ (sym c.model_head.ensures ∙ c.in_ok-first.was) in
    grind serving

pub returns : goal.returns
unfolding model_of ◌▹◌
returns c =
    let a = c.args in
    rw (sym c.model_head.ensures ∙ c.in_ok-first.was, ← c.particles.ensures.0)
    (times_folded _ (record_of a.kind a.s.now a.head) _ (λ at k w d h. search rules) c.try_fold.ensures.ran)
