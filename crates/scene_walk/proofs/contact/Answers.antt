-- `scene_walk::contact` meets its contract: field by field, up to the first refusal. Assumes nothing.
use mathlib.Core.Path.{sym, ◌∙◌}
use Rattle.scene_fields.specs.Fields.{◌▹◌}
use Rattle.scene_fields.proofs.Walks.{handed_on}
use Rattle.scene_walk.specs.Walk.{contact}
use Rattle.scene_walk.proofs.contact.Goals as goal

pub returns-in_err-first : goal.returns-in_err-first
unfolding contact ◌▹◌
returns-in_err-first c = handed_on c.from_residual.ensures.1 ∙ rw (sym c.plain.ensures ∙ c.in_err-first.was)

pub returns : goal.returns
unfolding contact ◌▹◌
returns c = rw (sym c.plain.ensures ∙ c.in_ok-first.was) c.doubles.ensures
