-- `scene_fields::reader::double_at` meets its contract: by whether the walk passes the double or refuses it. Assumes
-- nothing.
use mathlib.Core.Path.{sym, ◌∙◌}
use Rattle.scene_fields.specs.Reading.{read_as}
use Rattle.scene_fields.proofs.Reached.{double-steps}
use Rattle.scene_fields.proofs.Walks.{handed_on}
use Rattle.scene_fields.proofs.reader.double_at.Goals as goal

pub returns-in_err-double : goal.returns-in_err-double
unfolding read_as
returns-in_err-double c = handed_on c.from_residual.ensures.1 ∙ rw (sym c.double.ensures ∙ c.in_err-double.was)

pub double-requires-2 : goal.double-requires-2
double-requires-2 c = (double-steps _ _ _ (sym c.double.ensures ∙ c.in_ok-double.was)).1

pub returns : goal.returns
unfolding read_as
returns c = rw (sym c.double.ensures ∙ c.in_ok-double.was, ← c.double-2.ensures)
