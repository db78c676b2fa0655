-- `scene_fields::reader::behind_double` meets its contract: by whether the walk passes the double or refuses it.
-- Assumes nothing.
use mathlib.Core.Path.{◌≡◌, refl, ◌∙◌}
use Prim.Native.Nat.{ℕ}
use Rattle.std.specs.Result.{result_unwrap_or}
use Rattle.std.specs.declared.result.Result.TheVariants.{Ok, Err}
use Rattle.scene_format.specs.Refusals.{Walk}
use Rattle.scene_fields.specs.Reading.{reached}
use Rattle.scene_fields.proofs.reader.behind_double.Goals as goal

reached_or : (w : Walk) (at : ℕ) → result_unwrap_or w at ≡ reached at w
unfolding reached
reached_or (Ok next) at = refl
reached_or (Err r) at = refl

pub returns : goal.returns
returns c = c.unwrap_or.ensures ∙ rw c.double.ensures (reached_or _ _)
