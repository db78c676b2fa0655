-- `scene_fields::fields::version_known` meets its contract: by the same tests. Assumes nothing.
use Rattle.std.proofs.Common.{arith}
use Rattle.std.proofs.lemmas.Grind.{common_steps}
use Rattle.scene_format.specs.Format.{version_known}
use Rattle.scene_fields.proofs.fields.version_known.Goals as goal

pub returns-then-version-eq-RULED_VERSION : goal.returns-then-version-eq-RULED_VERSION
unfolding version_known
returns-then-version-eq-RULED_VERSION c = grind (arith, common_steps)

pub returns-else-version-eq-RULED_VERSION : goal.returns-else-version-eq-RULED_VERSION
unfolding version_known
returns-else-version-eq-RULED_VERSION c = grind (arith, common_steps)
