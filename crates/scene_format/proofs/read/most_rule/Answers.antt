-- `scene_format::read::most_rule` meets its contract: by whether the version is the first. Assumes nothing.
use mathlib.Core.Path.{ap}
use borrow.Author.Tests.{eq-eqb, ne_eqb}
use Rattle.scene_format.specs.Format.{upper_half}
use Rattle.scene_format.proofs.read.most_rule.Goals as goal

pub returns-then-byte-eq-FIRST_VERSION : goal.returns-then-byte-eq-FIRST_VERSION
returns-then-byte-eq-FIRST_VERSION c = rw (← ap upper_half c.byte.ensures.0, eq-eqb _ _ c.if-byte-eq-FIRST_VERSION.true)

pub returns-else-byte-eq-FIRST_VERSION : goal.returns-else-byte-eq-FIRST_VERSION
returns-else-byte-eq-FIRST_VERSION c = rw (
  ← ap upper_half c.byte.ensures.0,
  ne_eqb _ _ c.if-byte-eq-FIRST_VERSION.false,
)
