-- `scene_fields::fields::half_byte` meets its contract: by the rule, and by whether the half keeps it. Assumes nothing.
use borrow.Author.Tests.{lt-ltb, le-ltb}
use Rattle.lists.specs.Lists.{choose}
use Rattle.scene_fields.specs.Fields.{refused_if, half_byte}
use Rattle.scene_fields.proofs.fields.half_byte.Goals as goal

pub returns-in-Version : goal.returns-in-Version
unfolding half_byte refused_if choose
returns-in-Version c onward = rw (c.in-Version.is, ← c.version_known.ensures, c.if-not-version_known.true)

pub returns-in-Rule : goal.returns-in-Rule
unfolding half_byte refused_if choose
returns-in-Rule c onward = rw (c.in-Rule.is, lt-ltb _ _ c.if-most-x.true)

pub returns-in-ModelCount : goal.returns-in-ModelCount
unfolding half_byte refused_if choose
returns-in-ModelCount c onward = rw (c.in-ModelCount.is, lt-ltb _ _ c.if-x-gt-MAX_MODELS.true)

pub returns-in_default : goal.returns-in_default
unfolding half_byte refused_if choose
returns-in_default c onward = rw (c.in-Version.is, ← c.version_known.ensures, c.if-not-version_known.false)

pub returns-in_default-2 : goal.returns-in_default-2
unfolding half_byte refused_if choose
returns-in_default-2 c onward = rw (c.in-Rule.is, le-ltb _ _ c.if-most-x.false)

pub returns-in_default-3 : goal.returns-in_default-3
unfolding half_byte refused_if choose
returns-in_default-3 c onward = rw (c.in-ModelCount.is, le-ltb _ _ c.if-x-gt-MAX_MODELS.false)
