-- `scene_fields::fields::ended` meets its contract: bytes follow or not. Assumes nothing.
use borrow.Author.Tests.{lt-ltb, le-ltb}
use Rattle.lists.specs.Lists.{choose}
use Rattle.scene_fields.specs.Fields.{ended, refused_if}
use Rattle.scene_fields.proofs.fields.ended.Goals as goal

pub returns-then-at-s : goal.returns-then-at-s
unfolding ended refused_if choose
returns-then-at-s c = rw (lt-ltb _ _ c.if-at-s.true)

pub returns : goal.returns
unfolding ended refused_if choose
returns c = rw (le-ltb _ _ c.if-at-s.false)
