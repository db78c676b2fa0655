-- `scene_format::read::plainly_finite` meets its contract: the definition is the code. Assumes nothing.
use Rattle.scene_format.specs.Bytes.{plainly_finite}
use Rattle.scene_format.proofs.read.plainly_finite.Goals as goal

pub returns : goal.returns
unfolding plainly_finite
returns c = rw c.byte.ensures.0
