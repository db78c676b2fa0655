-- `scene_format::read::be64` meets its contract: what each of the eight bytes is worth, in its order. Assumes nothing.
use borrow.Author.Rules.{rules}
use Rattle.scene_format.specs.Bytes.{be64_at}
use Rattle.scene_format.proofs.read.be64.Goals as goal

pub returns : goal.returns
unfolding be64_at
returns c = search rules
