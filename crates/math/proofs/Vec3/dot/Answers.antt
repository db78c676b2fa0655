-- `math::Vec3::dot` meets its contract: by whether there are the axes of space. Assumes nothing.
use Rattle.math.proofs.Vectors.{dot_in_space, dot_in_plane}
use Rattle.math.proofs.Vec3.dot.Goals as goal

pub returns-then-dim-eq-SPACE : goal.returns-then-dim-eq-SPACE
returns-then-dim-eq-SPACE c = dot_in_space _ _ c.if-dim-eq-SPACE.true

pub returns : goal.returns
returns c = dot_in_plane _ _ c.requires c.if-dim-eq-SPACE.false
