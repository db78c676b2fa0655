-- `math::Vec3::scale` meets its contract: the definition on all axes is the code, and on the first d it is the first d
-- of
-- that. Assumes nothing.
use mathlib.Core.List.{[], ◌∷◌}
use Rattle.math.specs.Vector.{◌⊡◌, coordinates}
use Rattle.math.proofs.Vectors.{take_mapped}
use Rattle.math.proofs.Vec3.scale.Goals as goal

pub returns : goal.returns
unfolding ◌⊡◌ coordinates
returns c d = take_mapped _ d (_ ∷ _ ∷ _ ∷ [])
