-- `math::Vec3::add` meets its contract: the definition on all axes is the code, and on the first d it is the first d of
-- that. Assumes nothing.
use mathlib.Core.List.{[], ◌∷◌, zip_with}
use Rattle.math.specs.Vector.{◌⊞◌, coordinates}
use Rattle.math.proofs.Vectors.{take_zipped}
use Rattle.math.proofs.Vec3.add.Goals as goal

pub returns : goal.returns
unfolding ◌⊞◌ zip_with coordinates
returns c d = take_zipped _ d (_ ∷ _ ∷ _ ∷ []) (_ ∷ _ ∷ _ ∷ [])
