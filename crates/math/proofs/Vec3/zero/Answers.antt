-- `math::Vec3::zero` meets its contract: the first d of three zeros are d zeros. Assumes nothing.
use mathlib.Core.Path.{◌≡◌, refl, ap}
use Prim.Native.Nat.{ℕ, zero, suc, ◌≤◌}
use native.Mathlib.Nat.{not-suc-le-zero, le_of_suc-le-suc}
use mathlib.Core.List.{◌∷◌}
use lib.ListN.{take, replicate}
use Rattle.math.specs.Vector.{coordinates}
use Rattle.math.proofs.Vec3.zero.Goals as goal

take_replicate : {A : Type 0} (x : A) (d n : ℕ) → d ≤ n → take d (replicate n x) ≡ replicate d x
take_replicate x zero n h = refl
take_replicate x (suc d) zero h = absurd (not-suc-le-zero h)
take_replicate x (suc d) (suc n) h = ap (◌∷◌ x) (take_replicate x d n (le_of_suc-le-suc h))

pub returns : goal.returns
unfolding coordinates
returns c d h = take_replicate _ d _ h
