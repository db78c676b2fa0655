-- `iisph_rows::rows::put_vector` meets its contract: three stores; in the plane the last takes the second one's place,
-- in space the last two may change places. Assumes nothing.
use Prim.Native.Nat.{ℕ, suc, ◌+◌, ◌-◌}
use mathlib.Core.Path.{◌≡◌, sym, subst}
use mathlib.Core.List.{List}
use mathlib.Core.Logic.{⊎_elim}
use native.Mathlib.Omega.{arith}
use lib.Ieee.{Float}
use lib.ListN.{set}
use lib.Seq.{sets, set-set, set_comm}
use Rattle.math.specs.Vector.{Axes, coordinates}
use Rattle.math.specs.declared.Vec3.{Vec3}
use Rattle.math.proofs.Vectors.{plane_or_space}
use Rattle.iisph_rows.proofs.rows.put_vector.Goals as goal

-- z at the last of d elements from k on, then y at the second
stored : (l : List Float) (k d w : ℕ) (v : Vec3) → Axes d → w ≡ d
    → set (set (set l k v.x) (k + (w - 1)) v.z) (k + 1) v.y ≡ sets l k (coordinates d v)
unfolding coordinates
stored l k d w v axes e =
    let second : k + 1 ≡ suc k = omega arith in
    ⊎_elim
    (λ f.
    let last : k + (w - 1) ≡ suc k = omega (arith, e, f) in
    at_axes f (rw (last, second) (set-set (set l k v.x) (suc k) v.z v.y)))
    (λ f.
    let last : k + (w - 1) ≡ suc (suc k) = omega (arith, e, f) in
    at_axes f (rw (last, second) (set_comm (set l k v.x) (suc (suc k)) (suc k) v.z v.y (λ q. omega (arith, q)))))
    (plane_or_space axes)
  where
    at_axes : {n : ℕ} → d ≡ n
        → set (set (set l k v.x) (k + (w - 1)) v.z) (k + 1) v.y ≡ sets l k (coordinates n v)
        → set (set (set l k v.x) (k + (w - 1)) v.z) (k + 1) v.y ≡ sets l k (coordinates d v)
    at_axes f h =
        subst
        (λ (n : ℕ). set (set (set l k v.x) (k + (w - 1)) v.z) (k + 1) v.y ≡ sets l k (coordinates n v))
        (sym f)
        h

pub returns : goal.returns
returns c = stored _ _ _ _ c.args.v c.requires.0 c.from.ensures
