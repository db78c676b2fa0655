-- Vectors of d axes: every operation on them gives such a vector, by the length of zipped and mapped lists; and an
-- operation on all axes of the code's vectors is one on the first d of them, axis by axis. Assumes nothing.
use Prim.Native.Nat.{ℕ, zero, suc, ◌-◌, ◌≤◌}
use mathlib.Core.Path.{◌≡◌, refl, sym, ap, ◌∙◌, subst}
use mathlib.Core.List.{[], ◌∷◌, map, zip_with}
use mathlib.Core.Logic.{◌⊎◌, inl, inr, ⊎_elim}
use native.Mathlib.Nat.{eq-or-lt_of_le}
use native.Mathlib.Omega.{arith}
use lib.ListN.{length, take, length-map}
use lib.Seq.{length-take-le}
use lib.Ieee.{Float}
use Rattle.lists.specs.Lists.{fold, table}
use Rattle.math.specs.Real.{◌⊕◌, ◌⊗◌}
use Rattle.math.specs.Vector.{Vector, ◌⊞◌, ◌⊟◌, ◌⊡◌, ◌·◌, added, plane, space, Axes, coordinates}
use Rattle.math.specs.declared.Vec3.{Vec3}

-- a vector of d axes
abbrev pub Sized : ℕ → Vector → Type 0
Sized d u = length u ≡ d

zip_sized : (f : Float → Float → Float) (d : ℕ) (u v : Vector) → Sized d u → Sized d v → Sized d (zip_with f u v)
unfolding zip_with
zip_sized f d [] v p q = p
zip_sized f d (x ∷ u) [] p q = q
zip_sized f d (x ∷ u) (y ∷ v) p q = ap suc (zip_sized f (length u) u v refl (omega arith)) ∙ p

module _ {d : ℕ} where
  pub sum_sized : (u v : Vector) → Sized d u → Sized d v → Sized d (u ⊞ v)
  unfolding ◌⊞◌
  sum_sized u v p q = zip_sized _ d u v p q

  pub difference_sized : (u v : Vector) → Sized d u → Sized d v → Sized d (u ⊟ v)
  unfolding ◌⊟◌
  difference_sized u v p q = zip_sized _ d u v p q

  pub scaled_sized : (u : Vector) (k : Float) → Sized d u → Sized d (u ⊡ k)
  unfolding ◌⊡◌
  scaled_sized u k p = length-map u _ ∙ p

-- ---- the first d axes of the code's vectors

pub take_zipped : (f : Float → Float → Float) (d : ℕ) (u v : Vector)
    → take d (zip_with f u v) ≡ zip_with f (take d u) (take d v)
unfolding zip_with
take_zipped f zero u v = refl
take_zipped f (suc d) [] v = refl
take_zipped f (suc d) (x ∷ u) [] = refl
take_zipped f (suc d) (x ∷ u) (y ∷ v) = ap (λ (r : Vector). f x y ∷ r) (take_zipped f d u v)

pub take_mapped : (f : Float → Float) (d : ℕ) (u : Vector) → take d (map f u) ≡ map f (take d u)
take_mapped f zero u = refl
take_mapped f (suc d) [] = refl
take_mapped f (suc d) (x ∷ u) = ap (λ (r : Vector). f x ∷ r) (take_mapped f d u)

pub coordinates_sized : (d : ℕ) (v : Vec3) → d ≤ space → Sized d (coordinates d v)
unfolding coordinates
coordinates_sized d v h = length-take-le d _ h

pub plane_or_space : {d : ℕ} → Axes d → (d ≡ plane) ⊎ (d ≡ space)
plane_or_space {d} h =
    ⊎_elim (λ e. inr e) (λ l. inl (omega (arith, h.least, l))) (eq-or-lt_of_le h.most)

-- read from a table, of whose first d entries z is the last: in the plane y once more, which nothing looks at
pub coordinates-table : (d : ℕ) {w : ℕ} (v : Vec3) (f : ℕ → Float) → Axes d → w ≡ d
    → v.x ≡ f 0 → v.y ≡ f 1 → v.z ≡ f (w - 1) → coordinates d v ≡ table d f
unfolding coordinates table
coordinates-table d v f axes e x y z =
    ⊎_elim (λ p. at_axes (sym p) (rw (x, y))) (λ p. at_axes (sym p) (rw (x, y, z, e, p))) (plane_or_space axes)
  where
    at_axes : {n : ℕ} → n ≡ d → coordinates n v ≡ table n f → coordinates d v ≡ table d f
    at_axes g h = subst (λ (n : ℕ). coordinates n v ≡ table n f) g h

-- the products of two axes, added; and with that of the third
module _ {d : ℕ} (u v : Vec3) where
  pub dot_in_space : d ≡ space
      → u.x ⊗ v.x ⊕ u.y ⊗ v.y ⊕ u.z ⊗ v.z ≡ coordinates d u · coordinates d v
  unfolding ◌·◌ added zip_with fold coordinates
  dot_in_space e = rw e

  pub dot_in_plane : Axes d → (d ≡ space → ⊥) → u.x ⊗ v.x ⊕ u.y ⊗ v.y ≡ coordinates d u · coordinates d v
  unfolding ◌·◌ added zip_with fold coordinates
  dot_in_plane h other = ⊎_elim (λ e. rw e) (λ e. absurd (other e)) (plane_or_space h)
