-- Vectors: a double for each axis, so that the number of axes is a parameter; nalgebra's few operations, in its
-- order of rounding. Definitions only.
use Rattle.std.specs.Prelude.{ℕ, ◌≤◌, replicate, take, Float}
use mathlib.Core.List.{List, [], ◌∷◌, map, zip_with}
use Rattle.math.specs.Real.{◌⊕◌, ◌⊖◌, ◌⊗◌, +0, total}
use Rattle.math.specs.declared.Vec3.{Vec3}

infixl 65 ◌⊞◌ ◌⊟◌
infixl 70 ◌⊡◌ ◌·◌
abbrev pub Vector : Type 0
Vector = List Float

-- +0 on each of n axes
abbrev pub origin : ℕ → Vector
origin n = replicate n +0

unfoldable pub ◌⊞◌ : Vector → Vector → Vector
u ⊞ v = zip_with ◌⊕◌ u v

unfoldable pub ◌⊟◌ : Vector → Vector → Vector
u ⊟ v = zip_with ◌⊖◌ u v

unfoldable pub ◌⊡◌ : Vector → Float → Vector
u ⊡ k = map (λ x. x ⊗ k) u

-- the first number, and each further one added to what is there
unfoldable pub added : List Float → Float
added [] = +0
added (x ∷ xs) = total x xs

-- ((ax × bx) + (ay × by)) + (az × bz), of two axes (ax × bx) + (ay × by)
unfoldable pub ◌·◌ : Vector → Vector → Float
u · v = added (zip_with ◌⊗◌ u v)

-- ---- vectors of the code

-- how many axes it knows: those of the plane and those of space
abbrev pub plane : ℕ
plane = 2

abbrev pub space : ℕ
space = 3

pub record Axes (d : ℕ) : Type 0 where
  pub least : plane ≤ d
  pub most : d ≤ space

-- a vector of the code, as the list of its coordinates on the first d axes: of the plane its z says nothing
unfoldable pub coordinates : ℕ → Vec3 → Vector
coordinates d v = take d (v.x ∷ v.y ∷ v.z ∷ [])
