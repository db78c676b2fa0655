-- The number of axes that a form has: that of the plane in the flat version and else that of space, so one of the two,
-- by the test of the version; and what fits into the bytes at any such number. Assumes nothing.
use Prim.Native.Nat.{ℕ, ◌+◌, ◌*◌, ◌<◌, ◌≤◌}
use mathlib.Core.Path.{◌≡◌, refl}
use mathlib.Core.Bool.{Bool, true, false}
use mathlib.Core.List.{List, [], ◌∷◌}
use native.Mathlib.Nat.{mul-le-mul_left, mul-le-mul_right, mul-one, le_of_suc-le-suc}
use native.Mathlib.Omega.{arith}
use lib.Dec.{eqb}
use lib.ListN.{length}
use borrow.Author.Tests.{eq-eqb, ne_eqb}
use Rattle.std.specs.Int.{from_bool}
use Rattle.math.specs.Vector.{plane, space, Axes}
use Rattle.scene_format.specs.Bytes.{AllFinite}
use Rattle.scene_format.specs.Format.{version_of, flat_version, axes_of, bit, contact_width, contact_count_offset}
use Rattle.scene_format.specs.Format.{record_width}
use Rattle.scene_format.specs.declared.Kind.TheVariants.{Fluid}

pub flat-axes : (b : List ℕ) → version_of b ≡ flat_version → axes_of b ≡ plane
unfolding axes_of
flat-axes b e = rw (eq-eqb _ _ e)

pub other-axes : (b : List ℕ) → (version_of b ≡ flat_version → ⊥) → axes_of b ≡ space
unfolding axes_of
other-axes b h = rw (ne_eqb _ _ h)

-- no bytes have no version
pub no_axes : (b : List ℕ) → length b ≡ 0 → axes_of b ≡ space
unfolding axes_of
no_axes [] h = refl
no_axes (x ∷ b) h = absurd (omega (arith, h))

pub in_plane : Axes plane
in_plane = record { least = omega arith; most = omega arith }

pub in_space : Axes space
in_space = record { least = omega arith; most = omega arith }

pub axes_of_lem : (b : List ℕ) → Axes (axes_of b)
unfolding axes_of
axes_of_lem b = told (eqb (version_of b) flat_version) refl
  where
    told : (t : Bool) → eqb (version_of b) flat_version ≡ t → Axes (axes_of b)
    told true e = rw e in_plane
    told false e = rw e in_space

-- the number of axes that the code has
pub axes-are : (b : List ℕ) {d : ℕ} → d ≡ axes_of b → Axes d
axes-are b e = rw e (axes_of_lem b)

-- what a read of a vector asks, at a number of axes that is the one asked for
pub vector_at_lem : {d n : ℕ} → d ≡ n → (b : List ℕ) (at : ℕ) → Axes d → AllFinite b at d → Axes n × AllFinite b at n
vector_at_lem e b at h f = rw (← e) (h, f)

-- both contact lists of a fluid record end within the bytes, where the record does
pub first-within : (at d g : ℕ) {l counts width f n : ℕ} → counts ≡ contact_count_offset Fluid d →
    width ≡ contact_width d
    → n ≡ f → at + record_width d + contact_width d * (f + g) ≤ l → at + (counts + 2) + width * n ≤ l
first-within at d g e q r h = rw (e, q, r) (omega (arith, h))

pub second-within : (at d : ℕ) {l counts width f g n m from : ℕ} → counts ≡ contact_count_offset Fluid d
    → width ≡ contact_width d → n ≡ f → m ≡ g → from ≡ at + (counts + 2) + width * n
    → at + record_width d + contact_width d * (f + g) ≤ l → from + width * m ≤ l
second-within at d e q r t u h = rw (u, e, q, r, t) (omega (arith, h))

-- a part that is there once or not at all
pub kept_fits : {w m k : ℕ} → w < m → k < 2 → w * k < m
kept_fits {w} {m} {k} l h = omega (arith, mul-le-mul_left w (le_of_suc-le-suc h), mul-one w)

-- the number that the code makes of a bool
pub from_bit : (answer : Bool) → from_bool answer ≡ bit answer
from_bit true = refl
from_bit false = refl

-- as many contacts as two bytes count are few bytes, whatever the number of axes is
pub two_bytes : {m n : ℕ} → m < 256 → n < 256 → m + n < 2 * 256
two_bytes h k = omega arith

pub contacts_fit : {w n : ℕ} → w < 4096 → n < 2 * 256 → w * n < 4096 * (2 * 256)
contacts_fit {w} {n} l h = omega (arith, mul-le-mul_right n l)
