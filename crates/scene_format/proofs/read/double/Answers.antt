-- `scene_format::read::double` meets its contract: a pattern with a finite exponent is a number's. Assumes nothing.
use Prim.Native.Nat.{ℕ, ◌/◌, ◌%◌, ◌≤◌}
use mathlib.Core.Path.{◌≡◌, refl, sym, ap, subst}
use mathlib.Core.Bool.{Bool, true, false, not}
use native.Mathlib.Omega.{arith}
use lib.Ieee.{binary64, nan_bits}
use lib.Dec.{T, leb}
use borrow.Author.Tests.{leb-true, leb-false}
use Rattle.math.specs.Real.{bits}
use Rattle.math.proofs.Doubles.{number_pattern}
use Rattle.scene_format.specs.Bytes.{double_at, exponent_modulus, fraction_modulus, non_finite_exponent}
use Rattle.scene_format.proofs.read.double.Goals as goal

-- a finite exponent is below infinity's
finite_number : (n : ℕ) → (n / fraction_modulus % exponent_modulus ≡ non_finite_exponent → ⊥) →
    T (not (nan_bits binary64 n))
finite_number n h = number_pattern n (below (leb (n % 0x8000_0000_0000_0000) 0x7FF0_0000_0000_0000) refl)
  where
    below : (t : Bool) → leb (n % 0x8000_0000_0000_0000) 0x7FF0_0000_0000_0000 ≡ t
        → n % 0x8000_0000_0000_0000 ≤ 0x7FF0_0000_0000_0000
    below true e = leb-true _ _ e
    below false e = absurd (h (omega (arith, leb-false (n % 0x8000_0000_0000_0000) 0x7FF0_0000_0000_0000 e)))

pub float_from_bits-result : goal.float_from_bits-result
float_from_bits-result c = subst (λ (n : ℕ). T (not (nan_bits binary64 n))) (sym c.be64.ensures)
    (finite_number _ c.requires.finite)

pub returns : goal.returns
unfolding double_at
returns c = ap bits c.be64.ensures
