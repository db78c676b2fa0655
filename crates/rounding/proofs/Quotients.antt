-- The quotient of two fractions, the second not 0: `round` of the exact one, and a step of a chain; -0 stays -0. By the
-- laws that Fractions, Rounding and Steps have. Assumes nothing.
use mathlib.Core.Path.{◌≡◌, refl, sym, ap, ◌∙◌}
use mathlib.Core.Logic.{inl, inr}
use Prim.Native.Nat.{ℕ, ◌+◌, ◌*◌, ◌^◌, ◌≤◌, ◌<◌, zero-le}
use native.Mathlib.Nat.{lt_irrefl, eq-zero-or-pos, zero-mul, mul_comm, mul_assoc, mul_left_comm, mul-pos}
use native.Mathlib.Nat.{le_of_mul-le-mul_right}
use mathlib.Core.Bool.{Bool, true, false}
use lib.IntN.{ℤ}
use lib.Arith.{le-zero}
use lib.Dec.{eqb, lit<}
use lib.Ieee.{Float, Format, binary64, unlike, up, down, round, div, fits, of_bits}
use lib.Ieee.Back.{whole_unique}
use lib.Ieee.Fits.{up_pos, down_pos, div-fits}
use lib.Ieee.Exact.{HasValue}
use lib.Ieee.Scale.{round_same}
use borrow.Author.Tests.{ne_eqb}
use Rattle.rounding.specs.Exact.{unit}
use Rattle.rounding.proofs.Fractions.{Fraction, Rounded, at_fractions, same_fraction, value_of}
use Rattle.rounding.proofs.Counts.{minus_zero_lem}
use Rattle.rounding.proofs.Rounding.{round_near}
use Rattle.rounding.proofs.Steps.{Scale, Step, unit_pos, step}

-- ---- what is not 0 has a significand above 0

pub significand_pos : (n : ℕ) (i : ℤ) (b d : ℕ) → 0 < b → n * up i * d ≡ b * down i → 0 < n
significand_pos n i b d B e =
    elim (eq-zero-or-pos n) [
      | inl z ↦
          let l : 0 < n * up i * d = rw e (mul-pos B (down_pos i)) in
          absurd (lt_irrefl 0 (rw (z, zero-mul (up i), zero-mul d) at l))
      | inr p ↦ p
    ]

pub not_zero : (n : ℕ) → 0 < n → eqb n 0 ≡ false
not_zero n p = ne_eqb n 0 (λ z. lt_irrefl 0 (rw z at p))

-- ---- the quotient

pub div_is : (f : Format) (x y : Float) (s t : Bool) (a c b d : ℕ) → 0 < c → 0 < b → 0 < d
    → HasValue x s a c → HasValue y t b d → div f x y ≡ round f (unlike s t) (a * d) (b * c)
unfolding div
div_is f x y s t a c b d C B D h k =
    at_fractions (λ x y. div f x y ≡ round f (unlike s t) (a * d) (b * c)) x y s t a c b d h k
    (λ m e n i v w.
    let N = significand_pos n i b d B w in
    simp (not_zero n N)
    (round_same f (unlike s t) (m * up e * down i) (n * up i * down e) (a * d) (b * c)
    (mul-pos (mul-pos N (up_pos i)) (down_pos e)) (mul-pos B C)
    (cross (m * up e) (down e) (n * up i) (down i) v w)))
  where
    cross : (x p y q : ℕ) → x * c ≡ a * p → y * d ≡ b * q → x * q * (b * c) ≡ a * d * (y * p)
    cross x p y q v w =
        let l : x * q * (b * c) ≡ x * c * (b * q) = simp (mul_assoc, mul_comm, mul_left_comm) in
        l ∙ ap (λ z. z * (b * q)) v ∙ ap (λ z. a * p * z) (sym w) ∙ simp (mul_assoc, mul_comm, mul_left_comm)

pub div_rounded : (f : Format) {x y : Float} {a c b d : ℕ} → 0 < c → 0 < b → 0 < d
    → Fraction false x a c → Fraction false y b d → Rounded f false (div f x y) (a * d) (b * c)
div_rounded f {x} {y} {a} {c} {b} {d} C B D X Y =
    record {
      sign = false;
      signed = refl;
      is = div_is f x y false false a c b d C B D (value_of X) (value_of Y);
    }

-- ---- the quotient of so many units, within so many grains

pub div_units : {f : Format} {u w : ℕ} {x y : Float} {a b : ℕ} (S : Scale f u w) (j : ℕ) → 0 < b
    → Fraction false x a u → Fraction false y b u → j ≤ 6 → a * u ≤ 2 ^ (54 + j) * w * b
    → Step u w false (div f x y) (a * u) b j
div_units {f} {u} {a = a} {b} S j B X Y k l =
    let U = unit_pos S in
    step S (a * u) b j (div_rounded f U B U X Y) (mul-pos B U) B k (simp (mul_assoc, mul_comm, mul_left_comm)) l

-- ---- -0 divided is -0

pub minus_zero_over : {y : Float} {b : ℕ} → 0 < b → Fraction false y b unit → div binary64 minus_zero_lem y
    ≡ minus_zero_lem
unfolding of_bits fits
minus_zero_over {y} {b} B Y =
    whole_unique binary64 (div binary64 minus_zero_lem y) minus_zero_lem true 0 (div-fits binary64 minus_zero_lem y) tt
    (rw e rounded) (refl, refl)
  where
    D : 0 < b * 1
    D = mul-pos B (lit< tt)

    e : div binary64 minus_zero_lem y ≡ round binary64 true (0 * unit) (b * 1)
    e = div_is binary64 minus_zero_lem y true false 0 1 b unit (lit< tt) B (lit< tt) (refl, refl) (value_of Y)

    none : (g d : ℕ) → 0 < d → g * d ≤ 0 → g ≡ 0
    none g d P l = le-zero (le_of_mul-le-mul_right (rw (zero-mul d) l) P)

    rounded : HasValue (round binary64 true (0 * unit) (b * 1)) true 0 1
    rounded =
        let N = round_near binary64 true (0 * unit) (b * 1) 0 D (lit< tt) (rw (zero-mul unit) zero-le) in
        let z : N.units ≡ 0 = none N.units (b * 1) D N.double in
        same_fraction (round binary64 true (0 * unit) (b * 1)) true N.units unit 0 1 (lit< tt) (rw z refl) N.value
