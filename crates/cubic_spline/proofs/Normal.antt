-- The normalizer for a radius that is taken is infinite, +0, or normal. The divisor is a rounded product, so infinite
-- or a fraction below 2 ^ 1024; 4 or more divided by that is 2 ^ -1022 or more. How small the product can be is found
-- by induction on the number of axes. Assumes nothing.
use mathlib.Core.Path.{◌≡◌, refl, sym}
use mathlib.Core.Logic.{◌⊎◌, inl, inr, ⊎_elim}
use Prim.Native.Nat.{ℕ, zero, suc, ◌+◌, ◌-◌, ◌*◌, ◌^◌, ◌≤◌, ◌<◌, zero-le}
use native.Mathlib.Nat.{le_trans, le_of_lt, le_refl, lt_irrefl, lt_of_le_of_lt, eq-zero-or-pos, zero-mul, one-mul}
use native.Mathlib.Nat.{mul_assoc, mul-pos, mul-le-mul, mul-le-mul_left, mul-le-mul_right}
use native.Mathlib.Omega.{arith}
use mathlib.Core.Bool.{false}
use lib.IntN.{ℤ}
use lib.Dec.{T, lit≤, lit<}
use lib.Pow.{pow-add, pow_pos, pow_mono}
use lib.Ieee.{Float, inf, binary64, up, down, round, mul, div, of_bits}
use lib.Ieee.Fits.{up_pos}
use lib.Ieee.Exact.{HasValue}
use lib.Ieee.Scale.{grid, overflow, finite, round_under}
use Rattle.math.specs.Real.{◌⊗◌, ◌⊘◌, +0}
use Rattle.rounding.specs.Exact.{unit, count}
use Rattle.rounding.proofs.Fractions.{Fraction, fraction, value_of, at_fraction, at_fractions, mul_is}
use Rattle.rounding.proofs.Relative.{Held, at_least, below_finite, finite_or_infinite}
use Rattle.rounding.proofs.Counts.{number, fraction_finite}
use Rattle.rounding.proofs.Quotients.{significand_pos, not_zero, div_is}
use Rattle.cubic_spline.specs.Normalizer.{pi, axes, numerator, divisor, normalizer}
use Rattle.cubic_spline.specs.declared.Dimension.{Dimension}
use Rattle.cubic_spline.specs.declared.Dimension.TheVariants.{Two, Three}

-- ---- infinite, or a number of the format

power : (j : ℕ) → 2 ^ j < overflow binary64 → Held binary64 (2 ^ j)
power j l = record { digits = 1; place = j; is = sym (one-mul (2 ^ j)); few = lit≤ tt; finite = l }

-- what numbers make when multiplied: an infinity, or a fraction of l units or more
record Finite (l : ℕ) (x : Float) : Type 0 where
  is : Fraction false x (count x) unit
  most : count x < overflow binary64
  least : l ≤ count x

abbrev Product : ℕ → Float → Type 0
Product l x = (x ≡ inf false) ⊎ Finite l x

rounded_product : (l a c : ℕ) → Held binary64 l → 0 < c → l * c ≤ a * unit → Product l (round binary64 false a c)
rounded_product l a c L C h = ⊎_elim (λ g. inr (finite_one g)) (λ e. inl e) (finite_or_infinite binary64 a c)
  where
    finite_one : grid binary64 a c < overflow binary64 → Finite l (round binary64 false a c)
    finite_one g =
        let N = number a c g in
        record { is = N.is; most = N.held.finite; least = rw N.counted (at_least L a c C h g) }

-- ---- the divisor, for a radius of b units that are not fewer than k

module _ {h : Float} {b : ℕ} (H : Fraction false h b unit) (B : 0 < b) (k : ℕ) (K : k ≤ b) where
  infinity_times : inf false ⊗ h ≡ inf false
  unfolding mul
  infinity_times =
      at_fraction (λ y. inf false ⊗ y ≡ inf false) h false b unit (value_of H)
      (λ m e v. rw (not_zero m (significand_pos m e b unit B v)))

  times : (l m : ℕ) → Held binary64 m → m * unit ≤ l * k → (x : Float) → Product l x → Product m (x ⊗ h)
  times l m M o x (inl e) = inl (rw (e, infinity_times))
  times l m M o x (inr X) =
      let n = count x in
      rw (mul_is binary64 x h false false n unit b unit (lit< tt) (lit< tt) (value_of X.is) (value_of H))
      (rounded_product m (n * b) (unit * unit) M (lit< tt)
      (rw (← mul_assoc m unit unit) (mul-le-mul_right unit (le_trans o (mul-le-mul X.least K)))))

  -- multiplied n times by it, pi is not below l n
  divisor_product : (l : ℕ → ℕ) → ((n : ℕ) → Held binary64 (l n)) → l 0 ≤ count pi → (n : ℕ)
      → ((m : ℕ) → m < n → l (suc m) * unit ≤ l m * k) → Product (l n) (divisor n h)
  unfolding of_bits
  divisor_product l L p zero s = inr (record { is = fraction (refl, refl); most = lit< tt; least = p })
  divisor_product l L p (suc n) s =
      times (l n) (l (suc n)) (L (suc n)) (s n (omega arith)) (divisor n h)
      (divisor_product l L p n (λ m o. s m (omega arith)))

-- ---- a number of 4 or more, divided

record Numerator (x : Float) : Type 0 where
  is : Fraction false x (count x) unit
  least : 4 * unit ≤ count x

-- a number of the format, and a normal one
pub record Normal (x : Float) : Type 0 where
  pub is : Fraction false x (count x) unit
  pub held : Held binary64 (count x)
  pub normal : 2 ^ 52 ≤ count x

module _ (x : Float) (X : Numerator x) where
  above_zero : 0 < count x
  above_zero = le_trans (lit≤ tt) X.least

  over_infinity : x ⊘ inf false ≡ +0
  unfolding div of_bits
  over_infinity = at_fraction (λ z. z ⊘ inf false ≡ +0) x false (count x) unit (value_of X.is) (λ m e v. refl)

  over_zero : (y : Float) → HasValue y false 0 unit → x ⊘ y ≡ inf false
  unfolding div
  over_zero y k =
      at_fractions (λ z y. z ⊘ y ≡ inf false) x y false false (count x) unit 0 unit (value_of X.is) k
      (λ m e n i v w. rw (none n i w, not_zero m (significand_pos m e (count x) unit above_zero v)) refl)
    where
      none : (m : ℕ) (e : ℤ) → m * up e * unit ≡ 0 * down e → m ≡ 0
      none m e v =
          elim (eq-zero-or-pos m) [
            | inl z ↦ z
            | inr p ↦
                let l : 0 < m * up e * unit = mul-pos (mul-pos p (up_pos e)) (lit< tt) in
                absurd (lt_irrefl 0 (rw (v, zero-mul (down e)) at l))
          ]

  module _ (y : Float) (Y : Fraction false y (count y) unit) (P : 0 < count y) where
    over_is : x ⊘ y ≡ round binary64 false (count x * unit) (count y * unit)
    over_is =
        div_is binary64 x y false false (count x) unit (count y) unit (lit< tt) P (lit< tt) (value_of X.is)
        (value_of Y)

    above : 0 < count y * unit
    above = mul-pos P (lit< tt)

    over_normal : count y < overflow binary64 → T (finite (x ⊘ y)) → Normal (x ⊘ y)
    over_normal l f =
        let n = count x * unit in
        let d = count y * unit in
        let g = round_under binary64 n d (rw over_is at f) in
        let N = number n d g in
        let under : 2 ^ 52 * count y ≤ 4 * unit * unit = le_trans (mul-le-mul_left (2 ^ 52) (le_of_lt l)) (lit≤ tt) in
        let part : 2 ^ 52 * count y ≤ n = le_trans under (mul-le-mul_right unit X.least) in
        let least : 2 ^ 52 * d ≤ n * unit = rw (← mul_assoc (2 ^ 52) (count y) unit) (mul-le-mul_right unit part) in
        let normal = at_least (power 52 (lit< tt)) n d above least g in
        rw over_is (record { is = N.is; held = N.held; normal = rw N.counted normal })

    -- the quotient is then at most 2 ^ 1023, which is 2 ^ 2097 units
    over_finite : count x * unit ≤ 2 ^ 2097 * count y → T (finite (x ⊘ y))
    over_finite l =
        let n = count x * unit in
        let d = count y * unit in
        let most : n * unit ≤ 2 ^ 2097 * d = rw (← mul_assoc (2 ^ 2097) (count y) unit) (mul-le-mul_right unit l) in
        let g = below_finite (power 2097 (lit< tt)) n d above most in
        rw over_is (fraction_finite (number n d g).is)

  normal_over : (y : Float) → Product 0 y → T (finite (x ⊘ y)) → (x ⊘ y ≡ +0) ⊎ Normal (x ⊘ y)
  normal_over y (inl e) f = inl (rw e over_infinity)
  normal_over y (inr Y) f =
      elim (eq-zero-or-pos (count y)) [
        | inl z ↦ absurd (infinite (over_zero y (rw z at (value_of Y.is))) f)
        | inr P ↦ inr (over_normal y Y.is P Y.most f)
      ]
    where
      infinite : x ⊘ y ≡ inf false → T (finite (x ⊘ y)) → ⊥
      infinite e f = rw e at f

  finite_over : (l : ℕ) (y : Float) → 0 < l → count x * unit ≤ 2 ^ 2097 * l → Product l y → T (finite (x ⊘ y))
  unfolding of_bits
  finite_over l y p o (inl e) = rw (e, over_infinity) tt
  finite_over l y p o (inr Y) =
      over_finite y Y.is (le_trans p Y.least) (le_trans o (mul-le-mul_left (2 ^ 2097) Y.least))

-- ---- the normalizer

numerator_least : (d : Dimension) → Numerator (numerator d)
unfolding div of_bits
numerator_least Two = record { is = fraction (refl, refl); least = lit≤ tt }
numerator_least Three = record { is = fraction (refl, refl); least = lit≤ tt }

zero_held : Held binary64 0
zero_held = record { digits = 0; place = 0; is = refl; few = zero-le; finite = lit< tt }

pub normalizer_normal : {h : Float} {b : ℕ} (d : Dimension) → Fraction false h b unit → 0 < b
    → T (finite (normalizer d h)) → (normalizer d h ≡ +0) ⊎ Normal (normalizer d h)
normalizer_normal {h} d H B f =
    normal_over (numerator d) (numerator_least d) (divisor (axes d) h)
    (divisor_product H B 0 zero-le (λ n. 0) (λ n. zero_held) zero-le (axes d) (λ m o. zero-le)) f

-- ---- it is finite for radii of 2 ^ -reach or more

abbrev pub reach : Dimension → ℕ
reach Two = 511
reach Three = 340

-- 3, which is below pi, multiplied n times by 2 ^ -e, in units of 2 ^ -t
abbrev shrunk : ℕ → ℕ → ℕ → ℕ
shrunk t e n = 3 * 2 ^ (t - n * e)

shrunk_again : (t e n : ℕ) → suc n * e ≤ t → shrunk t e (suc n) * 2 ^ t ≤ shrunk t e n * 2 ^ (t - e)
shrunk_again t e n h =
    let s : t - suc n * e + t ≡ t - n * e + (t - e) = omega arith in
    rw (
      mul_assoc 3 (2 ^ (t - suc n * e)) (2 ^ t),
      mul_assoc 3 (2 ^ (t - n * e)) (2 ^ (t - e)),
      ← pow-add 2 (t - suc n * e) t,
      ← pow-add 2 (t - n * e) (t - e),
      s,
    ) (le_refl _)

triple_held : (j : ℕ) → j ≤ 1074 → Held binary64 (3 * 2 ^ j)
triple_held j l =
    record {
      digits = 3;
      place = j;
      is = refl;
      few = lit≤ tt;
      finite = lt_of_le_of_lt (mul-le-mul_left 3 (pow_mono l)) (lit< tt);
    }

-- the divisor is then infinite, or of so many units or more
least_divisor : Dimension → ℕ
least_divisor d = shrunk 1074 (reach d) (axes d)

most_quotient : (d : Dimension) → count (numerator d) * unit ≤ 2 ^ 2097 * least_divisor d
unfolding least_divisor div of_bits
most_quotient Two = lit≤ tt
most_quotient Three = lit≤ tt

reaches : (d : Dimension) → axes d * reach d ≤ 1074
reaches Two = lit≤ tt
reaches Three = lit≤ tt

pub normalizer_finite : {h : Float} {b : ℕ} (d : Dimension) → Fraction false h b unit → 0 < b
    → 2 ^ (1074 - reach d) ≤ b → T (finite (normalizer d h))
unfolding least_divisor of_bits
normalizer_finite {h} d H B L =
    finite_over (numerator d) (numerator_least d) (least_divisor d) (divisor (axes d) h)
    (mul-pos (lit< tt) (pow_pos (1074 - axes d * reach d))) (most_quotient d)
    (divisor_product H B (2 ^ (1074 - reach d)) L (shrunk 1074 (reach d))
    (λ n. triple_held (1074 - n * reach d) (omega arith)) (rw (zero-mul (reach d)) (lit≤ tt)) (axes d)
    (λ n o. shrunk_again 1074 (reach d) n (le_trans (mul-le-mul_right (reach d) o) (reaches d))))
