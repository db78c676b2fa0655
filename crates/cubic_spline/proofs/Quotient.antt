-- The weight's shape at the rounded quotient r / h against the exact weight at the exact one, for all radii: within
-- 9 × 2 ^ -53. Up to 1 the quotient is rounded by 2 ^ -54 at most, and Lipschitz doubles that; beyond, both are 0.
-- Assumes nothing.
use mathlib.Core.Path.{◌≡◌, refl, sym, ap, ◌∙◌}
use Prim.Native.Nat.{ℕ, ◌*◌, ◌/◌, ◌^◌, ◌≤◌, ◌<◌, zero-le}
use native.Mathlib.Nat.{le_of_lt, mul_comm, mul-one, one-mul, mul-pos, mul-le-mul_left, mul-le-mul_right, zero-mul}
use native.Mathlib.Decide.{dec_le}
use native.Mathlib.Omega.{arith}
use mathlib.Core.Bool.{true, false}
use lib.Dec.{T, lit≤, lit<}
use lib.Ieee.{Float, nan, inf, fin, binary64, round, add, sub, mul, le, of_bits}
use lib.Ieee.Bits.{is_true}
use lib.Ieee.Order.{round_mono}
use lib.Ieee.Scale.{finite, round_under}
use borrow.Author.Tests.{leb-true}
use Rattle.math.specs.Real.{◌⊘◌, one}
use Rattle.rounding.specs.Exact.{unit, count, Near}
use Rattle.rounding.proofs.Near.{near_weak, near_times, near_cancel}
use Rattle.rounding.proofs.Fractions.{Fraction, fraction, value_of, le_is, one_fraction}
use Rattle.rounding.proofs.Counts.{minus_zero_lem, fraction_count, number}
use Rattle.rounding.proofs.Steps.{Step}
use Rattle.rounding.proofs.Quotients.{div_is, div_units, minus_zero_over}
use Rattle.cubic_spline.specs.Shape.{weight_shape}
use Rattle.cubic_spline.specs.Exact.{exact_weight}
use Rattle.cubic_spline.specs.Apply.{cube}
use Rattle.cubic_spline.proofs.Rows.{weight-minus_zero}
use Rattle.cubic_spline.proofs.Exact.{beyond_weight_whole}
use Rattle.cubic_spline.proofs.Lipschitz.{weight_near}
use Rattle.cubic_spline.proofs.Bounds.{grain, scale, Weighed, zero-weighed, weight_at}

-- x is a weight shape, within 9 × 2 ^ -53 of the exact one at a / b
pub record ShapeAt (a b : ℕ) (x : Float) : Type 0 where
  pub is : Fraction false x (count x) unit
  pub most : count x ≤ unit
  pub near : Near (count x * cube b * 2 ^ 53) (exact_weight b a * unit * 2 ^ 53) (9 * (unit * cube b))

-- ---- a shape near v / u ^ 3, which is near the exact one

-- the errors, where u units make 1 and w a grain
both_errors : (u w x v b e : ℕ) → 0 < u → u ≡ 2 ^ 57 * w → Near (x * (u * u) * 2 ^ 50) (v * 2 ^ 50) (u * (u * u))
    → Near (v * cube b) (e * (u * u * u)) (2 * (2 ^ 3 * (w * b) * (u * b * (u * b))))
    → Near (x * cube b * 2 ^ 53) (e * u * 2 ^ 53) (9 * (u * cube b))
both_errors u w x v b e U F S E =
    let S' = near_times (u * (u * u)) (cube b) S in
    let k : u * (u * u * cube b) ≡ 2 ^ 57 * w * (u * u * cube b) = ap (λ z. z * (u * u * cube b)) F in
    near_cancel (x * cube b * 2 ^ 53) (e * u * 2 ^ 53) (9 * (u * cube b)) (u * u) (mul-pos U U) (omega arith)

shape_at : {x : Float} (a b v : ℕ) → Weighed v x
    → Near (v * cube b) (exact_weight b a * (unit * unit * unit)) (2 * (2 ^ 3 * (grain * b) * (unit * b * (unit * b))))
    → ShapeAt a b x
shape_at {x} a b v W E =
    let S = near_times (unit * (unit * unit) / 2 ^ 50) (2 ^ 50) W.near.within.near in
    let S' = near_weak (unit * (unit * unit) / 2 ^ 50 * 2 ^ 50) (unit * (unit * unit)) (lit≤ tt) S in
    record {
      is = W.is;
      most = W.near.most;
      near = both_errors unit grain (count x) v b (exact_weight b a) (lit< tt) scale.grains S' E;
    }

-- ---- at most 1

at_quotient : (q : Float) (a b : ℕ) → Weighed (exact_weight unit (count q)) (weight_shape q)
    → Near (count q * b) (a * unit) (2 ^ 3 * (grain * b)) → ShapeAt a b (weight_shape q)
at_quotient q a b W N = shape_at a b (exact_weight unit (count q)) W (weight_near unit b (count q) a _ N)

up_to_one : {r h : Float} {a b : ℕ} → Fraction false r a unit → Fraction false h b unit → 0 < b → a ≤ b
    → ShapeAt a b (weight_shape (r ⊘ h))
up_to_one {r} {h} {a} {b} R H B l = go (div_units scale 3 B R H (lit≤ tt) (rw (← scale.grains) top))
  where
    top : a * unit ≤ unit * b
    top = rw (mul_comm a unit) (mul-le-mul_left unit l)

    go : Step unit grain false (r ⊘ h) (a * unit) b 3 → ShapeAt a b (weight_shape (r ⊘ h))
    go T =
        let e = fraction_count T.is in
        at_quotient (r ⊘ h) a b (weight_at (rw e T.is)) (rw e T.near)

-- ---- beyond 1

-- the exact weight is 0 there, and a shape near 0 is near it
beyond : {x : Float} (a b : ℕ) → b < a → Weighed 0 x → ShapeAt a b x
beyond a b l W =
    shape_at a b 0 W
    (rw (beyond_weight_whole b a (le_of_lt l), zero-mul (cube b), zero-mul (unit * unit * unit)) (zero-le, zero-le))

weighed_beyond : (q : Float) → T (le one q) → (T (finite q) → Fraction false q (count q) unit)
    → Weighed 0 (weight_shape q)
unfolding weight_shape le of_bits
weighed_beyond nan l Q = absurd l
weighed_beyond (inf true) l Q = absurd l
weighed_beyond (inf false) l Q = zero-weighed
weighed_beyond (fin s m e) l Q = past (fin s m e) l (Q tt)
  where
    past : (q : Float) → T (le one q) → Fraction false q (count q) unit → Weighed 0 (weight_shape q)
    past q l Q =
        let t = le_is one q 1 1 (count q) unit (lit< tt) (lit< tt) (value_of one_fraction) (value_of Q) in
        let k : 1 * unit ≤ count q * 1 = leb-true _ _ (sym t ∙ is_true _ l) in
        rw (beyond_weight_whole unit (count q) (rw (one-mul unit, mul-one (count q)) at k)) at (weight_at Q)

-- one, as a rounded fraction
one_rounded : round binary64 false 1 1 ≡ one
unfolding round of_bits
one_rounded = refl

beyond_one : {r h : Float} {a b : ℕ} → Fraction false r a unit → Fraction false h b unit → 0 < b → b < a
    → ShapeAt a b (weight_shape (r ⊘ h))
beyond_one {r} {h} {a} {b} R H B l = beyond a b l (weighed_beyond (r ⊘ h) (rw e least) (rw e whole))
  where
    D : 0 < b * unit
    D = mul-pos B (lit< tt)

    e : r ⊘ h ≡ round binary64 false (a * unit) (b * unit)
    e = div_is binary64 r h false false a unit b unit (lit< tt) B (lit< tt) (value_of R) (value_of H)

    whole : T (finite (round binary64 false (a * unit) (b * unit)))
        → Fraction false (round binary64 false (a * unit) (b * unit))
        (count (round binary64 false (a * unit) (b * unit))) unit
    whole f = (number (a * unit) (b * unit) (round_under binary64 (a * unit) (b * unit) f)).is

    least : T (le one (round binary64 false (a * unit) (b * unit)))
    least =
        rw one_rounded at
        (round_mono binary64 1 1 (a * unit) (b * unit) (lit< tt) D
        (rw (one-mul (b * unit), mul-one (a * unit)) (mul-le-mul_right unit (le_of_lt l))))

-- ---- every quotient

pub quotient-shape : {r h : Float} {a b : ℕ} → Fraction false r a unit → Fraction false h b unit → 0 < b
    → ShapeAt a b (weight_shape (r ⊘ h))
quotient-shape {a = a} {b} R H B =
    elim (dec_le a b) [ yes l ↦ up_to_one R H B l | no l ↦ beyond_one R H B (omega arith) ]

pub minus_zero-shape : {h : Float} {b : ℕ} → Fraction false h b unit → 0 < b
    → ShapeAt 0 b (weight_shape (minus_zero_lem ⊘ h))
unfolding weight_shape add sub mul le of_bits
minus_zero-shape {h} {b} H B =
    rw (minus_zero_over B H)
    (at_quotient minus_zero_lem 0 b (record { near = weight-minus_zero; is = fraction (refl, refl) })
    (rw (zero-mul b, zero-mul unit) (zero-le, zero-le)))
