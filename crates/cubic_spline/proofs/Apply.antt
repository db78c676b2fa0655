-- How near `scalar_apply`'s value is to normalizer × exact weight: Quotient bounds the shape's error, and the product
-- is rounded once more, by 2 ^ -53 of the normalizer at most where that is normal. Assumes nothing.
use mathlib.Core.Path.{◌≡◌, refl, sym, ◌∙◌}
use mathlib.Core.Logic.{◌⊎◌, ⊎_elim}
use Prim.Native.Nat.{ℕ, ◌-◌, ◌*◌, ◌^◌, ◌≤◌, ◌<◌}
use native.Mathlib.Nat.{mul-one, mul-pos, le_of_mul-le-mul_right}
use native.Mathlib.Omega.{arith}
use mathlib.Core.Bool.{true, false}
use lib.Dec.{T, lit<}
use lib.Ieee.{Float, nan, inf, fin, binary64, le, lt, fits, of_bits}
use lib.Ieee.Bits.{is_true}
use lib.Ieee.Fits.{and_l, and_r}
use lib.Ieee.Scale.{finite}
use borrow.Author.Tests.{leb-true, leb-false, not-true}
use Rattle.math.specs.Real.{◌⊗◌, ◌⊘◌, +0}
use Rattle.rounding.specs.Exact.{unit, count, Near}
use Rattle.math.proofs.Doubles.{holds}
use Rattle.rounding.proofs.Near.{near_times, near_cancel}
use Rattle.rounding.proofs.Fractions.{Fraction, fraction, value_of, le_is, lt_is, zero_fraction}
use Rattle.rounding.proofs.Counts.{minus_zero_lem, minus_zero_or_fraction, count_value, fraction_finite}
use Rattle.rounding.proofs.Counts.{fraction_count, at_least_zero}
use Rattle.rounding.proofs.Steps.{Part, zero_part, normal_part}
use Rattle.cubic_spline.specs.Normalizer.{normalizer}
use Rattle.cubic_spline.specs.Shape.{weight_shape, weight, is_distance, is_radius}
use Rattle.cubic_spline.specs.Exact.{exact_weight}
use Rattle.cubic_spline.specs.Answer.{kernel_answer, KernelPromise}
use Rattle.cubic_spline.specs.Apply.{least_radius, cube, AppliedNear, ApplyPromise}
use Rattle.cubic_spline.specs.declared.Dimension.{Dimension}
use Rattle.cubic_spline.specs.declared.Dimension.TheVariants.{Two, Three}
use Rattle.std.specs.declared.result.Result.{Result}
use Rattle.cubic_spline.specs.declared.KernelRefusal.{KernelRefusal}
use Rattle.std.specs.declared.result.Result.TheVariants.{Ok}
use Rattle.cubic_spline.proofs.Bounds.{scale}
use Rattle.cubic_spline.proofs.Quotient.{ShapeAt, quotient-shape, minus_zero-shape}
use Rattle.cubic_spline.proofs.Normal.{Normal, reach, normalizer_normal, normalizer_finite}

-- ---- the product's errors, where u units make 1: n is the normalizer, x the shape, v what is rounded of their product

both_errors : (u n x v b e : ℕ) → 0 < u → Near (v * u * 2 ^ 53) (n * x * 2 ^ 53) (n * u)
    → Near (x * cube b * 2 ^ 53) (e * u * 2 ^ 53) (9 * (u * cube b))
    → Near (v * cube b * 2 ^ 52) (n * e * 2 ^ 52) (5 * (n * cube b))
both_errors u n x v b e U P S =
    let P' = near_times (n * u) (cube b) P in
    let S' = near_times (9 * (u * cube b)) n S in
    near_cancel (v * cube b * 2 ^ 52) (n * e * 2 ^ 52) (5 * (n * cube b)) (u * 2) (mul-pos U (lit< tt)) (omega arith)

module _ (d : Dimension) (r h q : Float) (S : ShapeAt (count r) (count h) (weight_shape q)) where
  of_part : Part unit (normalizer d h ⊗ weight_shape q) (count (normalizer d h)) (count (weight_shape q))
      → AppliedNear d r h (normalizer d h ⊗ weight_shape q)
  of_part P =
      let n = count (normalizer d h) in
      let x = count (weight_shape q) in
      let e = exact_weight (count h) (count r) in
      let near = both_errors unit n x P.count (count h) e (lit< tt) P.near S.near in
      record {
        is_finite = fraction_finite P.is;
        sign = at_least_zero (lit< tt) P.is;
        near = rw (fraction_count P.is) near;
      }

  product_near : (normalizer d h ≡ +0) ⊎ Normal (normalizer d h) → AppliedNear d r h (normalizer d h ⊗ weight_shape q)
  unfolding of_bits
  product_near =
      ⊎_elim
      (λ e. of_part (rw e (zero_part scale (fraction (refl, refl)) S.is)))
      (λ N. of_part (normal_part scale N.held N.normal S.most N.is S.is))

-- ---- every distance, and every radius with a finite normalizer

weight_near : {h : Float} (d : Dimension) → Fraction false h (count h) unit → 0 < count h → T (finite (normalizer d h))
    → (r : Float) → T (fits binary64 r) → T (finite r) → T (le +0 r) → AppliedNear d r h (weight d r h)
weight_near {h} d H B f =
    let N = normalizer_normal d H B f in
    minus_zero_or_fraction (λ r. AppliedNear d r h (weight d r h))
    (product_near d minus_zero_lem h (minus_zero_lem ⊘ h) (minus_zero-shape H B) N)
    (λ r R. product_near d r h (r ⊘ h) (quotient-shape R H B) N)

-- ---- what `scalar_apply` promises

taken_answer : (r h x : Float) → is_distance r ≡ true → is_radius h ≡ true → kernel_answer r h x ≡ Ok x
unfolding kernel_answer
taken_answer r h x e f = rw (e, f)

above_zero : (h : Float) → Fraction false h (count h) unit → T (lt +0 h) → 0 < count h
above_zero h H l =
    let Z = value_of zero_fraction in
    let below = lt_is +0 h 0 1 (count h) unit Z (value_of H) in
    let test = le_is h +0 (count h) unit 0 1 (lit< tt) (lit< tt) (value_of H) Z in
    let none = not-true (le h +0) (sym below ∙ is_true (lt +0 h) l) in
    rw (mul-one (count h)) at (leb-false (count h * 1) (0 * unit) (sym test ∙ none))

-- a radius is a fraction above 0
radius : (h : Float) → T (fits binary64 h) → T (is_radius h) → Fraction false h (count h) unit × (0 < count h)
unfolding of_bits lt
radius nan t R = absurd R
radius (inf true) t R = absurd R
radius (inf false) t R = absurd R
radius (fin true m e) t R = absurd R
radius (fin false m e) t R =
    let H = fraction (count_value false m e t) in
    (H, above_zero (fin false m e) H (and_l (lt +0 (fin false m e)) true R))

least_radius_fraction : (d : Dimension) → Fraction false (least_radius d) (2 ^ (1074 - reach d)) unit
unfolding of_bits
least_radius_fraction Two = fraction (refl, refl)
least_radius_fraction Three = fraction (refl, refl)

from_least : (d : Dimension) (h : Float) → Fraction false h (count h) unit → T (le (least_radius d) h)
    → 2 ^ (1074 - reach d) ≤ count h
from_least d h H l =
    let k = 2 ^ (1074 - reach d) in
    let L = value_of (least_radius_fraction d) in
    let t = le_is (least_radius d) h k unit (count h) unit (lit< tt) (lit< tt) L (value_of H) in
    le_of_mul-le-mul_right (leb-true (k * unit) (count h * unit) (sym t ∙ is_true (le (least_radius d) h) l)) (lit< tt)

pub apply_promise : (d : Dimension) (r h : Float) (a : Result Float KernelRefusal) → fits binary64 r ≡ true
    → fits binary64 h ≡ true → KernelPromise r h (weight d r h) a → ApplyPromise d r h a
apply_promise d r h a s t K =
    record {
      kernel = K;
      bound = λ q R f.
          let H = radius h (holds _ t) R in
          record {
            value = weight d r h;
            is = K.answer ∙ taken_answer r h (weight d r h) (is_true (is_distance r) q) (is_true (is_radius h) R);
            near =
                weight_near d H.0 H.1 f r (holds _ s) (and_r (le +0 r) (finite r) q)
                (and_l (le +0 r) (finite r) q);
          };
      normalizes = λ R l. let H = radius h (holds _ t) R in normalizer_finite d H.0 H.1 (from_least d h H.0 l);
    }
