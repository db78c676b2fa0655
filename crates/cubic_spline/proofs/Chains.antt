-- The four formulas of the shapes: each is so many units, within so many grains of the exact formula. Each operation is
-- a step (rounding's Steps), whose bound gives the next one's, and Errors adds the errors up. Assumes nothing.
use mathlib.Core.Path.{◌≡◌, refl, sym}
use Prim.Native.Nat.{ℕ, ◌-◌, ◌*◌, ◌^◌, ◌≤◌}
use native.Mathlib.Nat.{le_trans, le_of_eq, le_of_mul-le-mul_right, mul-one, one-mul}
use native.Mathlib.Omega.{arith}
use mathlib.Core.Bool.{Bool, true, false}
use lib.Dec.{lit≤, lit<}
use lib.Ieee.{Float, binary64, of_bits}
use Rattle.math.specs.Real.{◌⊖◌, ◌⊗◌, one}
use Rattle.rounding.specs.Exact.{Near}
use Rattle.rounding.proofs.Fractions.{Fraction, fraction, rescaled, negated, one_fraction}
use Rattle.rounding.proofs.Steps.{Scale, Step, Within, near_whole, unit_pos, top_of, mul_units, mul-number, add_units}
use Rattle.rounding.proofs.Steps.{sub_units, sub_units_under}
use Rattle.cubic_spline.specs.Shape.{two, three, six, near_weight, far_weight, near_slope, far_slope}
use Rattle.cubic_spline.proofs.Errors.{half-times, half_top, drop_error, drop_top, near_weight_error}
use Rattle.cubic_spline.proofs.Errors.{square_error, far_weight_error, far_slope_error, near_slope_error}

two_fraction : Fraction false two 2 1
unfolding of_bits
two_fraction = fraction (refl, refl)

three_fraction : Fraction false three 3 1
unfolding of_bits
three_fraction = fraction (refl, refl)

six_fraction : Fraction false six 6 1
unfolding of_bits
six_fraction = fraction (refl, refl)

module _ {u w : ℕ} (S : Scale binary64 u w) where
  in_units : {x : Float} {a : ℕ} → Fraction false x a 1 → Fraction false x (a * u) u
  in_units {a = a} X = rescaled (lit< tt) (sym (mul-one (a * u))) X

  one_in_units : Fraction false one u u
  one_in_units = rw (one-mul u) at (in_units one_fraction)

  module _ {q : Float} {n : ℕ} (Q : Fraction false q n u) where
    -- ---- up to 1 / 2

    -- (q2 × q) - q2, which is not above 0
    drop : n * 2 ≤ u → Within u w true (q ⊗ q ⊗ q ⊖ q ⊗ q) (n * n * u - n * n * n) (u * u) 6 1
    drop N =
        let A = mul_units S 1 Q Q (lit≤ tt) (half_top n n u w (2 ^ 55) N (quarter S.grains)) in
        let a = A.count in
        let B = mul_units S 0 A.is Q (lit≤ tt) (half_top a n u w (2 ^ 54) N A.top) in
        let b = B.count in
        let l : b ≤ a = le_of_mul-le-mul_right (le_trans B.double (half-times a n u N)) (unit_pos S) in
        let D = sub_units_under S 1 B.is A.is l (lit≤ tt) (under a b A.top) in
        let near = drop_error u w n a b D.count N A.near B.near (near_whole D) in
        record { count = D.count; is = D.is; top = top_of S 1 (lit≤ tt) D; near = near }
      where
        quarter : u ≡ 2 ^ 57 * w → n ≤ 2 ^ 56 * w
        quarter h = omega arith

        under : (a b : ℕ) → a ≤ 2 ^ 55 * w → a - b ≤ 2 ^ 55 * w
        under a b h = omega arith

    pub near_weight_lem : n * 2 ≤ u
        → Within u w false (near_weight q) (u * u * u - 6 * (n * n * u - n * n * n)) (u * u) 52 1
    near_weight_lem N = go (drop N)
      where
        less : (p : ℕ) → u ≡ 2 ^ 57 * w → u - p ≤ 2 ^ 57 * w
        less p h = omega arith

        go : Within u w true (q ⊗ q ⊗ q ⊖ q ⊗ q) (n * n * u - n * n * n) (u * u) 6 1
            → Within u w false (near_weight q) (u * u * u - 6 * (n * n * u - n * n * n)) (u * u) 52 1
        go D =
            let d = D.count in
            let top = drop_top u w n d S.grains (unit_pos S) N D.near in
            let P = mul-number S 3 D.is six_fraction (lit≤ tt) (le_trans top (le_of_eq S.grains)) in
            let p = P.count in
            let under = le_trans P.top (le_of_eq (sym S.grains)) in
            let R = add_units S 3 one_in_units P.is under (lit≤ tt) (less p S.grains) in
            let near = near_weight_error u w n d p R.count D.near (near_whole P) (near_whole R) in
            record { count = R.count; is = R.is; top = top_of S 1 (lit≤ tt) R; near = near }

    pub near_slope_lem : n * 2 ≤ u → Within u w true (near_slope q) (6 * ((2 * u - 3 * n) * n)) u 208 8
    near_slope_lem N =
        let A = mul-number S 4 Q three_fraction (lit≤ tt) (thrice S.grains) in
        let a = A.count in
        let l = under a S.grains (near_whole A) in
        let B = sub_units_under S 4 A.is (in_units two_fraction) l (lit≤ tt) (less a S.grains) in
        let s = B.count in
        let T = mul_units S 3 B.is Q (lit≤ tt) (half_top s n u w (2 ^ 57) N B.top) in
        let t = T.count in
        let R = mul-number S 6 T.is six_fraction (lit≤ tt) (six-times t T.top) in
        let near = near_slope_error u w n a s t R.count N (near_whole A) (near_whole B) T.near (near_whole R) in
        record { count = R.count; is = R.is; top = top_of S 8 (lit≤ tt) R; near = near }
      where
        thrice : u ≡ 2 ^ 57 * w → n * 3 ≤ 2 ^ 58 * w
        thrice h = omega arith

        under : (a : ℕ) → u ≡ 2 ^ 57 * w → Near a (n * 3) (16 * w) → a ≤ 2 * u
        under a h k = omega arith

        less : (a : ℕ) → u ≡ 2 ^ 57 * w → 2 * u - a ≤ 2 ^ 58 * w
        less a h = omega arith

        six-times : (t : ℕ) → t ≤ 2 ^ 57 * w → t * 6 ≤ 2 ^ 60 * w
        six-times t h = omega arith

    -- ---- from 1 / 2 to 1, with t = 1 - q

    rest : n ≤ u → (u - n) * 2 ≤ u → Step u w false (one ⊖ q) (u - n) 1 2
    rest L K = sub_units S 2 one_in_units Q L (lit≤ tt) (under S.grains)
      where
        under : u ≡ 2 ^ 57 * w → u - n ≤ 2 ^ 56 * w
        under h = omega arith

    half_rest : (T : Step u w false (one ⊖ q) (u - n) 1 2) → T.count * 2 ≤ u
    half_rest T = go T.count S.grains T.top
      where
        go : (t : ℕ) → u ≡ 2 ^ 57 * w → t ≤ 2 ^ 56 * w → t * 2 ≤ u
        go t h k = omega arith

    -- t × t, and (-t) × t
    square : {m : Bool} {x : Float} (T : Step u w false (one ⊖ q) (u - n) 1 2) → Fraction m x T.count u
        → Step u w m (x ⊗ (one ⊖ q)) (T.count * T.count) u 1
    square T X =
        let t = T.count in
        mul_units S 1 X T.is (lit≤ tt) (half_top t t u w (2 ^ 55) (half_rest T) T.top)

    near_square : {m : Bool} {x : Float} (T : Step u w false (one ⊖ q) (u - n) 1 2) → (u - n) * 2 ≤ u
        → (A : Step u w m x (T.count * T.count) u 1) → Near (A.count * u) ((u - n) * (u - n)) (6 * (w * u))
    near_square T K A = square_error u w (u - n) T.count A.count K (half_rest T) (near_whole T) A.near

    pub far_weight_lem : n ≤ u → (u - n) * 2 ≤ u
        → Within u w false (far_weight (one ⊖ q)) (2 * ((u - n) * (u - n) * (u - n))) (u * u) 12 1
    far_weight_lem L K =
        let T = rest L K in
        let t = T.count in
        let A = square T T.is in
        let s = A.count in
        let C = mul_units S 0 A.is T.is (lit≤ tt) (half_top s t u w (2 ^ 54) (half_rest T) A.top) in
        let c = C.count in
        let R = mul-number S 1 C.is two_fraction (lit≤ tt) (twice c C.top) in
        let T2 = near_square T K A in
        let H = half_rest T in
        let near = far_weight_error u w (u - n) t s c R.count K H (near_whole T) T2 C.near (near_whole R) in
        record { count = R.count; is = R.is; top = top_of S 1 (lit≤ tt) R; near = near }
      where
        twice : (c : ℕ) → c ≤ 2 ^ 54 * w → c * 2 ≤ 2 ^ 55 * w
        twice c h = omega arith

    pub far_slope_lem : n ≤ u → (u - n) * 2 ≤ u → Within u w true (far_slope (one ⊖ q)) (6 * ((u - n) * (u - n))) u 52 2
    far_slope_lem L K =
        let T = rest L K in
        let A = square T (negated T.is) in
        let s = A.count in
        let R = mul-number S 4 A.is six_fraction (lit≤ tt) (six-times s A.top) in
        let near = far_slope_error u w (u - n) s R.count (near_square T K A) (near_whole R) in
        record { count = R.count; is = R.is; top = top_of S 2 (lit≤ tt) R; near = near }
      where
        six-times : (s : ℕ) → s ≤ 2 ^ 55 * w → s * 6 ≤ 2 ^ 58 * w
        six-times s h = omega arith
