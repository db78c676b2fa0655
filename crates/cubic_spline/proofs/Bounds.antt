-- The error bounds of the shapes, for all finite q from 0 on (METHOD 1.5). A shape has the same three pieces on doubles
-- as on fractions, and Chains bounds each; up to 1e-5 the exact slope falls; Rows has -0 and 1e-5. Assumes nothing.
use mathlib.Core.Path.{◌≡◌, refl, sym, ◌∙◌}
use Prim.Native.Nat.{ℕ, ◌+◌, ◌-◌, ◌*◌, ◌/◌, ◌^◌, ◌≤◌, ◌<◌, zero-le}
use native.Mathlib.Nat.{le_trans, add-sub_of_le, zero-mul, mul-one, one-mul, mul-le-mul_right, le_of_mul-le-mul_right}
use native.Mathlib.Omega.{arith}
use mathlib.Core.Bool.{Bool, true, false, not, ◌||◌, cond}
use lib.Dec.{T, leb, lit≤, lit<}
use lib.Ieee.{Float, binary64, fits, of_bits, le, lt}
use lib.Ieee.Bits.{is_true}
use lib.Ieee.Scale.{finite}
use borrow.Author.Tests.{leb-true, leb-false, not-true}
use Rattle.math.specs.Real.{◌⊖◌, +0, half, one}
use Rattle.rounding.specs.Exact.{unit, count}
use Rattle.math.proofs.Doubles.{holds}
use Rattle.rounding.proofs.Near.{near_weak}
use Rattle.rounding.proofs.Fractions.{Fraction, fraction, value_of, le_is, lt_is, half_fraction, one_fraction}
use Rattle.rounding.proofs.Counts.{fraction_finite, fraction_count, at_least_zero, at_most_zero}
use Rattle.rounding.proofs.Counts.{minus_zero_or_fraction}
use Rattle.rounding.proofs.Steps.{Scale, Within}
use Rattle.cubic_spline.specs.Shape.{epsilon, near_weight, far_weight, weight_shape, near_slope, far_slope, slope_shape}
use Rattle.cubic_spline.specs.Exact.{pieces, exact_weight, monaghan_fall}
use Rattle.cubic_spline.specs.Bound.{ShapeWithin, WeightWithin, WeightNear, WeightPromise}
use Rattle.cubic_spline.specs.Bound.{SlopeWithin, SlopeNear, SlopeFlat, SlopeBound, SlopePromise}
use Rattle.cubic_spline.proofs.Rows.{weight-minus_zero, slope-minus_zero, slope_least}
use Rattle.cubic_spline.proofs.Exact.{near_fall_whole}
use Rattle.cubic_spline.proofs.Chains.{near_weight_lem, far_weight_lem, near_slope_lem, far_slope_lem}

-- ---- the three pieces

-- what holds piece by piece holds of two values with the same pieces
by_pieces : {A B : Type 0} (P : A → B → Type 0) (u n : ℕ) {a b c : A} {a' b' c' : B} → (n * 2 ≤ u → P a a')
    → (u < n * 2 → n ≤ u → P b b') → P c c' → P (pieces u n a b c) (pieces u n a' b' c')
unfolding pieces
by_pieces P u n {a} {b} {c} {a'} {b'} {c'} near far beyond = go (leb (n * 2) u) (leb n u) refl refl
  where
    go : (s t : Bool) → leb (n * 2) u ≡ s → leb n u ≡ t → P (cond s a (cond t b c)) (cond s a' (cond t b' c'))
    go true t e f = near (leb-true (n * 2) u e)
    go false true e f = far (leb-false (n * 2) u e) (leb-true n u f)
    go false false e f = beyond

-- the slope tests for the third piece first
beyond_first : {A : Type 0} (u n : ℕ) (a b c : A)
    → cond (not (leb n u) || false) c (cond (leb (n * 2) u) a b) ≡ pieces u n a b c
unfolding pieces
beyond_first u n a b c = go (leb (n * 2) u) (leb n u) refl refl
  where
    clash : n * 2 ≤ u → u < n → ⊥
    clash h k = omega arith

    go : (s t : Bool) → leb (n * 2) u ≡ s → leb n u ≡ t → cond (not t || false) c (cond s a b) ≡ cond s a (cond t b c)
    go s true e f = refl
    go false false e f = refl
    go true false e f = absurd (clash (leb-true (n * 2) u e) (leb-false n u f))

past_half : (u n : ℕ) → u < n * 2 → (u - n) * 2 ≤ u
past_half u n h = omega arith

-- ---- the shapes by their pieces, at q = n / unit

epsilon_fraction : Fraction false epsilon (count epsilon) unit
unfolding of_bits
epsilon_fraction = fraction (refl, refl)

module _ {q : Float} {n : ℕ} (Q : Fraction false q n unit) where
  half_test : le q half ≡ leb (n * 2) unit
  half_test = le_is q half n unit 1 2 (lit< tt) (lit< tt) (value_of Q) (value_of half_fraction)

  one_test : le q one ≡ leb n unit
  one_test = rw (mul-one n) at (le_is q one n unit 1 1 (lit< tt) (lit< tt) (value_of Q) (value_of one_fraction))

  under_epsilon : le q epsilon ≡ true → n ≤ count epsilon
  under_epsilon e =
      let E = value_of epsilon_fraction in
      let t = le_is q epsilon n unit (count epsilon) unit (lit< tt) (lit< tt) (value_of Q) E in
      le_of_mul-le-mul_right (leb-true (n * unit) (count epsilon * unit) (sym t ∙ e)) (lit< tt)

  past_epsilon : T (lt epsilon q) → le q epsilon ≡ false
  past_epsilon a =
      let t = lt_is epsilon q (count epsilon) unit n unit (value_of epsilon_fraction) (value_of Q) in
      not-true (le q epsilon) (sym t ∙ is_true (lt epsilon q) a)

  weight-pieces : weight_shape q ≡ pieces unit n (near_weight q) (far_weight (one ⊖ q)) +0
  unfolding weight_shape pieces
  weight-pieces = rw (half_test, one_test)

  slope-pieces : le q epsilon ≡ false → slope_shape q ≡ pieces unit n (near_slope q) (far_slope (one ⊖ q)) +0
  unfolding slope_shape
  slope-pieces e =
      rw (lt_is one q 1 1 n unit (value_of one_fraction) (value_of Q), half_test, one_test, e)
      (beyond_first unit n (near_slope q) (far_slope (one ⊖ q)) +0)

slope_up_to_epsilon : (q : Float) → le q epsilon ≡ true → slope_shape q ≡ +0
unfolding slope_shape
slope_up_to_epsilon q e = rw e (go (lt one q))
  where
    go : (t : Bool) → cond (t || true) +0 (cond (le q half) (near_slope q) (far_slope (one ⊖ q))) ≡ +0
    go true = refl
    go false = refl

-- ---- so many grains are at most 2 ^ -b

pub grain : ℕ
grain = 2 ^ 1017

pub scale : Scale binary64 unit grain
unfolding grain
scale = record { exponent = 1017; unit_is = refl; grain_is = refl; grains = refl; digits = refl; room = lit< tt }

found : {m : Bool} {x : Float} {v c k t : ℕ} (b : ℕ) → k * (grain * c) ≤ unit * c / 2 ^ b
    → Within unit grain m x v c k t → ShapeWithin m v c b x
found {m} {x} {v} {c} {k} b l W =
    record {
      is_finite = fraction_finite W.is;
      sign = side m W.is;
      near = near_weak (k * (grain * c)) (unit * c / 2 ^ b) l (rw (fraction_count W.is) W.near);
    }
  where
    side : (m : Bool) → Fraction m x W.count unit → T (cond m (le x +0) (le +0 x))
    side false X = at_least_zero (lit< tt) X
    side true X = at_most_zero (lit< tt) X

zero_found : (m : Bool) (c b : ℕ) → ShapeWithin m 0 c b +0
unfolding of_bits le
zero_found m c b = record { is_finite = tt; sign = side m; near = rw (zero-mul c) (zero-le, zero-le) }
  where
    side : (m : Bool) → T (cond m (le +0 +0) (le +0 +0))
    side false = tt
    side true = tt

-- ---- the weight

-- so near to v / unit ^ 3, and the fraction of its count, which -0 is not
pub record Weighed (v : ℕ) (x : Float) : Type 0 where
  pub near : WeightWithin v x
  pub is : Fraction false x (count x) unit

own_count : {x : Float} {v c k : ℕ} → Within unit grain false x v c k 1 → Fraction false x (count x) unit
own_count W = rw (fraction_count W.is) W.is

at_most_one : {x : Float} {v c k : ℕ} → Within unit grain false x v c k 1 → count x ≤ unit
at_most_one W = rw (fraction_count W.is) (rw (one-mul unit) at W.top)

pub zero-weighed : Weighed 0 +0
unfolding of_bits
zero-weighed = record { near = record { within = zero_found false _ _; most = zero-le }; is = fraction (refl, refl) }

pub weight_at : {q : Float} → Fraction false q (count q) unit → Weighed (exact_weight unit (count q)) (weight_shape q)
unfolding exact_weight grain
weight_at {q} Q =
    rw (weight-pieces Q)
    (by_pieces (λ x v. Weighed v x) unit (count q)
    (λ h.
    let W = near_weight_lem scale Q h in
    record { near = record { within = found _ (lit≤ tt) W; most = at_most_one W }; is = own_count W })
    (λ h l.
    let W = far_weight_lem scale Q l (past_half unit (count q) h) in
    record { near = record { within = found _ (lit≤ tt) W; most = at_most_one W }; is = own_count W })
    zero-weighed)

weight_bound : (q : Float) → T (fits binary64 q) → T (finite q) → T (le +0 q) → WeightNear q (weight_shape q)
weight_bound = minus_zero_or_fraction (λ q. WeightNear q (weight_shape q)) weight-minus_zero (λ q Q. (weight_at Q).near)

-- ---- the slope

-- above the double 1e-5 it is near the exact one
slope_above : {q : Float} → Fraction false q (count q) unit → T (lt epsilon q) → SlopeNear q (slope_shape q)
unfolding monaghan_fall grain
slope_above {q} Q a =
    rw (slope-pieces Q (past_epsilon Q a))
    (by_pieces (λ x v. SlopeWithin v x) unit (count q)
    (λ h. found _ (lit≤ tt) (near_slope_lem scale Q h))
    (λ h l. found _ (lit≤ tt) (far_slope_lem scale Q l (past_half unit (count q) h)))
    (zero_found true _ _))

-- up to 1 / 3 the exact slope falls: k is how much more the second number is than the first
fall_rises : (u n k : ℕ) → (n + k) * 3 ≤ u → monaghan_fall u n ≤ monaghan_fall u (n + k)
fall_rises u n k h =
    let a = near_fall_whole u n (omega arith) in
    let b = near_fall_whole u (n + k) (omega arith) in
    let l : (n + k) * 3 * k ≤ u * k = mul-le-mul_right k h in
    omega arith

falls_rise : (u n e : ℕ) → n ≤ e → e * 3 ≤ u → monaghan_fall u n ≤ monaghan_fall u e
falls_rise u n e l h = let d : n + (e - n) ≡ e = add-sub_of_le l in rw d at (fall_rises u n (e - n) (rw d h))

-- up to the double 1e-5 it is 0, and the exact one is not below that at 1e-5
slope_up_to : {q : Float} → Fraction false q (count q) unit → T (le q epsilon) → SlopeFlat q (slope_shape q)
unfolding of_bits le
slope_up_to {q} Q a =
    let t = is_true (le q epsilon) a in
    let l = falls_rise unit (count q) (count epsilon) (under_epsilon Q t) (lit≤ tt) in
    let m = (slope_least.up_to tt).least in
    record { zero = slope_up_to_epsilon q t; least = le_trans (mul-le-mul_right 100000 l) m }

slope_bound : (q : Float) → T (fits binary64 q) → T (finite q) → T (le +0 q) → SlopeBound q (slope_shape q)
slope_bound =
    minus_zero_or_fraction (λ q. SlopeBound q (slope_shape q)) slope-minus_zero
    (λ q Q. record { above = slope_above Q; up_to = slope_up_to Q })

-- ---- what the two functions promise

pub weight_promise : (q r : Float) → fits binary64 q ≡ true → r ≡ weight_shape q → WeightPromise q r
weight_promise q r t e = record { value = e; bound = rw e (weight_bound q (holds _ t)) }

pub slope_promise : (q r : Float) → fits binary64 q ≡ true → r ≡ slope_shape q → SlopePromise q r
slope_promise q r t e = record { value = e; bound = rw e (slope_bound q (holds _ t)) }
