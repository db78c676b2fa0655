-- The law of rounding: a result of magnitude at most 2 ^ b is within 2 ^ (b - 54) of the exact value, or half a unit.
-- `round` drops few digits of what is below the bound, and keeps the bound itself. Assumes nothing.
use mathlib.Core.Path.{◌≡◌, refl, sym, ap, ◌∙◌, subst}
use mathlib.Core.Logic.{inl, inr}
use Prim.Native.Nat.{ℕ, zero, suc, ◌+◌, ◌-◌, ◌*◌, ◌/◌, ◌%◌, ◌^◌, ◌≤◌, ◌<◌, compare, Ordering}
use native.Mathlib.Nat.{le_refl, le_trans, le_of_eq, le_of_lt, lt_of_le_of_lt, eq-or-lt_of_le, suc-mul, mul_assoc}
use native.Mathlib.Nat.{mul_right_comm, mul-pos, mul-le-mul_left, mul-le-mul_right, div-add-mod', mod-lt}
use native.Mathlib.Nat.{div-lt_iff_lt-mul, div-div-eq-div-mul}
use native.Mathlib.Omega.{arith}
use mathlib.Core.Bool.{Bool, not}
use lib.Dec.{T, is_le, compare_is_eq, eqb, leb→le, nleb→lt, eqb→eq, eqb_refl}
use lib.Arith.{lt_of_le-ne}
use lib.Pow.{pow-add, pow_pos, pow_mono, pow-lt}
use lib.Ieee.{Format, prec, emax, low, size, nearest, round}
use lib.Ieee.Digits.{size-le}
use lib.Ieee.Fits.{nearest-le, kept-lt, round_is, two}
use lib.Ieee.Exact.{HasValue, units_val, round_exact}
use lib.Ieee.Nearest.{closest}
use lib.Ieee.Order.{drop, kept}
use lib.Ieee.Scale.{grid}
use Rattle.rounding.specs.Exact.{Near}
use Rattle.rounding.proofs.Near.{near_weak}
use Rattle.rounding.proofs.Fractions.{same_fraction}

-- In every format, and on whole numbers alone. A unit is the smallest positive value, 2 ^ -low. num / den, which is num
-- * 2 ^ low / den units, is at most 2 ^ (prec + i) units, so 2 ^ b is 2 ^ (prec + i - low); the error is at most half
-- of 2 ^ i units, so 2 ^ (b - prec - 1), and for a double 2 ^ (b - 54). That i is a whole number is the subnormal
-- floor: no bound is below half a unit. The result is also at most double the exact value.
pub record RoundedNear (f : Format) (s : Bool) (num den i : ℕ) : Type 0 where
  pub units : ℕ
  pub value : HasValue (round f s num den) s units (2 ^ low f)
  pub top : units ≤ 2 ^ (prec f + i)
  pub near : Near (units * den * 2) (num * 2 ^ low f * 2) (den * 2 ^ i)
  pub double : units * den ≤ num * 2 ^ low f * 2

-- ---- what `compare` says

abbrev Compared : Ordering → ℕ → ℕ → Type 0
Compared Ordering.lt a b = a < b
Compared Ordering.eq a b = a ≡ b
Compared Ordering.gt a b = b < a

compared : (a b : ℕ) → Compared (compare a b) a b
compared a b = go (compare a b) (leb→le a b) (nleb→lt a b) (eqb→eq a b) (λ e. subst (λ x. T (eqb a x)) e (eqb_refl a))
  where
    go : (o : Ordering) → (T (is_le o) → a ≤ b) → (T (not (is_le o)) → b < a) → (T (compare_is_eq o) → a ≡ b)
        → (a ≡ b → T (compare_is_eq o)) → Compared o a b
    go Ordering.lt h k e n = lt_of_le-ne (h tt) n
    go Ordering.eq h k e n = e tt
    go Ordering.gt h k e n = k tt

-- ---- the whole number nearest to a / b: off by half at most, and at most the double

abbrev Nearest : ℕ → ℕ → ℕ → Type 0
Nearest g a b = Near (g * b * 2) (a * 2) b × (g * b ≤ a * 2)

-- with the whole part w and the remainder r: w itself, and the next number
stays : (w a b r : ℕ) → w * b + r ≡ a → r * 2 ≤ b → Nearest w a b
stays w a b r e l = omega arith

moves : (w a b r : ℕ) → w * b + r ≡ a → b ≤ r * 2 → r < b → Nearest (suc w) a b
moves w a b r e l m = let s : suc w * b ≡ w * b + b = suc-mul w b in omega arith

nearest_of : (w a b r : ℕ) (o : Ordering) → w * b + r ≡ a → Compared o (r * 2) b → r < b → Nearest (nearest w o) a b
nearest_of w a b r Ordering.lt e c l = stays w a b r e (le_of_lt c)
nearest_of w a b r Ordering.eq e c l = go (w % 2) refl
  where
    even : w ≡ w + 0
    even = omega arith

    odd : (z : ℕ) → w % 2 ≡ suc z → suc w ≡ w + suc z
    odd z h = omega arith

    go : (z : ℕ) → w % 2 ≡ z → Nearest (w + z) a b
    go zero h = subst (λ g. Nearest g a b) even (stays w a b r e (le_of_eq c))
    go (suc z) h = subst (λ g. Nearest g a b) (odd z h) (moves w a b r e (le_of_eq (sym c)) l)
nearest_of w a b r Ordering.gt e c l = moves w a b r e (le_of_lt c) l

closest_nearest : (a b : ℕ) → 0 < b → Nearest (closest a b) a b
closest_nearest a b B =
    nearest_of (a / b) a b (a % b) (compare (a % b * 2) b) (div-add-mod' a b) (compared (a % b * 2) b) (mod-lt a B)

-- ---- `round`, where nothing overflows

pub kept_le : (p n den : ℕ) → kept p n den ≤ 2 ^ p
kept_le p n den =
    let k = drop p n den in
    let u = den * 2 ^ k in
    le_trans (nearest-le (n / u) (compare (n % u * 2) u))
    (subst (λ x. x < 2 ^ p) (div-div-eq-div-mul n den (2 ^ k)) (kept-lt p (n / den)))

-- of what is below 2 ^ (prec + i) units at most i digits are dropped
drop_le : (f : Format) (num den i : ℕ) → 0 < den → num * 2 ^ low f < 2 ^ (prec f + i) * den
    → drop (prec f) (num * 2 ^ low f) den ≤ i
drop_le f num den i D h =
    let w = num * 2 ^ low f / den in
    spare (size w) (prec f) (size-le w (prec f + i) ((div-lt_iff_lt-mul D).1 h))
  where
    spare : (z p : ℕ) → z ≤ p + i → z - p ≤ i
    spare z p h = omega arith

-- the kept digits, moved back to their place, are off by half of 2 ^ i units at most, and at most the double
pub grid_near : (f : Format) (num den i : ℕ) → 0 < den → num * 2 ^ low f < 2 ^ (prec f + i) * den
    → Near (grid f num den * den * 2) (num * 2 ^ low f * 2) (den * 2 ^ i)
    × (grid f num den * den ≤ num * 2 ^ low f * 2)
grid_near f num den i D h =
    let n = num * 2 ^ low f in
    let k = drop (prec f) n den in
    let g = kept (prec f) n den in
    let N = closest_nearest n (den * 2 ^ k) (mul-pos D (pow_pos k)) in
    let e : g * (den * 2 ^ k) ≡ g * 2 ^ k * den = sym (mul_assoc g den (2 ^ k)) ∙ mul_right_comm g den (2 ^ k) in
    let l : den * 2 ^ k ≤ den * 2 ^ i = mul-le-mul_left den (pow_mono (drop_le f num den i D h)) in
    (near_weak (den * 2 ^ k) (den * 2 ^ i) l (rw e at N.0), rw e at N.1)

module _ (f : Format) (s : Bool) (num den i : ℕ) (D : 0 < den) (room : prec f + i < low f + suc (emax f)) where
  below_top : num * 2 ^ low f < 2 ^ (prec f + i) * den → RoundedNear f s num den i
  below_top h =
      let p = prec f in
      let n = num * 2 ^ low f in
      let k = drop p n den in
      let l : 2 ^ p * 2 ^ k ≤ 2 ^ (p + i) = rw (← pow-add 2 p k) (pow_mono (more p k (drop_le f num den i D h))) in
      let t : grid f num den ≤ 2 ^ (p + i) = le_trans (mul-le-mul_right (2 ^ k) (kept_le p n den)) l in
      let N = grid_near f num den i D h in
      record {
        units = grid f num den;
        value = rw round_is (units_val f s (kept p n den) k (lt_of_le_of_lt t (pow-lt room)));
        top = t;
        near = N.0;
        double = N.1;
      }
    where
      more : (p k : ℕ) → k ≤ i → p + k ≤ p + i
      more p k h = omega arith

  at_top : num * 2 ^ low f ≡ 2 ^ (prec f + i) * den → RoundedNear f s num den i
  at_top h =
      let p = prec f in
      let q = 2 ^ (p - 1) in
      let e : q * 2 ^ suc i ≡ 2 ^ (p + i) = sym (pow-add 2 (p - 1) (suc i)) ∙ ap (λ x. 2 ^ x) (next p (two f)) in
      let exact = round_exact f s num den q (suc i) D (pow-lt (one_less p (two f))) (rw e (pow-lt room)) (rw e h) in
      record {
        units = 2 ^ (p + i);
        value = same_fraction (round f s num den) s num den (2 ^ (p + i)) (2 ^ low f) D h exact;
        top = le_refl (2 ^ (p + i));
        near = rw h (same (2 ^ (p + i) * den * 2) (den * 2 ^ i));
        double = rw h (twice (2 ^ (p + i) * den));
      }
    where
      next : (p : ℕ) → 2 ≤ p → p - 1 + suc i ≡ p + i
      next p h = omega arith

      one_less : (p : ℕ) → 2 ≤ p → p - 1 < p
      one_less p h = omega arith

      same : (x d : ℕ) → Near x x d
      same x d = omega arith

      twice : (x : ℕ) → x ≤ x * 2
      twice x = omega arith

  pub round_near : num * 2 ^ low f ≤ 2 ^ (prec f + i) * den → RoundedNear f s num den i
  round_near h = elim (eq-or-lt_of_le h) [ inl e ↦ at_top e | inr l ↦ below_top l ]
