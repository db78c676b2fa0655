-- A finite double is a whole number of units 2 ^ -1074, its `count`: a double has no deeper exponent, so the division
-- in `count` is exact. A finite double that is at least 0 is -0, or the fraction of its count; what is rounded from a
-- fraction has the count that is rounded (`number`). Assumes nothing.
use mathlib.Core.Path.{◌≡◌, refl, sym, ap, ◌∙◌, subst}
use Prim.Native.Nat.{ℕ, zero, suc, ◌+◌, ◌-◌, ◌*◌, ◌/◌, ◌%◌, ◌^◌, ◌≤◌, ◌<◌, zero-le}
use native.Mathlib.Nat.{le_trans, le_of_eq, le_of_suc-le-suc, lt_of_not-le, not-le_of_lt, mul-le-mul_right, mul-one}
use native.Mathlib.Nat.{one-mul, zero-mul, mul_assoc, mul-div_cancel, div-one}
use native.Mathlib.Omega.{arith}
use mathlib.Core.Bool.{Bool, true, false, ◌&&◌, ◌||◌}
use lib.IntN.{ℤ, pos, negsuc}
use lib.Dec.{T, leb, ltb, eqb, leb→le, eqb→eq, lit≤, lit<}
use lib.Pow.{pow-add, pow_pos, pow-lt}
use lib.Ieee.{Float, nan, inf, fin, binary64, up, down, round, le, fits, of_bits}
use lib.Ieee.Digits.{back}
use lib.Ieee.Fits.{and_l, and_r, up_pos, down_pos}
use lib.Ieee.Exact.{HasValue}
use lib.Ieee.Order.{le_of_values}
use lib.Ieee.Scale.{grid, overflow, finite, round_val}
use borrow.Author.Tests.{lt-ltb}
use Rattle.math.specs.Real.{+0}
use Rattle.rounding.specs.Exact.{unit, count}
use Rattle.math.proofs.Doubles.{zero_is}
use Rattle.rounding.proofs.Fractions.{Signed, Fraction, fraction, value_of, zero_fraction, at_fraction}
use Rattle.rounding.proofs.Relative.{Held, rounded_held}

-- ---- a count is exact

reaches : (k l : ℕ) → 2 ^ k ≤ 2 ^ l → k ≤ l
reaches k l h = le_of_suc-le-suc (lt_of_not-le (λ g. not-le_of_lt (pow-lt g) h))

divides : (x k l : ℕ) → 2 ^ k ≤ 2 ^ l → x * 2 ^ l / 2 ^ k * 2 ^ k ≡ x * 2 ^ l
divides x k l h =
    let p : 2 ^ l ≡ 2 ^ (l - k) * 2 ^ k = ap (λ z. 2 ^ z) (sym (back l k (reaches k l h))) ∙ pow-add 2 (l - k) k in
    let e : x * 2 ^ l ≡ x * 2 ^ (l - k) * 2 ^ k = ap (λ z. x * z) p ∙ sym (mul_assoc x (2 ^ (l - k)) (2 ^ k)) in
    ap (λ z. z / 2 ^ k * 2 ^ k) e ∙ ap (λ z. z * 2 ^ k) (mul-div_cancel (x * 2 ^ (l - k)) (pow_pos k)) ∙ sym e

exact : (x : ℕ) (e : ℤ) (l : ℕ) → down e ≤ 2 ^ l → x * 2 ^ l / down e * down e ≡ x * 2 ^ l
exact x (pos k) l h = mul-one (x * 2 ^ l / 1) ∙ div-one (x * 2 ^ l)
exact x (negsuc k) l h = divides x (suc k) l h

pub not_deep : (s : Bool) (m : ℕ) (e : ℤ) → T (fits binary64 (fin s m e)) → down e ≤ unit
unfolding fits
not_deep s zero e t =
    let l : down e ≤ up e * down e =
    le_trans (le_of_eq (sym (one-mul (down e)))) (mul-le-mul_right (down e) (up_pos e)) in
    le_trans l (le_trans (le_of_eq (eqb→eq (up e * down e) 1 t)) (lit≤ tt))
not_deep s (suc m) e t =
    let a : Bool = eqb (suc m % 2) 1 && ltb (suc m) (2 ^ 53) in
    let b : Bool = leb (down e) unit in
    leb→le (down e) unit (and_r a b (and_l (a && b) (ltb (suc m * up e) (2 ^ 1024 * down e)) t))

pub count_value : (s : Bool) (m : ℕ) (e : ℤ) → T (fits binary64 (fin s m e))
    → HasValue (fin s m e) s (count (fin s m e)) unit
count_value s m e t = (refl, sym (exact (m * up e) e 1074 (not_deep s m e t)))

-- no other number of units is the double
pub count-is : (x : Float) (s : Bool) (a : ℕ) → HasValue x s a unit → count x ≡ a
count-is x s a h =
    at_fraction (λ x. count x ≡ a) x s a unit h (λ m e v. ap (λ z. z / down e) v ∙ mul-div_cancel a (down_pos e))

-- ---- a fraction is finite, has its count, and lies on its side of 0

pub fraction_finite : {m : Bool} {x : Float} {a c : ℕ} → Fraction m x a c → T (finite x)
fraction_finite {x = x} {a} {c} X = at_fraction (λ x. T (finite x)) x X.sign a c X.value (λ m e v. tt)

pub fraction_count : {m : Bool} {x : Float} {a : ℕ} → Fraction m x a unit → count x ≡ a
fraction_count {x = x} {a} X = count-is x X.sign a X.value

pub at_least_zero : {x : Float} {a c : ℕ} → 0 < c → Fraction false x a c → T (le +0 x)
at_least_zero {x} {a} {c} C X =
    le_of_values +0 x 0 1 a c (lit< tt) C (value_of zero_fraction) (value_of X) (rw (zero-mul c) zero-le)

-- minus a is at most 0, as `le` tests it
minus_under : (a b : ℕ) → b ≡ 0 → T (ltb 0 (a + b) || (eqb a b && (false || eqb a 0)))
minus_under zero b z = subst (λ y. T (ltb 0 (0 + y) || (eqb 0 y && (false || true)))) (sym z) tt
minus_under (suc a) b z = rw (lt-ltb 0 (suc a + b) (omega arith)) tt

pub at_most_zero : {x : Float} {a c : ℕ} → 0 < c → Fraction true x a c → T (le x +0)
unfolding le of_bits
at_most_zero {x} {a} {c} C X = go X.sign X.signed X.value
  where
    go : (s : Bool) → Signed true s a → HasValue x s a c → T (le x +0)
    go true h v =
        at_fraction (λ x. T (le x +0)) x true a c v
        (λ m e w. minus_under (m * up e * 1) (0 * 1 * down e) (zero-mul (down e)))
    go false h v =
        le_of_values x +0 a c 0 1 C (lit< tt) v (value_of zero_fraction) (le_of_eq (rw (h refl) (sym (zero-mul c))))

-- ---- what is rounded from a fraction that is not below 0, where it is finite

-- x is n units, which a double has
pub record Number (x : Float) (n : ℕ) : Type 0 where
  pub counted : count x ≡ n
  pub is : Fraction false x (count x) unit
  pub held : Held binary64 (count x)

pub number : (a c : ℕ) → grid binary64 a c < overflow binary64 → Number (round binary64 false a c) (grid binary64 a c)
number a c l =
    let v = round_val binary64 a c l in
    let e = count-is (round binary64 false a c) false (grid binary64 a c) v in
    record { counted = e; is = fraction (rw e v); held = rw e (rounded_held binary64 a c l) }

-- ---- a finite double that is at least 0

abbrev pub minus_zero_lem : Float
minus_zero_lem = fin true 0 (pos 0)

pub minus_zero_or_fraction : (P : Float → Type 0) → P minus_zero_lem →
    ((x : Float) → Fraction false x (count x) unit → P x)
    → (x : Float) → T (fits binary64 x) → T (finite x) → T (le +0 x) → P x
unfolding le of_bits
minus_zero_or_fraction P z p nan t i h = absurd i
minus_zero_or_fraction P z p (inf s) t i h = absurd i
minus_zero_or_fraction P z p (fin false m e) t i h = p (fin false m e) (fraction (count_value false m e t))
minus_zero_or_fraction P z p (fin true m e) t i h =
    subst P (sym (zero_is true m e t (none (m * up e) (0 * 1 * down e) (zero-mul (down e)) h))) z
  where
    none : (a b : ℕ) → b ≡ 0 → T (eqb b (a * 1) && (false || eqb b 0)) → a ≡ 0
    none a b z t = let q : b ≡ a * 1 = eqb→eq b (a * 1) (and_l (eqb b (a * 1)) (false || eqb b 0) t) in omega arith
