-- What the tests on doubles say: zeros, signs and not-a-numbers, by cases on the double. A double that a format holds
-- is written in one way, so a zero is +0 or -0 as data too. Assumes nothing.
use mathlib.Core.Path.{◌≡◌, refl, sym, ap, ◌∙◌, subst}
use Prim.Native.Nat.{ℕ, zero, suc, ◌+◌, ◌*◌, ◌%◌, ◌^◌, ◌≤◌, ◌<◌}
use native.Mathlib.Nat.{mul-one, one-mul, zero-mul, mul-pos, pow-suc, zero-lt-suc}
use native.Mathlib.Omega.{arith}
use mathlib.Core.Bool.{Bool, true, false, not, ◌&&◌, ◌||◌, true≢false}
use lib.IntN.{ℤ, pos, negsuc}
use lib.Dec.{T, eqb, ltb, eqb→eq, ltb→lt, nltb→le}
use lib.Pow.{pow_pos}
use lib.Ieee.{Float, nan, inf, fin, binary64, up, down, neg, lt, eq, ne, fits, is_nan, nan_bits, of_bits}
use lib.Ieee.Fits.{up_pos, and_l}
use lib.Ieee.Bits.{nan_bits_is, nan_bits_above}
use borrow.Author.Tests.{lt-ltb, le-ltb}
use lib.Ieee.Compare.{differs_from_itself}
use Rattle.math.specs.Real.{+0, magnitude}

pub holds : (b : Bool) → b ≡ true → T b
holds b e = subst T (sym e) tt

pub fails : (b : Bool) → b ≡ false → T (not b)
fails b e = subst (λ (x : Bool). T (not x)) (sym e) tt

-- ---- zeros

above_one : (k : ℕ) → 2 ^ suc k ≡ 1 → ⊥
above_one k e = clash (2 ^ k) (pow_pos k) (sym (pow-suc 2 k) ∙ e)
  where
    clash : (x : ℕ) → 0 < x → x * 2 ≡ 1 → ⊥
    clash x h k = omega arith

whole_exponent : (e : ℤ) → up e * down e ≡ 1 → e ≡ pos 0
whole_exponent (pos zero) h = refl
whole_exponent (pos (suc k)) h = absurd (above_one k (sym (mul-one (2 ^ suc k)) ∙ h))
whole_exponent (negsuc k) h = absurd (above_one k (sym (one-mul (2 ^ suc k)) ∙ h))

-- a double of magnitude 0 is a zero
pub zero_is : (s : Bool) (m : ℕ) (e : ℤ) → T (fits binary64 (fin s m e)) → m * up e ≡ 0 → fin s m e ≡ fin s 0 (pos 0)
unfolding fits
zero_is s zero e t h = ap (λ (x : ℤ). fin s 0 x) (whole_exponent e (eqb→eq (up e * down e) 1 t))
zero_is s (suc m) e t h = absurd (none (suc m * up e) (mul-pos (zero-lt-suc m) (up_pos e)) h)
  where
    none : (x : ℕ) → 0 < x → x ≡ 0 → ⊥
    none x p q = omega arith

level_zero : (a b : ℕ) (c : Bool) → b ≡ 0 → T (eqb (a * 1) b && c) → a ≡ 0
level_zero a b c z t = let e : a * 1 ≡ b = eqb→eq (a * 1) b (and_l (eqb (a * 1) b) c t) in omega arith

-- ---- the magnitude

pub magnitude-zero : (x : Float) → T (fits binary64 x) → eq x +0 ≡ true → +0 ≡ magnitude x
unfolding eq magnitude of_bits
magnitude-zero nan t h = absurd (true≢false (sym h))
magnitude-zero (inf s) t h = absurd (true≢false (sym h))
magnitude-zero (fin s m e) t h =
    let z : m * up e ≡ 0 = level_zero (m * up e) (0 * 1 * down e) _ (zero-mul (down e)) (holds _ h) in
    sym (ap magnitude (zero_is s m e t z))

pub magnitude_below : (x : Float) → lt x +0 ≡ true → neg x ≡ magnitude x
unfolding lt neg magnitude of_bits
magnitude_below nan h = absurd (true≢false (sym h))
magnitude_below (inf true) h = refl
magnitude_below (inf false) h = absurd (true≢false (sym h))
magnitude_below (fin true m e) h = refl
magnitude_below (fin false m e) h =
    absurd (none (m * up e * 1) (0 * 1 * down e) (zero-mul (down e)) (ltb→lt _ _ (holds _ h)))
  where
    none : (a b : ℕ) → b ≡ 0 → a < b → ⊥
    none a b z l = omega arith

pub magnitude_above : (x : Float) → eq x +0 ≡ false → lt x +0 ≡ false → x ≡ magnitude x
unfolding eq lt magnitude of_bits
magnitude_above nan h k = refl
magnitude_above (inf true) h k = absurd (true≢false k)
magnitude_above (inf false) h k = refl
magnitude_above (fin false m e) h k = refl
magnitude_above (fin true m e) h k =
    absurd (go (m * up e * 1) (0 * 1 * down e) (zero-mul (down e)) (fails _ h) (fails _ k))
  where
    go : (a b : ℕ) → b ≡ 0 → T (not (eqb a b && (false || eqb a 0))) → T (not (ltb 0 (a + b))) → ⊥
    go zero b z n l = subst (λ (y : ℕ). T (not (eqb 0 y && (false || true)))) z n
    go (suc a) b z n l = let g : suc a + b ≤ 0 = nltb→le 0 (suc a + b) l in omega arith

-- ---- not-a-numbers

pub number_or_nan : (x : Float) {A : Type 0} → (x ≡ nan → A) → (is_nan x ≡ false → A) → A
unfolding is_nan
number_or_nan nan f g = f refl
number_or_nan (inf s) f g = g refl
number_or_nan (fin s m e) f g = g refl

pub equal_number : (x : Float) → eq x x ≡ true → T (not (is_nan x))
unfolding eq is_nan
equal_number nan h = true≢false (sym h)
equal_number (inf s) h = tt
equal_number (fin s m e) h = tt

pub unequal_nan : (x : Float) → eq x x ≡ false → x ≡ nan
unfolding lib.Ieee.ne
unequal_nan x h = differs_from_itself x (fails (eq x x) h)

-- what differs from itself is not a number, and nothing else does
pub differs_nan : (x : Float) → ne x x ≡ is_nan x
unfolding ne is_nan
differs_nan x = go (eq x x) refl
  where
    number : (t : Bool) → T (not t) → false ≡ t
    number false h = refl
    number true h = elim h [ ]

    go : (t : Bool) → eq x x ≡ t → ne x x ≡ is_nan x
    go true h = rw h (number (is_nan x) (equal_number x h))
    go false h = rw h (ap is_nan (sym (unequal_nan x h)))

is_nan_lem : (x : Float) → is_nan x ≡ true → x ≡ nan
unfolding is_nan
is_nan_lem nan h = refl
is_nan_lem (inf s) h = absurd (true≢false (sym h))
is_nan_lem (fin s m e) h = absurd (true≢false (sym h))

-- a pattern is a not-a-number's exactly where it lies above infinity's, its sign left away
pub nan_pattern : (b : ℕ) → 0x7FF0000000000000 < b % 0x8000000000000000 → of_bits binary64 b ≡ nan
nan_pattern b h = is_nan_lem (of_bits binary64 b) (sym (nan_bits_is binary64 b) ∙ nan_bits_above binary64 b
    ∙ lt-ltb _ _ h)

pub number_pattern : (b : ℕ) → b % 0x8000000000000000 ≤ 0x7FF0000000000000 → T (not (nan_bits binary64 b))
number_pattern b h = fails (nan_bits binary64 b) (nan_bits_above binary64 b ∙ le-ltb _ _ h)
