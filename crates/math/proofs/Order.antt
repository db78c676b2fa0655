-- How doubles are ordered. A finite one is a fraction (over - under) / down, so one inequality of natural numbers
-- compares two of any signs; infinities are cases. Two facts carry the rest: `le` is `lt` turned round and denied, and
-- to be not below is transitive. Assumes nothing.
use Prim.Native.Nat.{ℕ, zero, suc, ◌+◌, ◌*◌, ◌≤◌, ◌<◌}
use mathlib.Core.Path.{◌≡◌, refl, sym, ap, ◌∙◌}
use mathlib.Core.Logic.{inl, inr}
use mathlib.Core.Bool.{Bool, true, false, not, ◌&&◌, ◌||◌, cond, true≢false, and-false, or-true, or-not_self}
use native.Mathlib.Nat.{zero-add, add-zero, add_comm, zero-mul, mul-le-mul_right, le_of_mul-le-mul_right}
use native.Mathlib.Nat.{eq-or-lt_of_le}
use native.Mathlib.Omega.{arith}
use lib.Dec.{ltb, eqb, eqb-zero-suc, eqb-suc-zero}
use lib.Ieee.{Float, nan, inf, fin, up, down, below, level, lt, eq, le, ne, is_nan}
use lib.Ieee.Fits.{down_pos}
use borrow.Author.Tests.{ltb-true, ltb-false, not-true, not-false, lt-ltb, le-ltb, eq-eqb, ne_eqb}
use Rattle.math.proofs.Doubles.{differs_nan}

-- ---- two finite doubles, of signs s and t (true: negative)

abbrev over : Bool → ℕ → ℕ
over s a = cond s 0 a

abbrev under : Bool → ℕ → ℕ
under s a = cond s a 0

-- ±a / c is below ±b / d
below_is : (s t : Bool) (a b c d : ℕ)
    → below s (a * d) t (b * c) ≡ ltb (over s a * d + under t b * c) (over t b * c + under s a * d)
below_is false false a b c d = simp (zero-mul, add-zero)
below_is false true a b c d = sym (le-ltb (a * d + b * c) (0 * c + 0 * d) (omega arith))
below_is true false a b c d = rw (zero-mul d, zero-mul c, add_comm (a * d))
below_is true true a b c d = simp (zero-mul, zero-add)

-- (p - q) / d is at least (p' - q') / d', which is at least (p'' - q'') / d''
at_least_trans : (p q d p' q' d' p'' q'' d'' : ℕ) → 0 < d' → p' * d + q * d' ≤ p * d' + q' * d
    → p'' * d' + q' * d'' ≤ p' * d'' + q'' * d' → p'' * d + q * d'' ≤ p * d'' + q'' * d
at_least_trans p q d p' q' d' p'' q'' d'' h k l =
    le_of_mul-le-mul_right (omega (arith, mul-le-mul_right d'' k, mul-le-mul_right d l)) h

not_below_trans : (s t r : Bool) (a b c d e f : ℕ) → 0 < e → below s (a * e) t (b * d) ≡ false
    → below t (b * f) r (c * e) ≡ false → below s (a * f) r (c * d) ≡ false
not_below_trans s t r a b c d e f h k l =
    below_is s r a c d f
    ∙ le-ltb _ _
    (at_least_trans (over s a) (under s a) d (over t b) (under t b) e (over r c) (under r c) f h
    (ltb-false _ _ (sym (below_is s t a b d e) ∙ k)) (ltb-false _ _ (sym (below_is t r b c e f) ∙ l)))

like_signs : (a b : ℕ) (t : Bool) → (a ≡ b → t ≡ true) → ((a ≡ b → ⊥) → t ≡ false)
    → ltb a b || (t && true) ≡ not (ltb b a)
like_signs a b t same apart = go (ltb a b) refl
  where
    go : (u : Bool) → ltb a b ≡ u → u || (t && true) ≡ not (ltb b a)
    go true q = let l = ltb-true a b q in sym (ap not (le-ltb b a (omega arith)))
    go false q = elim (eq-or-lt_of_le (ltb-false a b q)) [
      | inl e ↦ rw (same (sym e), le-ltb b a (omega arith))
      | inr l ↦ rw (apart (λ e. omega arith), lt-ltb b a l)
    ]

unlike_signs : (a b : ℕ) → eqb a b && eqb a 0 ≡ not (ltb 0 (a + b))
unlike_signs zero zero = refl
unlike_signs zero (suc b) = rw (eqb-zero-suc, lt-ltb 0 (0 + suc b) (omega arith))
unlike_signs (suc a) b = rw (eqb-suc-zero a, and-false, lt-ltb 0 (suc a + b) (omega arith))

at_most_is_not_below : (s t : Bool) (a b : ℕ) → below s a t b || level s a t b ≡ not (below t b s a)
at_most_is_not_below false false a b = like_signs a b (eqb a b) (eq-eqb a b) (ne_eqb a b)
at_most_is_not_below false true a b = rw add_comm (unlike_signs a b)
at_most_is_not_below true false a b = rw unlike_signs (or-not_self (ltb 0 (a + b)))
at_most_is_not_below true true a b =
    like_signs b a (eqb a b) (λ q. eq-eqb a b (sym q)) (λ n. ne_eqb a b (λ q. n (sym q)))

-- ---- all doubles

le_is_not_lt : (x y : Float) → is_nan x ≡ false → is_nan y ≡ false → le x y ≡ not (lt y x)
unfolding le is_nan
le_is_not_lt nan y n p = absurd (true≢false n)
le_is_not_lt (inf s) nan n p = absurd (true≢false p)
le_is_not_lt (inf true) (inf true) n p = refl
le_is_not_lt (inf true) (inf false) n p = refl
le_is_not_lt (inf false) (inf true) n p = refl
le_is_not_lt (inf false) (inf false) n p = refl
le_is_not_lt (inf true) (fin t b d) n p = refl
le_is_not_lt (inf false) (fin t b d) n p = refl
le_is_not_lt (fin s a c) nan n p = absurd (true≢false p)
le_is_not_lt (fin s a c) (inf true) n p = refl
le_is_not_lt (fin s a c) (inf false) n p = refl
le_is_not_lt (fin s a c) (fin t b d) n p = at_most_is_not_below s t (a * up c * down d) (b * up d * down c)

pub not_lt_trans : (x y z : Float) → is_nan y ≡ false → lt x y ≡ false → lt y z ≡ false → lt x z ≡ false
unfolding lt is_nan
not_lt_trans nan y z n h k = refl
not_lt_trans (inf false) y nan n h k = refl
not_lt_trans (inf false) y (inf r) n h k = refl
not_lt_trans (inf false) y (fin r m e) n h k = refl
not_lt_trans (inf true) nan z n h k = absurd (true≢false n)
not_lt_trans (inf true) (inf true) z n h k = k
not_lt_trans (inf true) (inf false) z n h k = absurd (true≢false h)
not_lt_trans (inf true) (fin t b d) z n h k = absurd (true≢false h)
not_lt_trans (fin s a c) nan z n h k = absurd (true≢false n)
not_lt_trans (fin s a c) (inf false) z n h k = absurd (true≢false h)
not_lt_trans (fin s a c) (inf true) nan n h k = refl
not_lt_trans (fin s a c) (inf true) (inf r) n h k = k
not_lt_trans (fin s a c) (inf true) (fin r m e) n h k = absurd (true≢false k)
not_lt_trans (fin s a c) (fin t b d) nan n h k = refl
not_lt_trans (fin s a c) (fin t b d) (inf r) n h k = k
not_lt_trans (fin s a c) (fin t b d) (fin r m e) n h k =
    not_below_trans s t r (a * up c) (b * up d) (m * up e) (down c) (down d) (down e) (down_pos d) h k

pub nothing_below_nan : (x : Float) → lt x nan ≡ false
unfolding lt
nothing_below_nan nan = refl
nothing_below_nan (inf s) = refl
nothing_below_nan (fin s m e) = refl

-- only numbers are in order
pub le_numbers : (x y : Float) → le x y ≡ true → (is_nan x ≡ false) × (is_nan y ≡ false)
unfolding le is_nan
le_numbers nan y h = absurd (true≢false (sym h))
le_numbers (inf s) nan h = absurd (true≢false (sym h))
le_numbers (inf s) (inf t) h = (refl, refl)
le_numbers (inf s) (fin t b d) h = (refl, refl)
le_numbers (fin s a c) nan h = absurd (true≢false (sym h))
le_numbers (fin s a c) (inf t) h = (refl, refl)
le_numbers (fin s a c) (fin t b d) h = (refl, refl)

-- ---- what follows

pub lt_le : (x y : Float) → lt x y ≡ true → le x y ≡ true
unfolding le
lt_le x y h = rw h

pub not_lt_le : (x y : Float) → is_nan x ≡ false → is_nan y ≡ false → lt x y ≡ false → le y x ≡ true
not_lt_le x y n p h = le_is_not_lt y x p n ∙ ap not h

le_not_lt : (x y : Float) → le x y ≡ true → lt y x ≡ false
le_not_lt x y h = let (n, p) = le_numbers x y h in not-true (lt y x) (sym (le_is_not_lt x y n p) ∙ h)

pub le_refl : (x : Float) → is_nan x ≡ false → le x x ≡ true
unfolding le ne
le_refl x n = rw (not-false (eq x x) (differs_nan x ∙ n)) (or-true (lt x x))

pub le_trans : (x y z : Float) → le x y ≡ true → le y z ≡ true → le x z ≡ true
le_trans x y z h k =
    let (n, p) = le_numbers x y h in
    not_lt_le z x (le_numbers y z k).1 n (not_lt_trans z y x p (le_not_lt y z k) (le_not_lt x y h))

pub lt_trans : (x y z : Float) → lt x y ≡ true → lt y z ≡ true → lt x z ≡ true
lt_trans x y z h k = go (lt x z) refl
  where
    go : (t : Bool) → lt x z ≡ t → t ≡ true
    go true q = refl
    go false q = let l = lt_le y z k in sym (not_lt_trans x z y (le_numbers y z l).1 q (le_not_lt y z l)) ∙ h
