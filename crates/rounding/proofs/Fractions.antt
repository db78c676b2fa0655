-- Doubles by the fractions that they equal: an operation is `round` of the exact result, a comparison that of these.
-- A finite double is a `fin s m e`, where both compute; equal fractions are cross products. Assumes nothing.
use mathlib.Core.Path.{◌≡◌, refl, sym, ap, ◌∙◌, subst}
use mathlib.Core.Logic.{inl, inr}
use Prim.Native.Nat.{ℕ, ◌+◌, ◌-◌, ◌*◌, ◌≤◌, ◌<◌}
use native.Mathlib.Nat.{le_trans, le_of_eq, not-le_of_lt, lt_of_not-le, eq-or-lt_of_le, le_of_mul-le-mul_right}
use native.Mathlib.Nat.{eq_of_mul-eq-mul_right, zero-mul, add-mul, mul_comm, mul_assoc, mul_left_comm, mul_right_comm}
use native.Mathlib.Nat.{mul-mul-mul_comm, mul-pos, mul-le-mul_right}
use native.Mathlib.Omega.{arith}
use mathlib.Core.Bool.{Bool, true, false, not, ◌&&◌, ◌||◌, true≢false}
use lib.IntN.{ℤ}
use lib.Dec.{leb, ltb, eqb}
use lib.Ieee.{Float, nan, inf, fin, Format, unlike, up, down, round, neg, sum, add, sub, mul, le, lt, of_bits}
use lib.Ieee.Fits.{down_pos}
use lib.Ieee.Exact.{HasValue}
use lib.Ieee.Scale.{round_same}
use borrow.Author.Tests.{leb-true, leb-false, ltb-false, le-leb, lt-leb, lt-ltb, le-ltb, eq-eqb, ne_eqb}
use Rattle.math.specs.Real.{+0, half, one}
use Rattle.rounding.proofs.Near.{sub-times}

-- ---- what has the sign s and the size a / c is some `fin s m e`

pub at_fraction : (P : Float → Type 0) (x : Float) (s : Bool) (a c : ℕ) → HasValue x s a c
    → ((m : ℕ) (e : ℤ) → m * up e * c ≡ a * down e → P (fin s m e)) → P x
at_fraction P nan s a c h p = absurd h
at_fraction P (inf t) s a c h p = absurd h
at_fraction P (fin t m e) s a c h p = subst (λ z. P (fin z m e)) (sym h.0) (p m e h.1)

pub at_fractions : (P : Float → Float → Type 0) (x y : Float) (s t : Bool) (a c b d : ℕ)
    → HasValue x s a c → HasValue y t b d
    → ((m : ℕ) (e : ℤ) (n : ℕ) (i : ℤ) → m * up e * c ≡ a * down e → n * up i * d ≡ b * down i
    → P (fin s m e) (fin t n i))
    → P x y
at_fractions P x y s t a c b d h k p =
    at_fraction (λ x. P x y) x s a c h (λ m e v. at_fraction (λ y. P (fin s m e) y) y t b d k (λ n i w. p m e n i v w))

-- the same fraction over another denominator
pub same_fraction : (x : Float) (s : Bool) (a c b d : ℕ) → 0 < c → a * d ≡ b * c → HasValue x s a c → HasValue x s b d
same_fraction x s a c b d C r h =
    at_fraction (λ x. HasValue x s b d) x s a c h
    (λ m e v. (refl, eq_of_mul-eq-mul_right c C (m * up e * d) (b * down e) (cross (m * up e) (down e) v)))
  where
    cross : (x p : ℕ) → x * c ≡ a * p → x * d * c ≡ b * p * c
    cross x p v =
        mul_right_comm x d c ∙ ap (λ z. z * d) v ∙ mul_right_comm a p d ∙ ap (λ z. z * p) r ∙ mul_right_comm b c p

neg_value : (x : Float) (s : Bool) (a c : ℕ) → HasValue x s a c → HasValue (neg x) (not s) a c
unfolding neg
neg_value x s a c h = at_fraction (λ x. HasValue (neg x) (not s) a c) x s a c h (λ m e v. (refl, v))

-- ---- the product

pub mul_is : (f : Format) (x y : Float) (s t : Bool) (a c b d : ℕ) → 0 < c → 0 < d → HasValue x s a c → HasValue y t b d
    → mul f x y ≡ round f (unlike s t) (a * b) (c * d)
unfolding mul
mul_is f x y s t a c b d C D h k =
    at_fractions (λ x y. mul f x y ≡ round f (unlike s t) (a * b) (c * d)) x y s t a c b d h k
    (λ m e n i v w.
    round_same f (unlike s t) (m * up e * (n * up i)) (down e * down i) (a * b) (c * d)
    (mul-pos (down_pos e) (down_pos i)) (mul-pos C D)
    (cross (m * up e) (down e) (n * up i) (down i) v w))
  where
    cross : (x p y q : ℕ) → x * c ≡ a * p → y * d ≡ b * q → x * y * (c * d) ≡ a * b * (p * q)
    cross x p y q v w =
        mul-mul-mul_comm x y c d ∙ ap (λ z. z * (y * d)) v ∙ ap (λ z. a * p * z) w ∙ mul-mul-mul_comm a p b q

-- ---- tests on whole numbers, where A / D is a / c and B / D is b / c

order : (A B D a b c : ℕ) → 0 < c → A * c ≡ a * D → B * c ≡ b * D → a ≤ b → A ≤ B
order A B D a b c C h k l =
    le_of_mul-le-mul_right (le_trans (le_of_eq h) (le_trans (mul-le-mul_right D l) (le_of_eq (sym k)))) C

leb_same : (A B D a b c : ℕ) → 0 < D → 0 < c → A * c ≡ a * D → B * c ≡ b * D → leb A B ≡ leb a b
leb_same A B D a b c P C h k = go (leb a b) refl
  where
    go : (t : Bool) → leb a b ≡ t → leb A B ≡ t
    go true e = le-leb A B (order A B D a b c C h k (leb-true a b e))
    go false e = lt-leb A B (lt_of_not-le (λ l. not-le_of_lt (leb-false a b e) (order a b c A B D P (sym h) (sym k) l)))

ltb_not_leb : (a b : ℕ) → ltb a b ≡ not (leb b a)
ltb_not_leb a b = go (leb b a) refl
  where
    go : (t : Bool) → leb b a ≡ t → ltb a b ≡ not t
    go true e = le-ltb a b (leb-true b a e)
    go false e = lt-ltb a b (leb-false b a e)

less_or_equal : (a b : ℕ) → ltb a b || (eqb a b && true) ≡ leb a b
less_or_equal a b = go (leb a b) refl
  where
    go : (t : Bool) → leb a b ≡ t → ltb a b || (eqb a b && true) ≡ t
    go true e =
        elim (eq-or-lt_of_le (leb-true a b e)) [
          | inl q ↦ simp (le-ltb a b (le_of_eq (sym q)), eq-eqb a b q)
          | inr l ↦ simp (lt-ltb a b l)
        ]
    go false e = let l : b < a = leb-false a b e in simp (le-ltb a b (omega arith), ne_eqb a b (λ q. omega arith))

-- ---- the sum, over a common denominator

sum_same : (f : Format) (s t : Bool) (A B D a b c : ℕ) → 0 < D → 0 < c → A * c ≡ a * D → B * c ≡ b * D
    → sum f s A t B D ≡ sum f s a t b c
unfolding sum
sum_same f s t A B D a b c P C h k =
    rw (
      round_same f s (A + B) D (a + b) c P C (rw (add-mul A B c, add-mul a b D, h, k)),
      round_same f t (B - A) D (b - a) c P C (differ B A b a k h),
      round_same f (s && ltb B A) (A - B) D (a - b) c P C (differ A B a b h k),
      less A B a b h k,
      less B A b a k h,
    )
  where
    differ : (A B a b : ℕ) → A * c ≡ a * D → B * c ≡ b * D → (A - B) * c ≡ (a - b) * D
    differ A B a b h k = rw (sub-times A B c, sub-times a b D, h, k)

    less : (A B a b : ℕ) → A * c ≡ a * D → B * c ≡ b * D → ltb A B ≡ ltb a b
    less A B a b h k = ltb_not_leb A B ∙ ap not (leb_same B A D b a c P C k h) ∙ sym (ltb_not_leb a b)

pub add_is : (f : Format) (x y : Float) (s t : Bool) (a b c : ℕ) → 0 < c → HasValue x s a c → HasValue y t b c
    → add f x y ≡ sum f s a t b c
unfolding add
add_is f x y s t a b c C h k =
    at_fractions (λ x y. add f x y ≡ sum f s a t b c) x y s t a c b c h k
    (λ m e n i v w.
    sum_same f s t (m * up e * down i) (n * up i * down e) (down e * down i) a b c (mul-pos (down_pos e) (down_pos i)) C
    (cross (m * up e) a (down e) (down i) v)
    (cross (n * up i) b (down i) (down e) w ∙ ap (λ z. b * z) (mul_comm (down i) (down e))))
  where
    cross : (x a p q : ℕ) → x * c ≡ a * p → x * q * c ≡ a * (p * q)
    cross x a p q v = mul_right_comm x q c ∙ ap (λ z. z * q) v ∙ mul_assoc a p q

-- ---- the comparisons of two values that are not below 0

pub le_is : (x y : Float) (a c b d : ℕ) → 0 < c → 0 < d → HasValue x false a c → HasValue y false b d
    → le x y ≡ leb (a * d) (b * c)
unfolding le
le_is x y a c b d C D h k =
    at_fractions (λ x y. le x y ≡ leb (a * d) (b * c)) x y false false a c b d h k
    (λ m e n i v w.
    less_or_equal (m * up e * down i) (n * up i * down e)
    ∙ leb_same (m * up e * down i) (n * up i * down e) (down e * down i) (a * d) (b * c) (c * d)
    (mul-pos (down_pos e) (down_pos i)) (mul-pos C D)
    (cross (m * up e) a (down e) c (down i) d v)
    (rw (mul_comm c d, mul_comm (down e) (down i)) (cross (n * up i) b (down i) d (down e) c w)))
  where
    cross : (x a p c q d : ℕ) → x * c ≡ a * p → x * q * (c * d) ≡ a * d * (p * q)
    cross x a p c q d h = mul-mul-mul_comm x q c d ∙ ap (λ z. z * (q * d)) h ∙ simp (mul_assoc, mul_comm, mul_left_comm)

-- one is below the other exactly where the other is not at most it
pub lt_is : (x y : Float) (a c b d : ℕ) → HasValue x false a c → HasValue y false b d → lt x y ≡ not (le y x)
unfolding le
lt_is x y a c b d h k =
    at_fractions (λ x y. lt x y ≡ not (le y x)) x y false false a c b d h k
    (λ m e n i v w.
    ltb_not_leb (m * up e * down i) (n * up i * down e)
    ∙ ap not (sym (less_or_equal (n * up i * down e) (m * up e * down i))))

-- ---- fractions that are not below 0 (m is false), and fractions that are not above 0 (m is true)

-- the sign s of a / c, or of minus a / c where m is true: then a zero may have either
abbrev pub Signed : Bool → Bool → ℕ → Type 0
Signed false s a = s ≡ false
Signed true s a = s ≡ false → a ≡ 0

-- x is a / c, or minus a / c where m is true
pub record Fraction (m : Bool) (x : Float) (a c : ℕ) : Type 0 where
  pub sign : Bool
  pub signed : Signed m sign a
  pub value : HasValue x sign a c

-- x is that fraction, rounded
pub record Rounded (f : Format) (m : Bool) (x : Float) (a c : ℕ) : Type 0 where
  pub sign : Bool
  pub signed : Signed m sign a
  pub is : x ≡ round f sign a c

pub fraction : {x : Float} {a c : ℕ} → HasValue x false a c → Fraction false x a c
fraction h = record { sign = false; signed = refl; value = h }

pub value_of : {x : Float} {a c : ℕ} → Fraction false x a c → HasValue x false a c
value_of {x} {a} {c} X = subst (λ s. HasValue x s a c) X.signed X.value

pub rescaled : {x : Float} {a c b d : ℕ} → 0 < c → a * d ≡ b * c → Fraction false x a c → Fraction false x b d
rescaled {x} {a} {c} {b} {d} C e X = fraction (same_fraction x false a c b d C e (value_of X))

pub negated : {x : Float} {a c : ℕ} → Fraction false x a c → Fraction true (neg x) a c
negated {x} {a} {c} X =
    record { sign = true; signed = λ e. absurd (true≢false e); value = neg_value x false a c (value_of X) }

pub mul_rounded : (f : Format) {m : Bool} {x y : Float} {a c b d : ℕ} → 0 < c → 0 < d
    → Fraction m x a c → Fraction false y b d → Rounded f m (mul f x y) (a * b) (c * d)
mul_rounded f {m} {x} {y} {a} {c} {b} {d} C D X Y =
    record {
      sign = X.sign;
      signed = times m X.signed;
      is =
          mul_is f x y X.sign false a c b d C D X.value (value_of Y)
          ∙ ap (λ s. round f s (a * b) (c * d)) (like X.sign);
    }
  where
    times : (m : Bool) → Signed m X.sign a → Signed m X.sign (a * b)
    times false h = h
    times true h = λ e. rw (h e, zero-mul b)

    like : (s : Bool) → unlike s false ≡ s
    like true = refl
    like false = refl

pub add_rounded : (f : Format) {x y : Float} {a b c : ℕ} → 0 < c → b ≤ a → Fraction false x a c → Fraction true y b c
    → Rounded f false (add f x y) (a - b) c
unfolding sum
add_rounded f {x} {y} {a} {b} {c} C l X Y =
    record {
      sign = false;
      signed = refl;
      is = add_is f x y false Y.sign a b c C (value_of X) Y.value ∙ go Y.sign Y.signed;
    }
  where
    same : b ≡ 0 → a + b ≡ a - b
    same e = omega arith

    go : (t : Bool) → Signed true t b → sum f false a t b c ≡ round f false (a - b) c
    go true h = simp (le-ltb a b l)
    go false h = ap (λ z. round f false z c) (same (h refl))

pub sub_rounded : (f : Format) {x y : Float} {a b c : ℕ} → 0 < c → b ≤ a → Fraction false x a c → Fraction false y b c
    → Rounded f false (sub f x y) (a - b) c
unfolding sub
sub_rounded f C l X Y = add_rounded f C l X (negated Y)

-- the greater taken from the less
pub sub_rounded_under : (f : Format) {x y : Float} {a b c : ℕ} → 0 < c → a ≤ b
    → Fraction false x a c → Fraction false y b c → Rounded f true (sub f x y) (b - a) c
unfolding sub sum
sub_rounded_under f {x} {y} {a} {b} {c} C l X Y =
    record {
      sign = ltb a b;
      signed = λ e. none (ltb-false a b e);
      is = add_is f x (neg y) false true a b c C (value_of X) (neg_value y false b c (value_of Y)) ∙ go (ltb a b) refl;
    }
  where
    none : b ≤ a → b - a ≡ 0
    none h = omega arith

    same : b ≤ a → a - b ≡ b - a
    same h = omega arith

    go : (t : Bool) → ltb a b ≡ t → sum f false a true b c ≡ round f t (b - a) c
    go true e = simp e
    go false e = simp e (ap (λ z. round f false z c) (same (ltb-false a b e)))

-- ---- the constants of specs/Real.antt

pub zero_fraction : Fraction false +0 0 1
unfolding of_bits
zero_fraction = fraction (refl, refl)

pub half_fraction : Fraction false half 1 2
unfolding of_bits
half_fraction = fraction (refl, refl)

pub one_fraction : Fraction false one 1 1
unfolding of_bits
one_fraction = fraction (refl, refl)
