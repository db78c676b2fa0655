-- The law of rounding relative to a normal number of the format: what is at most that number is rounded by 2 ^ -prec of
-- it at most. A number is rounded to itself, so what is at most it does not become infinite. Assumes nothing.
use mathlib.Core.Path.{◌≡◌, refl, sym, ◌∙◌}
use mathlib.Core.Logic.{◌⊎◌, inl, inr, ⊎_elim}
use Prim.Native.Nat.{ℕ, suc, ◌+◌, ◌-◌, ◌*◌, ◌^◌, ◌≤◌, ◌<◌}
use native.Mathlib.Nat.{lt_of_le_of_lt, lt_of_lt_of_le, lt_of_not-le, not-le_of_lt, eq-or-lt_of_le}
use native.Mathlib.Nat.{add-sub_of_le, mul_comm, mul_assoc, mul-le-mul_left, mul-lt-mul_of_pos_right}
use native.Mathlib.Nat.{le_of_mul-le-mul_right, pow-succ'}
use native.Mathlib.Omega.{arith}
use mathlib.Core.Bool.{Bool, true, false}
use lib.Dec.{T, ltb}
use lib.Pow.{pow-add, pow_pos, pow_mono, pow-lt}
use lib.Ieee.{inf, Format, prec, low, size, units, round, le}
use lib.Ieee.Bits.{is_true}
use lib.Ieee.Digits.{size-lt, size_reaches}
use lib.Ieee.Fits.{two, round_is}
use lib.Ieee.Exact.{HasValue, round_exact}
use lib.Ieee.Order.{drop, kept, round_mono}
use lib.Ieee.Scale.{grid, overflow, round_val}
use borrow.Author.Tests.{ltb-true, leb-true}
use Rattle.rounding.specs.Exact.{Near}
use Rattle.rounding.proofs.Near.{near_weak, near_times}
use Rattle.rounding.proofs.Fractions.{at_fraction, le_is}
use Rattle.rounding.proofs.Rounding.{kept_le, grid_near}

-- ---- a rounded fraction is finite, or an infinity

pub finite_or_infinite : (f : Format) (a c : ℕ) → (grid f a c < overflow f) ⊎ (round f false a c ≡ inf false)
unfolding units
finite_or_infinite f a c = go (ltb (grid f a c) (overflow f)) refl
  where
    go : (t : Bool) → ltb (grid f a c) (overflow f) ≡ t → (grid f a c < overflow f) ⊎ (round f false a c ≡ inf false)
    go true e = inl (ltb-true (grid f a c) (overflow f) e)
    go false e = inr (round_is f false a c ∙ rw e)

-- ---- the numbers of a format

-- n units are a finite value of f: at most prec digits, and 2 ^ prec, in their place
pub record Held (f : Format) (n : ℕ) : Type 0 where
  pub digits : ℕ
  pub place : ℕ
  pub is : n ≡ digits * 2 ^ place
  pub few : digits ≤ 2 ^ prec f
  pub finite : n < overflow f

pub rounded_held : (f : Format) (a c : ℕ) → grid f a c < overflow f → Held f (grid f a c)
rounded_held f a c l =
    let n = a * 2 ^ low f in
    record {
      digits = kept (prec f) n c;
      place = drop (prec f) n c;
      is = refl;
      few = kept_le (prec f) n c;
      finite = l;
    }

module _ {f : Format} {z : ℕ} (Z : Held f z) where
  -- it is rounded to itself
  again : HasValue (round f false z (2 ^ low f)) false z (2 ^ low f)
  again = ⊎_elim top below (eq-or-lt_of_le Z.few)
    where
      less : (p : ℕ) → 2 ≤ p → p - 1 < p
      less p h = omega arith

      sums : (p j : ℕ) → 2 ≤ p → p - 1 + suc j ≡ p + j
      sums p j h = omega arith

      exact : (q j : ℕ) → q < 2 ^ prec f → z ≡ q * 2 ^ j → HasValue (round f false z (2 ^ low f)) false z (2 ^ low f)
      exact q j l e =
          round_exact f false z (2 ^ low f) q j (pow_pos (low f)) l (rw (← e) Z.finite) (rw (← e) refl)

      below : Z.digits < 2 ^ prec f → HasValue (round f false z (2 ^ low f)) false z (2 ^ low f)
      below l = exact Z.digits Z.place l Z.is

      top : Z.digits ≡ 2 ^ prec f → HasValue (round f false z (2 ^ low f)) false z (2 ^ low f)
      top e =
          let p = prec f in
          let j = Z.place in
          let s : 2 ^ p * 2 ^ j ≡ 2 ^ (p - 1) * 2 ^ suc j =
          rw (← pow-add 2 p j, ← pow-add 2 (p - 1) (suc j), sums p j (two f)) in
          exact (2 ^ (p - 1)) (suc j) (pow-lt (less p (two f))) (Z.is ∙ rw e s)

  -- and what is at most it is finite
  pub below_finite : (num den : ℕ) → 0 < den → num * 2 ^ low f ≤ z * den → grid f num den < overflow f
  unfolding le
  below_finite num den D l = ⊎_elim (λ h. h) (λ e. absurd (none e)) (finite_or_infinite f num den)
    where
      none : round f false num den ≡ inf false → ⊥
      none e =
          let o : T (le (round f false num den) (round f false z (2 ^ low f))) =
          round_mono f num den z (2 ^ low f) D (pow_pos (low f)) l in
          at_fraction (λ x. T (le (inf false) x) → ⊥) (round f false z (2 ^ low f)) false z (2 ^ low f) again
          (λ m e v h. h) (rw e at o)

  -- and what is at least it is rounded to at least it
  pub at_least : (num den : ℕ) → 0 < den → z * den ≤ num * 2 ^ low f → grid f num den < overflow f → z ≤ grid f num den
  at_least num den D l h =
      let u = 2 ^ low f in
      let U = pow_pos (low f) in
      let g = grid f num den in
      let o = round_mono f z u num den U D l in
      let t = le_is (round f false z u) (round f false num den) z u g u U U again (round_val f num den h) in
      le_of_mul-le-mul_right (leb-true (z * u) (g * u) (sym t ∙ is_true _ o)) U

-- ---- the law

-- num / den is at most z units, and off by at most 2 ^ -prec of these
pub record RoundedBelow (f : Format) (num den z : ℕ) : Type 0 where
  pub units : ℕ
  pub value : HasValue (round f false num den) false units (2 ^ low f)
  pub near : Near (units * den * 2 ^ prec f) (num * 2 ^ low f * 2 ^ prec f) (z * den)

module _ (f : Format) (z : ℕ) (normal : 2 ^ (prec f - 1) ≤ z) where
  all_digits : prec f ≤ size z
  all_digits = go (prec f) (two f) (lt_of_not-le (λ g. not-le_of_lt (lt_of_lt_of_le (size-lt z) (pow_mono g)) normal))
    where
      go : (p : ℕ) → 2 ≤ p → p - 1 < size z → p ≤ size z
      go p h l = omega arith

  -- how many more digits z has than f keeps
  more : ℕ
  more = size z - prec f

  under : z < 2 ^ (prec f + more)
  unfolding more
  under = rw (add-sub_of_le all_digits) (size-lt z)

  -- the first of them counts 2 ^ (prec + more - 1) units, which is at most z
  leading : 2 ^ more * 2 ^ (prec f - 1) ≤ z
  unfolding more
  leading =
      rw (← pow-add 2 more (prec f - 1)) (size_reaches z (more + (prec f - 1)) (go (prec f) (two f) all_digits))
    where
      go : (p : ℕ) → 2 ≤ p → p ≤ size z → size z - p + (p - 1) < size z
      go p h l = omega arith

  pub round_below : Held f z → (num den : ℕ) → 0 < den → num * 2 ^ low f ≤ z * den → RoundedBelow f num den z
  round_below Z num den D l =
      let top : num * 2 ^ low f < 2 ^ (prec f + more) * den = lt_of_le_of_lt l (mul-lt-mul_of_pos_right under D) in
      record {
        units = grid f num den;
        value = round_val f num den (below_finite Z num den D l);
        near = weak (grid f num den * den) (num * 2 ^ low f) (grid_near f num den more D top).0;
      }
    where
      next : (p : ℕ) → 2 ≤ p → suc (p - 1) ≡ p
      next p h = omega arith

      whole : (x : ℕ) → x * 2 * 2 ^ (prec f - 1) ≡ x * 2 ^ prec f
      whole x = rw (mul_assoc x 2 (2 ^ (prec f - 1)), ← pow-succ' 2 (prec f - 1), next (prec f) (two f))

      weak : (x y : ℕ) → Near (x * 2) (y * 2) (den * 2 ^ more) → Near (x * 2 ^ prec f) (y * 2 ^ prec f) (z * den)
      weak x y h =
          rw (← whole x, ← whole y)
          (near_weak (den * 2 ^ more * 2 ^ (prec f - 1)) (z * den)
          (rw (mul_assoc den (2 ^ more) (2 ^ (prec f - 1)), mul_comm z den) (mul-le-mul_left den leading))
          (near_times (den * 2 ^ more) (2 ^ (prec f - 1)) h))
