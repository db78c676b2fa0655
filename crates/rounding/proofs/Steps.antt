-- One rounded operation on doubles counted in units of the smallest positive one: the count of the result, a bound on
-- it, and how far it is from the exact result. By the law of Rounding at what Fractions gives; a part of a normal
-- number by that of Relative. Assumes nothing.
use mathlib.Core.Path.{◌≡◌, subst}
use Prim.Native.Nat.{ℕ, suc, ◌+◌, ◌-◌, ◌*◌, ◌^◌, ◌≤◌, ◌<◌, zero-le}
use native.Mathlib.Nat.{le_trans, mul_comm, mul_assoc, mul_left_comm, mul_right_comm, zero-mul, mul-one, mul-pos}
use native.Mathlib.Nat.{mul-le-mul_left, mul-le-mul_right, le_of_mul-le-mul_right, pow-suc, zero-lt-suc}
use native.Mathlib.Omega.{arith}
use mathlib.Core.Bool.{Bool, true, false}
use lib.Arith.{le-zero}
use lib.Pow.{pow-add, pow_pos}
use lib.Ieee.{Float, Format, prec, emax, low, round, add, sub, mul}
use Rattle.rounding.specs.Exact.{Near}
use Rattle.rounding.proofs.Near.{near_times, near_cancel}
use Rattle.rounding.proofs.Fractions.{Signed, Fraction, Rounded, fraction, value_of, mul_is, mul_rounded}
use Rattle.rounding.proofs.Fractions.{add_rounded, sub_rounded, sub_rounded_under}
use Rattle.rounding.proofs.Rounding.{RoundedNear, round_near}
use Rattle.rounding.proofs.Relative.{Held, round_below}

-- A format of 53 digits, of which u units make 1, and w units a grain, 2 ^ -57. They are variables, so that nothing
-- computes with 2 ^ 1074.
pub record Scale (f : Format) (u w : ℕ) : Type 0 where
  pub exponent : ℕ
  pub unit_is : 2 ^ low f ≡ u
  pub grain_is : 2 ^ exponent ≡ w
  pub grains : u ≡ 2 ^ 57 * w
  pub digits : prec f ≡ 53
  pub room : 60 + exponent < low f + suc (emax f)

-- One operation: x is `count` units, or minus that where m is true, and v / c units is the exact result. A result of at
-- most 2 ^ (j - 3), which is 2 ^ (54 + j) grains, is off by at most 2 ^ j grains.
pub record Step (u w : ℕ) (m : Bool) (x : Float) (v c j : ℕ) : Type 0 where
  pub count : ℕ
  pub is : Fraction m x count u
  pub top : count ≤ 2 ^ (54 + j) * w
  pub near : Near (count * c) v (2 ^ j * (w * c))
  pub double : count * c ≤ v * 2

pub near_whole : {u w : ℕ} {m : Bool} {x : Float} {v j : ℕ} (T : Step u w m x v 1 j) → Near T.count v (2 ^ j * w)
near_whole {w = w} T = rw (mul-one T.count, mul-one w) at T.near

-- Several operations: x is `count` units, or minus that where m is true, of magnitude at most l, and within k grains of
-- v / c units.
pub record Within (u w : ℕ) (m : Bool) (x : Float) (v c k l : ℕ) : Type 0 where
  pub count : ℕ
  pub is : Fraction m x count u
  pub top : count ≤ l * u
  pub near : Near (count * c) v (k * (w * c))

-- A part of a number of n units: x is `count` units, within 2 ^ -53 of n units of the exact product n * b / u, where
-- the b units are at most 1.
pub record Part (u : ℕ) (x : Float) (n b : ℕ) : Type 0 where
  pub count : ℕ
  pub is : Fraction false x count u
  pub near : Near (count * u * 2 ^ 53) (n * b * 2 ^ 53) (n * u)

module _ {f : Format} {u w : ℕ} (S : Scale f u w) where
  pub unit_pos : 0 < u
  unit_pos = subst (λ x. 0 < x) S.unit_is (pow_pos (low f))

  pub top_of : {m : Bool} {x : Float} {v c j : ℕ} (l : ℕ) → 2 ^ (54 + j) ≤ l * 2 ^ 57 → (T : Step u w m x v c j)
      → T.count ≤ l * u
  top_of l h T = le_trans T.top (rw (S.grains, ← mul_assoc l (2 ^ 57) w) (mul-le-mul_right w h))

  -- ---- the law of rounding in grains

  -- its i, for a result of at most 2 ^ (54 + j) grains
  index : ℕ → ℕ
  index j = suc j + S.exponent

  top_is : (j : ℕ) → 2 ^ (prec f + index j) ≡ 2 ^ (54 + j) * w
  unfolding index
  top_is j = rw (sum (prec f) S.digits, pow-add 2 (54 + j) S.exponent, S.grain_is)
    where
      sum : (p : ℕ) → p ≡ 53 → p + (suc j + S.exponent) ≡ 54 + j + S.exponent
      sum p h = omega arith

  error_is : (den j : ℕ) → den * 2 ^ index j ≡ 2 ^ j * w * den * 2
  unfolding index
  error_is den j =
      rw (pow-add 2 (suc j) S.exponent, S.grain_is, pow-suc) (simp (mul_assoc, mul_comm, mul_left_comm))

  -- of num / den, which is v / c units
  in_grains : {m : Bool} {x : Float} {num den : ℕ} (v c j : ℕ) (R : Rounded f m x num den)
      → RoundedNear f R.sign num den (index j) → 0 < den → num * u * c ≡ v * den → Step u w m x v c j
  in_grains {m} {x} {num} {den} v c j R N D e =
      let g = N.units in
      let t = 2 ^ j * w in
      let near : Near (g * den) (num * u) (t * den) =
      halve (g * den) (num * u) (den * 2 ^ index j) (t * den) (error_is den j) (rw S.unit_is at N.near) in
      let double : g * den ≤ num * u * 2 = rw S.unit_is at N.double in
      let near-c : Near (g * c * den) (v * den) (t * c * den) =
      rw (mul_right_comm g c den, ← e, mul_right_comm t c den) (near_times (t * den) c near) in
      let double-c : g * den * c ≤ num * u * c * 2 = rw (mul_right_comm (num * u) 2 c) at (mul-le-mul_right c double) in
      record {
        count = g;
        is =
            record {
              sign = R.sign;
              signed = signed m R.signed;
              value = rw R.is (rw S.unit_is at N.value);
            };
        top = rw (top_is j) at N.top;
        near = rw (← mul_assoc (2 ^ j) w c) (near_cancel (g * c) v (t * c) den D near-c);
        double = le_of_mul-le-mul_right (rw (mul_right_comm g c den, mul_right_comm v 2 den, ← e) double-c) D;
      }
    where
      halve : (a b d e : ℕ) → d ≡ e * 2 → Near (a * 2) (b * 2) d → Near a b e
      halve a b d e p h = omega arith

      -- what is rounded from 0 is 0
      signed : (m : Bool) → Signed m R.sign num → Signed m R.sign N.units
      signed false h = h
      signed true h = λ z. le-zero (le_of_mul-le-mul_right (simp zero-mul (simp (h z, zero-mul) at N.double)) D)

  pub step : {m : Bool} {x : Float} {num den : ℕ} (v c j : ℕ) → Rounded f m x num den → 0 < den → 0 < c → j ≤ 6
      → num * u * c ≡ v * den → v ≤ 2 ^ (54 + j) * w * c → Step u w m x v c j
  unfolding index
  step {num = num} {den} v c j R D C k e l =
      let room = under (prec f) (low f + suc (emax f)) S.digits S.room in
      in_grains v c j R (round_near f R.sign num den (index j) D room top) D e
    where
      under : (p z : ℕ) → p ≡ 53 → 60 + S.exponent < z → p + (suc j + S.exponent) < z
      under p z h g = omega arith

      top : num * 2 ^ low f ≤ 2 ^ (prec f + index j) * den
      top =
          rw (S.unit_is, top_is j)
          (le_of_mul-le-mul_right (rw (e, mul_right_comm (2 ^ (54 + j) * w) den c) (mul-le-mul_right den l)) C)

  -- where the exact result is v units
  whole : {m : Bool} {x : Float} {v : ℕ} (j : ℕ) → Rounded f m x v u → j ≤ 6 → v ≤ 2 ^ (54 + j) * w → Step u w m x v 1 j
  whole {v = v} j R k l = step v 1 j R unit_pos (zero-lt-suc 0) k (mul-one (v * u)) (rw (mul-one (2 ^ (54 + j) * w)) l)

  -- ---- the operations: each asks for a bound on its exact result

  pub mul_units : {m : Bool} {x y : Float} {a b : ℕ} (j : ℕ) → Fraction m x a u → Fraction false y b u → j ≤ 6
      → a * b ≤ 2 ^ (54 + j) * w * u → Step u w m (mul f x y) (a * b) u j
  mul_units {a = a} {b} j X Y k l =
      let R = mul_rounded f unit_pos unit_pos X Y in
      step (a * b) u j R (mul-pos unit_pos unit_pos) unit_pos k (mul_assoc (a * b) u u) l

  pub mul-number : {m : Bool} {x y : Float} {a b : ℕ} (j : ℕ) → Fraction m x a u → Fraction false y b 1 → j ≤ 6
      → a * b ≤ 2 ^ (54 + j) * w → Step u w m (mul f x y) (a * b) 1 j
  mul-number j X Y k l = whole j (rw (mul-one u) at (mul_rounded f unit_pos (zero-lt-suc 0) X Y)) k l

  pub add_units : {x y : Float} {a b : ℕ} (j : ℕ) → Fraction false x a u → Fraction true y b u → b ≤ a → j ≤ 6
      → a - b ≤ 2 ^ (54 + j) * w → Step u w false (add f x y) (a - b) 1 j
  add_units j X Y o k l = whole j (add_rounded f unit_pos o X Y) k l

  pub sub_units : {x y : Float} {a b : ℕ} (j : ℕ) → Fraction false x a u → Fraction false y b u → b ≤ a → j ≤ 6
      → a - b ≤ 2 ^ (54 + j) * w → Step u w false (sub f x y) (a - b) 1 j
  sub_units j X Y o k l = whole j (sub_rounded f unit_pos o X Y) k l

  pub sub_units_under : {x y : Float} {a b : ℕ} (j : ℕ) → Fraction false x a u → Fraction false y b u → a ≤ b → j ≤ 6
      → b - a ≤ 2 ^ (54 + j) * w → Step u w true (sub f x y) (b - a) 1 j
  sub_units_under j X Y o k l = whole j (sub_rounded_under f unit_pos o X Y) k l

  -- ---- parts

  pub zero_part : {x y : Float} {b : ℕ} → Fraction false x 0 u → Fraction false y b u → Part u (mul f x y) 0 b
  zero_part {b = b} X Y =
      let T = mul_units 0 X Y zero-le (rw (zero-mul b) zero-le) in
      record { count = T.count; is = T.is; near = near T.count T.double }
    where
      near : (g : ℕ) → g * u ≤ 0 * b * 2 → Near (g * u * 2 ^ 53) (0 * b * 2 ^ 53) (0 * u)
      near g l = omega arith

  -- n units are a number of f, and a normal one
  pub normal_part : {x y : Float} {n b : ℕ} → Held f n → 2 ^ 52 ≤ n → b ≤ u
      → Fraction false x n u → Fraction false y b u → Part u (mul f x y) n b
  normal_part {x} {y} {n} {b} N L B X Y =
      let U = unit_pos in
      let R = round_below f n (normal S.digits) N (n * b) (u * u) (mul-pos U U) under in
      let e : mul f x y ≡ round f false (n * b) (u * u) =
      mul_is f x y false false n u b u U U (value_of X) (value_of Y) in
      record {
        count = R.units;
        is = fraction (rw e (rw S.unit_is at R.value));
        near = near R.units (rw (S.unit_is, S.digits) at R.near);
      }
    where
      normal : prec f ≡ 53 → 2 ^ (prec f - 1) ≤ n
      normal e = rw e L

      under : n * b * 2 ^ low f ≤ n * (u * u)
      under = rw (S.unit_is, ← mul_assoc n u u) (mul-le-mul_right u (mul-le-mul_left n B))

      near : (g : ℕ) → Near (g * (u * u) * 2 ^ 53) (n * b * u * 2 ^ 53) (n * (u * u))
          → Near (g * u * 2 ^ 53) (n * b * 2 ^ 53) (n * u)
      near g h =
          let l : g * u * 2 ^ 53 * u ≡ g * (u * u) * 2 ^ 53 = rw (mul_right_comm (g * u) (2 ^ 53) u, mul_assoc g u u) in
          let r : n * b * 2 ^ 53 * u ≡ n * b * u * 2 ^ 53 = mul_right_comm (n * b) (2 ^ 53) u in
          near_cancel (g * u * 2 ^ 53) (n * b * 2 ^ 53) (n * u) u unit_pos (rw (l, r, mul_assoc n u u) h)
