-- The exact weight over fractions is the same for the same fraction, and changes at most twice as fast as q. The second
-- is proved from n to n + 1, by a polynomial inequality in each piece, and summed over the steps. Assumes nothing.
use mathlib.Core.Path.{◌≡◌, ap}
use Prim.Native.Nat.{ℕ, zero, suc, ◌+◌, ◌-◌, ◌*◌, ◌≤◌}
use native.Mathlib.Nat.{add-zero, add-suc, mul_comm, add-mul, mul-le-mul, mul-le-mul_left, mul-le-mul_right}
use native.Mathlib.Decide.{dec_le}
use native.Mathlib.Omega.{arith}
use Rattle.rounding.specs.Exact.{Near}
use Rattle.rounding.proofs.Near.{near_weak}
use Rattle.cubic_spline.specs.Exact.{exact_weight}
use Rattle.cubic_spline.proofs.Errors.{four_times}
use Rattle.cubic_spline.proofs.Exact.{near_weight_whole, far_weight_whole, beyond_weight_whole}

-- ---- n c / (u c) is n / u: both lie in one piece, and its law holds of both

module _ (c u n : ℕ) where
  abbrev Scaled : Type 0
  Scaled = exact_weight (u * c) (n * c) ≡ exact_weight u n * (c * c * c)

  near_scaled : n * 2 ≤ u → Scaled
  near_scaled h =
      let l : n * 2 * c ≤ u * c = mul-le-mul_right c h in
      let a = ap (λ z. z * (c * c * c)) (near_weight_whole u n h) in
      let b = near_weight_whole (u * c) (n * c) (omega arith) in
      omega arith

  far_scaled : u ≤ n * 2 → n ≤ u → Scaled
  far_scaled h l =
      let k = u - n in
      let e : k + n ≡ u = omega arith in
      let f : k * c + n * c ≡ u * c = rw (← add-mul k n c, e) in
      let g : u * c ≤ n * 2 * c = mul-le-mul_right c h in
      rw (far_weight_whole u n k h e, far_weight_whole (u * c) (n * c) (k * c) (omega arith) f) (omega arith)

  beyond_scaled : u ≤ n → Scaled
  beyond_scaled h =
      rw (beyond_weight_whole u n h, beyond_weight_whole (u * c) (n * c) (mul-le-mul_right c h)) (omega arith)

  pub weight_scaled : exact_weight (u * c) (n * c) ≡ exact_weight u n * (c * c * c)
  weight_scaled =
      elim (dec_le (n * 2) u) [
        | yes h ↦ near_scaled h
        | no h ↦ elim (dec_le n u) [ yes l ↦ far_scaled (omega arith) l | no l ↦ beyond_scaled (omega arith) ]
      ]

-- ---- from n to n + 1 the weight falls, by at most 2 u ^ 2

abbrev StepNear : ℕ → ℕ → Type 0
StepNear u n = Near (exact_weight u n) (exact_weight u (suc n)) (2 * (u * u))

-- up to 1 / 2 it falls by 6 (2 n + 1) u - 6 (3 n ^ 2 + 3 n + 1), which s bounds from above and t from below
near_step : (u n : ℕ) → suc n * 2 ≤ u → StepNear u n
near_step u n h =
    let a = near_weight_whole u n (omega arith) in
    let b = near_weight_whole u (suc n) h in
    let m = 6 * n + 3 in
    let s : 4 * (2 * u * m) ≤ (2 * u + m) * (2 * u + m) = four_times (2 * u) m in
    let t : (2 * n + 1) * (suc n * 2) ≤ (2 * n + 1) * u = mul-le-mul_left (2 * n + 1) h in
    omega arith

-- across 1 / 2, where u is odd, by 6 n ^ 2 + 6 n + 1
half_step : (n : ℕ) → StepNear (suc (n * 2)) n
half_step n =
    let a = near_weight_whole (suc (n * 2)) n (omega arith) in
    let b = far_weight_whole (suc (n * 2)) (suc n) n (omega arith) (omega arith) in
    omega arith

-- from 1 / 2 to 1 by 6 k ^ 2 + 6 k + 2, where k is u - (n + 1)
far_step : (u n : ℕ) → u ≤ n * 2 → suc n ≤ u → StepNear u n
far_step u n h l =
    let k = u - suc n in
    let a = far_weight_whole u n (suc k) h (omega arith) in
    let b = far_weight_whole u (suc n) k (omega arith) (omega arith) in
    let K : suc k * 2 ≤ u = omega arith in
    let s : suc k * 2 * (suc k * 2) ≤ u * u = mul-le-mul K K in
    omega arith

beyond_step : (u n : ℕ) → u ≤ n → StepNear u n
beyond_step u n h = rw (beyond_weight_whole u n h, beyond_weight_whole u (suc n) (omega arith)) (omega arith)

each_step : (u n : ℕ) → StepNear u n
each_step u n =
    elim (dec_le (suc n * 2) u) [
      | yes h ↦ near_step u n h
      | no h ↦
          elim (dec_le u (n * 2)) [
            | yes l ↦ elim (dec_le u n) [ yes m ↦ beyond_step u n m | no m ↦ far_step u n l (omega arith) ]
            | no l ↦ let e : u ≡ suc (n * 2) = omega arith in rw e (half_step n)
          ]
    ]

-- ---- any number of steps

steps_near : (u n k : ℕ) → Near (exact_weight u n) (exact_weight u (n + k)) (2 * (k * (u * u)))
steps_near u n zero = rw (add-zero n) (omega arith)
steps_near u n (suc k) =
    let a = steps_near u n k in
    let b = each_step u (n + k) in
    rw (add-suc n k) (omega arith)

-- weights of q's that are d / u apart are at most 2 d / u apart
pub weight_steep : (u a b d : ℕ) → Near a b d → Near (exact_weight u a) (exact_weight u b) (2 * (d * (u * u)))
weight_steep u a b d h =
    elim (dec_le a b) [
      | yes l ↦ upward a b l h.1
      | no l ↦ let s = upward b a (omega arith) h.0 in (s.1, s.0)
    ]
  where
    upward : (a b : ℕ) → a ≤ b → b ≤ a + d → Near (exact_weight u a) (exact_weight u b) (2 * (d * (u * u)))
    upward a b l m =
        let k = b - a in
        let e : a + k ≡ b = omega arith in
        let f : k * (u * u) ≤ d * (u * u) = mul-le-mul_right (u * u) (omega arith) in
        near_weak (2 * (k * (u * u))) (2 * (d * (u * u))) (omega arith) (rw e at (steps_near u a k))

-- the same for n / u and m / v, which are d / (u v) apart
pub weight_near : (u v n m d : ℕ) → Near (n * v) (m * u) d
    → Near (exact_weight u n * (v * v * v)) (exact_weight v m * (u * u * u)) (2 * (d * (u * v * (u * v))))
weight_near u v n m d h =
    let e : exact_weight (u * v) (m * u) ≡ exact_weight v m * (u * u * u) = rw (mul_comm u v) (weight_scaled u v m) in
    rw (← weight_scaled v u n, ← e) (weight_steep (u * v) (n * v) (m * u) d h)
