-- How the errors of single operations add up to a shape's, on whole numbers: u units make 1, w a grain, q is n units.
-- What later operations make of an error is bounded first; one sum of inequalities closes each law. Assumes nothing.
use mathlib.Core.Path.{◌≡◌, ap, ◌∙◌}
use Prim.Native.Nat.{ℕ, ◌+◌, ◌-◌, ◌*◌, ◌^◌, ◌≤◌, ◌<◌}
use native.Mathlib.Nat.{add_comm, mul_comm, mul_assoc, mul_left_comm, mul_right_comm, mul-sub, mul-le-mul}
use native.Mathlib.Nat.{mul-le-mul_left, mul-le-mul_right, le_of_mul-le-mul_right, mul-pos}
use native.Mathlib.Decide.{dec_le}
use native.Mathlib.Omega.{arith}
use Rattle.rounding.specs.Exact.{Near}
use Rattle.rounding.proofs.Near.{near_times, sub-times}

-- ---- products with a number n that is at most a half

pub half-times : (x n u : ℕ) → n * 2 ≤ u → x * n * 2 ≤ x * u
half-times x n u h = rw mul_assoc (mul-le-mul_left x h)

pub half_top : (x n u w c : ℕ) → n * 2 ≤ u → x ≤ c * 2 * w → x * n ≤ c * w * u
half_top x n u w c N X =
    let a : x * n * 2 ≤ x * u = half-times x n u N in
    let b : x * u ≤ c * 2 * w * u = mul-le-mul_right u X in
    let d : c * 2 * w * u ≡ c * w * u * 2 = simp (mul_assoc, mul_comm, mul_left_comm) in
    omega arith

-- ---- the drop n ^ 2 u - n ^ 3 is at most an eighth of u ^ 3

-- four times a product is at most the square of the sum
pub four_times : (x y : ℕ) → 4 * (x * y) ≤ (x + y) * (x + y)
four_times x y = elim (dec_le x y) [ yes h ↦ go x y h | no h ↦ rw (mul_comm x y, add_comm x y) (go y x (omega arith)) ]
  where
    -- k is how much more the second number is than the first
    apart : (x k : ℕ) → 4 * (x * (x + k)) ≤ (x + (x + k)) * (x + (x + k))
    apart x k = omega arith

    go : (x y : ℕ) → x ≤ y → 4 * (x * y) ≤ (x + y) * (x + y)
    go x y h = let e : x + (y - x) ≡ y = omega arith in rw e at (apart x (y - x))

pub eighth : (n u : ℕ) → n * 2 ≤ u → 8 * (n * n * u - n * n * n) ≤ u * u * u
eighth n u N =
    let e : n + (u - n) ≡ u = omega arith in
    let f : 4 * (n * (u - n)) ≤ u * u = rw e at (four_times n (u - n)) in
    let g : n * 2 * (4 * (n * (u - n))) ≤ u * (u * u) = mul-le-mul N f in
    let h : n * 2 * (4 * (n * (u - n))) ≡ 2 * (4 * (n * n * (u - n))) = simp (mul_assoc, mul_comm, mul_left_comm) in
    rw (← mul-sub (n * n) u n, mul_assoc u u u) (omega arith)

-- ---- an error of k, times c

scaled : {x y : ℕ} (k w c : ℕ) → Near x y (k * w) → Near (x * c) (y * c) (k * (w * c))
scaled k w c h = rw (← mul_assoc k w c) (near_times (k * w) c h)

module _ (u w : ℕ) where
  square_scaled : {x y : ℕ} (k : ℕ) → Near x y (k * w) → Near (x * (u * u)) (y * (u * u)) (k * (w * (u * u)))
  square_scaled k h = scaled k w (u * u) h

  -- of a product, which is over u already
  over_square : {v : ℕ} (g k : ℕ) → Near (g * u) v (k * (w * u)) → Near (g * (u * u)) (v * u) (k * (w * (u * u)))
  over_square g k h = rw (← mul_assoc g u u, ← mul_assoc w u u) (scaled k (w * u) u h)

  -- ---- the weight up to 1 / 2: a is q2, b is q2 × q, and d is a - b

  pub drop_error : (n a b d : ℕ) → n * 2 ≤ u → Near (a * u) (n * n) (2 * (w * u)) → Near (b * u) (a * n) (1 * (w * u))
      → Near d (a - b) (2 * w) → Near (d * (u * u)) (n * n * u - n * n * n) (6 * (w * (u * u)))
  drop_error n a b d N A B D =
      let A2 : Near (a * (u * u)) (n * n * u) (2 * (w * (u * u))) = over_square a 2 A in
      let A3 : Near (a * u * n) (n * n * n) (2 * (w * u * n)) = scaled 2 (w * u) n A in
      let l : w * u * n * 2 ≤ w * u * u = half-times (w * u) n u N in
      let W : w * u * u ≡ w * (u * u) = mul_assoc w u u in
      let B2 : Near (b * (u * u)) (a * n * u) (1 * (w * (u * u))) = over_square b 1 B in
      let s : a * n * u ≡ a * u * n = mul_right_comm a n u in
      let D2 : Near (d * (u * u)) ((a - b) * (u * u)) (2 * (w * (u * u))) = square_scaled 2 D in
      let t : (a - b) * (u * u) ≡ a * (u * u) - b * (u * u) = sub-times a b (u * u) in
      omega arith

  -- six times the computed drop is at most 1
  pub drop_top : (n d : ℕ) → u ≡ 2 ^ 57 * w → 0 < u → n * 2 ≤ u
      → Near (d * (u * u)) (n * n * u - n * n * n) (6 * (w * (u * u))) → d * 6 ≤ u
  drop_top n d F U N D =
      let e : 8 * (n * n * u - n * n * n) ≤ u * u * u = eighth n u N in
      let k : u * u * u ≡ 2 ^ 57 * (w * (u * u)) = ap (λ z. z * u * u) F ∙ simp mul_assoc in
      let l : d * (u * u) * 6 ≤ u * u * u = omega arith in
      le_of_mul-le-mul_right (rw (mul_right_comm d 6 (u * u), ← mul_assoc u u u) l) (mul-pos U U)

  -- p is d × 6, and r is 1 - p
  pub near_weight_error : (n d p r : ℕ) → Near (d * (u * u)) (n * n * u - n * n * n) (6 * (w * (u * u)))
      → Near p (d * 6) (8 * w) → Near r (u - p) (8 * w)
      → Near (r * (u * u)) (u * u * u - 6 * (n * n * u - n * n * n)) (52 * (w * (u * u)))
  near_weight_error n d p r D P R =
      let P2 : Near (p * (u * u)) (d * 6 * (u * u)) (8 * (w * (u * u))) = square_scaled 8 P in
      let s : d * 6 * (u * u) ≡ d * (u * u) * 6 = mul_right_comm d 6 (u * u) in
      let R2 : Near (r * (u * u)) ((u - p) * (u * u)) (8 * (w * (u * u))) = square_scaled 8 R in
      let t : (u - p) * (u * u) ≡ u * u * u - p * (u * u) = rw (sub-times u p (u * u), mul_assoc u u u) in
      omega arith

  -- ---- from 1 / 2 to 1: t is 1 - q, of which k is the exact count, and s is t × t

  pub square_error : (k t s : ℕ) → k * 2 ≤ u → t * 2 ≤ u → Near t k (4 * w) → Near (s * u) (t * t) (2 * (w * u))
      → Near (s * u) (k * k) (6 * (w * u))
  square_error k t s K T N S =
      let T1 : Near (t * t) (k * t) (4 * (w * t)) = scaled 4 w t N in
      let T2 : Near (t * k) (k * k) (4 * (w * k)) = scaled 4 w k N in
      let a : w * t * 2 ≤ w * u = half-times w t u T in
      let b : w * k * 2 ≤ w * u = half-times w k u K in
      let c : k * t ≡ t * k = mul_comm k t in
      omega arith

  -- c is s × t, and r is c × 2
  pub far_weight_error : (k t s c r : ℕ) → k * 2 ≤ u → t * 2 ≤ u → Near t k (4 * w) → Near (s * u) (k * k) (6 * (w * u))
      → Near (c * u) (s * t) (1 * (w * u)) → Near r (c * 2) (2 * w)
      → Near (r * (u * u)) (2 * (k * k * k)) (12 * (w * (u * u)))
  far_weight_error k t s c r K T N S C R =
      let S2 : Near (s * u * t) (k * k * t) (6 * (w * u * t)) = scaled 6 (w * u) t S in
      let a : w * u * t * 2 ≤ w * u * u = half-times (w * u) t u T in
      let W : w * u * u ≡ w * (u * u) = mul_assoc w u u in
      let N2 : Near (t * k * k) (k * k * k) (4 * (w * k * k)) = scaled 4 (w * k) k (scaled 4 w k N) in
      let b : w * k * k * 2 ≤ w * k * u = half-times (w * k) k u K in
      let b' : w * u * k * 2 ≤ w * u * u = half-times (w * u) k u K in
      let d : w * k * u ≡ w * u * k = mul_right_comm w k u in
      let e : k * k * t ≡ t * k * k = mul_right_comm k k t ∙ ap (λ z. z * k) (mul_comm k t) in
      let C2 : Near (c * (u * u)) (s * t * u) (1 * (w * (u * u))) = over_square c 1 C in
      let f : s * t * u ≡ s * u * t = mul_right_comm s t u in
      let R2 : Near (r * (u * u)) (c * 2 * (u * u)) (2 * (w * (u * u))) = square_scaled 2 R in
      let g : c * 2 * (u * u) ≡ c * (u * u) * 2 = mul_right_comm c 2 (u * u) in
      omega arith

  -- r is s × 6
  pub far_slope_error : (k s r : ℕ) → Near (s * u) (k * k) (6 * (w * u)) → Near r (s * 6) (16 * w)
      → Near (r * u) (6 * (k * k)) (52 * (w * u))
  far_slope_error k s r S R =
      let R1 : Near (r * u) (s * 6 * u) (16 * (w * u)) = scaled 16 w u R in
      let c : s * 6 * u ≡ s * u * 6 = mul_right_comm s 6 u in
      omega arith

  -- ---- the slope up to 1 / 2: a is q × 3, s is 2 - a, t is s × q, and r is t × 6

  pub near_slope_error : (n a s t r : ℕ) → n * 2 ≤ u → Near a (n * 3) (16 * w) → Near s (2 * u - a) (16 * w)
      → Near (t * u) (s * n) (8 * (w * u)) → Near r (t * 6) (64 * w)
      → Near (r * u) (6 * ((2 * u - 3 * n) * n)) (208 * (w * u))
  near_slope_error n a s t r N A S T R =
      let S1 : Near s (2 * u - 3 * n) (32 * w) = omega arith in
      let S2 : Near (s * n) ((2 * u - 3 * n) * n) (32 * (w * n)) = scaled 32 w n S1 in
      let b : w * n * 2 ≤ w * u = half-times w n u N in
      let R1 : Near (r * u) (t * 6 * u) (64 * (w * u)) = scaled 64 w u R in
      let c : t * 6 * u ≡ t * u * 6 = mul_right_comm t 6 u in
      omega arith
