-- The differences of specs/Exact.antt are exact in their pieces: each law says a piece's formula without them. A piece
-- is taken with both ends: where two pieces meet, at 1 / 2 and at 1, their formulas agree. Assumes nothing.
use mathlib.Core.Path.{◌≡◌, refl, ◌∙◌}
use mathlib.Core.Logic.{⊎_elim}
use Prim.Native.Nat.{ℕ, ◌+◌, ◌-◌, ◌*◌, ◌≤◌, ◌<◌}
use native.Mathlib.Nat.{eq-or-lt_of_le, mul-le-mul_left, mul-le-mul_right}
use native.Mathlib.Omega.{arith}
use borrow.Author.Tests.{le-leb, lt-leb}
use Rattle.rounding.proofs.Near.{sub-times}
use Rattle.cubic_spline.specs.Exact.{pieces, exact_weight, monaghan_fall}
use Rattle.cubic_spline.proofs.Errors.{eighth}

-- ---- which piece is taken

module _ {A : Type 0} (u n : ℕ) (near far beyond : A) where
  near_piece : n * 2 ≤ u → pieces u n near far beyond ≡ near
  unfolding pieces
  near_piece h = rw (le-leb (n * 2) u h)

  far_piece : u < n * 2 → n ≤ u → pieces u n near far beyond ≡ far
  unfolding pieces
  far_piece h l = rw (lt-leb (n * 2) u h, le-leb n u l)

  beyond_piece : u < n → pieces u n near far beyond ≡ beyond
  unfolding pieces
  beyond_piece h = rw (lt-leb (n * 2) u (omega arith), lt-leb n u h)

-- ---- the far formula, as one of k, where k / u is 1 - q: at 1 / 2 the near one agrees with it, and at 1 it is 0

module _ (near : ℕ → ℕ → ℕ) (far : ℕ → ℕ) (half : (n : ℕ) → near (n * 2) n ≡ far n) where
  from_half : (u n k : ℕ) → u ≤ n * 2 → k + n ≡ u → pieces u n (near u n) (far (u - n)) 0 ≡ far k
  from_half u n k h e = ⊎_elim at_half past_half (eq-or-lt_of_le h)
    where
      at_half : u ≡ n * 2 → pieces u n (near u n) (far (u - n)) 0 ≡ far k
      at_half f =
          let l : n * 2 ≤ u = omega arith in
          let s : k ≡ n = omega arith in
          rw (near_piece, s, f) (half n)

      past_half : u < n * 2 → pieces u n (near u n) (far (u - n)) 0 ≡ far k
      past_half l =
          let m : n ≤ u = omega arith in
          let s : u - n ≡ k = omega arith in
          rw (far_piece, s)

  from_one : far 0 ≡ 0 → (u n : ℕ) → u ≤ n → pieces u n (near u n) (far (u - n)) 0 ≡ 0
  from_one one u n h =
      ⊎_elim (λ f. from_half u n 0 (omega arith) (omega arith) ∙ one) (beyond_piece u n _ _ 0) (eq-or-lt_of_le h)

-- ---- the weight

pub near_weight_whole : (u n : ℕ) → n * 2 ≤ u → exact_weight u n + 6 * (n * n * u) ≡ u * u * u + 6 * (n * n * n)
unfolding exact_weight
near_weight_whole u n h =
    let e : 8 * (n * n * u - n * n * n) ≤ u * u * u = eighth n u h in
    let l : n * n * n ≤ n * n * u = mul-le-mul_left (n * n) (omega arith) in
    rw near_piece (omega arith)

weight_at_half : (n : ℕ) → n * 2 * (n * 2) * (n * 2) - 6 * (n * n * (n * 2) - n * n * n) ≡ 2 * (n * n * n)
weight_at_half n = omega arith

pub far_weight_whole : (u n k : ℕ) → u ≤ n * 2 → k + n ≡ u → exact_weight u n ≡ 2 * (k * k * k)
unfolding exact_weight
far_weight_whole = from_half _ (λ k. 2 * (k * k * k)) weight_at_half

pub beyond_weight_whole : (u n : ℕ) → u ≤ n → exact_weight u n ≡ 0
unfolding exact_weight
beyond_weight_whole = from_one _ (λ k. 2 * (k * k * k)) weight_at_half refl

-- ---- the slope, its sign turned

pub near_fall_whole : (u n : ℕ) → n * 2 ≤ u → monaghan_fall u n + 18 * (n * n) ≡ 12 * (n * u)
unfolding monaghan_fall
near_fall_whole u n h =
    let l : 3 * n * n ≤ 2 * u * n = mul-le-mul_right n (omega arith) in
    rw (near_piece, sub-times (2 * u) (3 * n) n) (omega arith)

fall_at_half : (n : ℕ) → 6 * ((2 * (n * 2) - 3 * n) * n) ≡ 6 * (n * n)
fall_at_half n = let s : 2 * (n * 2) - 3 * n ≡ n = omega arith in rw s

pub far_fall_whole : (u n k : ℕ) → u ≤ n * 2 → k + n ≡ u → monaghan_fall u n ≡ 6 * (k * k)
unfolding monaghan_fall
far_fall_whole = from_half _ (λ k. 6 * (k * k)) fall_at_half

pub beyond_fall_whole : (u n : ℕ) → u ≤ n → monaghan_fall u n ≡ 0
unfolding monaghan_fall
beyond_fall_whole = from_one _ (λ k. 6 * (k * k)) fall_at_half refl
