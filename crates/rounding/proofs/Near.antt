-- Whole numbers that are at most d apart (`Near` of specs/Exact.antt): the distance may be weakened, and both may be
-- multiplied by a number, or freed of one. Each half is a law of ≤. Assumes nothing.
use mathlib.Core.Path.{◌≡◌}
use Prim.Native.Nat.{ℕ, ◌+◌, ◌-◌, ◌*◌, ◌≤◌, ◌<◌}
use native.Mathlib.Nat.{add-mul, mul-sub, mul_comm, mul-le-mul_right, le_of_mul-le-mul_right}
use native.Mathlib.Omega.{arith}
use Rattle.rounding.specs.Exact.{Near}

pub near_weak : {a b : ℕ} (d e : ℕ) → d ≤ e → Near a b d → Near a b e
near_weak d e l h = omega arith

pub near_times : {a b : ℕ} (d c : ℕ) → Near a b d → Near (a * c) (b * c) (d * c)
near_times {a} {b} d c h = (half a b h.0, half b a h.1)
  where
    half : (x y : ℕ) → x ≤ y + d → x * c ≤ y * c + d * c
    half x y l = rw add-mul at (mul-le-mul_right c l)

pub near_cancel : (a b d c : ℕ) → 0 < c → Near (a * c) (b * c) (d * c) → Near a b d
near_cancel a b d c C h = (half a b h.0, half b a h.1)
  where
    half : (x y : ℕ) → x * c ≤ y * c + d * c → x ≤ y + d
    half x y l = le_of_mul-le-mul_right (rw (← add-mul y d c) at l) C

pub sub-times : (a b c : ℕ) → (a - b) * c ≡ a * c - b * c
sub-times a b c = rw (mul_comm (a - b) c, mul-sub, mul_comm c a, mul_comm c b)
