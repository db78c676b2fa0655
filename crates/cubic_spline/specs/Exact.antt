-- The exact shapes over fractions (METHOD 1.5), at q = n / u: whole numbers over u ^ 3 for the weight, and over u ^ 2,
-- with the sign turned, for the slope. Definitions only.
use Rattle.std.specs.Prelude.{ℕ, ◌-◌, ◌*◌, cond, leb}

-- the spline's three pieces: up to 1 / 2, up to 1, and beyond. In its piece no difference below falls under 0: that is
-- proved in proofs/Exact.antt
unfoldable pub pieces : {A : Type 0} → ℕ → ℕ → A → A → A → A
pieces u n near far beyond = cond (leb (n * 2) u) near (cond (leb n u) far beyond)

-- Monaghan's weight, times u ^ 3: 1 - 6 (q ^ 2 - q ^ 3), then 2 (1 - q) ^ 3, then 0
unfoldable pub exact_weight : ℕ → ℕ → ℕ
exact_weight u n = pieces u n (u * u * u - 6 * (n * n * u - n * n * n)) (2 * ((u - n) * (u - n) * (u - n))) 0

-- Monaghan's slope, its sign turned, times u ^ 2: 6 q (2 - 3 q), then 6 (1 - q) ^ 2, then 0
unfoldable pub monaghan_fall : ℕ → ℕ → ℕ
monaghan_fall u n = pieces u n (6 * ((2 * u - 3 * n) * n)) (6 * ((u - n) * (u - n))) 0
