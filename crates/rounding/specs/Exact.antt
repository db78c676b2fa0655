-- Doubles as whole numbers: a finite double is a whole multiple of 2 ^ -1074, so an exact statement about doubles is
-- one about whole numbers. Definitions only.
use Rattle.std.specs.Prelude.{ℕ, ◌+◌, ◌*◌, ◌/◌, ◌^◌, ◌≤◌, Float}
use Rattle.std.specs.Float.{nan, inf, fin}
use Rattle.std.specs.Float.Ieee.{up, down}

-- how many times 2 ^ -1074 goes into 1
abbrev pub unit : ℕ
unit = 2 ^ 1074

-- how many times 2 ^ -1074 goes into the magnitude of a finite double
abbrev pub count : Float → ℕ
count nan = 0
count (inf s) = 0
count (fin s m e) = m * up e * unit / down e

-- a and b are at most d apart
abbrev pub Near : ℕ → ℕ → ℕ → Type 0
Near a b d = (a ≤ b + d) × (b ≤ a + d)
