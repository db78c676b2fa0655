-- How many elements of a list are not the mark, 1.5. Definitions only.
use Rattle.std.specs.Prelude.{ℕ, zero, suc, ◌+◌, List, eqb, get_or, Float}
use Rattle.std.specs.Float.{nan}
use Rattle.lists.specs.Lists.{choose}
use Rattle.math.specs.Real.{bits_of}

unfoldable pub other : Float → ℕ
other x = choose (eqb (bits_of x) 0x3ff8000000000000) 0 1

-- of the first n
unfoldable pub others : List Float → ℕ → ℕ
others l zero = 0
others l (suc n) = others l n + other (get_or l n nan)
