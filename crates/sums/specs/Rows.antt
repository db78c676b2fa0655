-- Rows of sums: where the order of rounding shows, and the sign of zero. Definitions only.
use Rattle.std.specs.Prelude.{List, [], ◌∷◌, Float}
use Rattle.math.specs.Real.{◌⊕◌, ⊝, +0, one, total}
use Rattle.math.specs.Rows.{Row, double, tiny}
use Rattle.sums.specs.Halves.{sum_by_halves}

-- a large term before two small ones
abbrev pub three : List Float
three = one ∷ tiny ∷ tiny ∷ []

-- a large term behind four small ones
abbrev pub five : List Float
five = tiny ∷ tiny ∷ tiny ∷ tiny ∷ one ∷ []

abbrev pub rows : List Row
rows =
    -- in order each small term is lost by itself; by halves they meet first
    double (total +0 three) 0x3FF0000000000000
    ∷ double (sum_by_halves three) 0x3FF0000000000001
    -- five are split after two, and their second part after one; after three and two they come to another sum
    ∷ double (sum_by_halves five) 0x3FF0000000000001
    ∷ double ((tiny ⊕ tiny ⊕ tiny) ⊕ (tiny ⊕ one)) 0x3FF0000000000002
    -- a list of one is its element, of -0 too; of none it is +0
    ∷ double (sum_by_halves (⊝ +0 ∷ [])) 0x8000000000000000
    ∷ double (total +0 (⊝ +0 ∷ [])) 0
    ∷ double (sum_by_halves []) 0
    ∷ []
