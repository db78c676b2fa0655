-- The definitions yield every row of specs/Rows.antt, by evaluation. Assumes nothing.
use mathlib.Core.Path.{refl}
use lib.Ieee.{of_bits, to_bits, add, neg}
use Rattle.lists.specs.Lists.{fold}
use Rattle.math.specs.Rows.{Yielded}
use Rattle.sums.specs.Halves.{halved_at_most, by_halves}
use Rattle.sums.specs.Rows.{rows}

pub rows_hold : Yielded rows
unfolding of_bits to_bits add neg fold halved_at_most by_halves
rows_hold = refl
