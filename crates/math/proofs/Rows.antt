-- The definitions yield every row of specs/Rows.antt, by evaluation. Assumes nothing.
use mathlib.Core.Path.{refl}
use mathlib.Core.List.{zip_with}
use lib.Ieee.{of_bits, to_bits, add, mul, neg, eq, lt, le, is_nan}
use Rattle.lists.specs.Lists.{fold}
use Rattle.math.specs.Real.{magnitude}
use Rattle.math.specs.Vector.{◌·◌, added}
use Rattle.math.specs.Rows.{Yielded, rows}

pub rows_hold : Yielded rows
unfolding of_bits to_bits add mul neg eq lt le is_nan magnitude zip_with fold ◌·◌ added
rows_hold = refl
