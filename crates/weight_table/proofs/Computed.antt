-- What holds at single places, by evaluation: the definitions yield every row of specs/Rows.antt; and where the lookup
-- lies furthest from the exact weight, a closer bound does not hold. Assumes nothing.
use mathlib.Core.Path.{refl}
use Prim.Native.Nat.{◌+◌, ◌^◌, ◌≤◌}
use native.Mathlib.Nat.{not-le_of_lt}
use native.Mathlib.Omega.{arith}
use lib.Dec.{lit≤, lit<}
use Rattle.math.specs.Rows.{Yielded}
use Rattle.cubic_spline.specs.Exact.{pieces, exact_weight}
use Rattle.weight_table.specs.Table.{entry_of, steepest}
use Rattle.weight_table.specs.Lookup.{floor, between, table_weight, WithinUnits, LookupPromise}
use Rattle.weight_table.specs.Rows.{rows}

pub rows_hold : Yielded rows
unfolding entry_of floor between table_weight
rows_hold = refl

-- the steepest step falls by 2 ^ 21 - 2, so by at most 2 ^ 21 and not by at most 2 ^ 20
pub steepest_step : entry_of 341 ≤ entry_of 342 + steepest
unfolding entry_of
steepest_step = lit≤ tt

pub step_no_gentler : entry_of 341 ≤ entry_of 342 + 2 ^ 20 → ⊥
unfolding entry_of
step_no_gentler l = not-le_of_lt (lit< tt) l

-- q = 511 / 2 ^ 20: the error is 1,534.74 units, so within 1,537 and not within 1,534
pub lookup_farthest : LookupPromise 511 1073738760
unfolding entry_of floor between table_weight exact_weight pieces
lookup_farthest =
    record {
      value = refl;
      near = (lit≤ tt, lit≤ tt);
      on_entry = λ e. absurd (omega arith);
      beyond = λ l. absurd (not-le_of_lt (lit< tt) l);
    }

pub lookup_no_nearer : WithinUnits 1534 511 1073738760 → ⊥
unfolding exact_weight pieces
lookup_no_nearer W = not-le_of_lt (lit< tt) W.1
