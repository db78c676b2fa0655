-- The definitions yield each worked example: by evaluation, list by list, and the lists are joined. Assumes nothing.
use Prim.Native.Nat.{ℕ}
use mathlib.Core.Path.{refl, ap}
use mathlib.Core.List.{List, [], ◌∷◌, ◌++◌, map}
use Rattle.math.specs.Rows as math
use Rattle.math.proofs.Rows.{rows_hold as doubles-hold}
use Rattle.sums.specs.Rows as sums
use Rattle.sums.proofs.Rows.{rows_hold as sums-hold}
use Rattle.cubic_spline.specs.Rows as kernel
use Rattle.cubic_spline.proofs.Rows.{rows_hold as kernel-holds}
use Rattle.weight_table.specs.Rows as board
use Rattle.weight_table.proofs.Computed.{rows_hold as board-holds}
use Rattle.worked_examples.specs.Row.{Row, value, Holds, All, none, ◌and◌}
use Rattle.worked_examples.specs.Rows.{rows}
use Rattle.worked_examples.specs.Starred.{volumes_scene, starred, refused_steps}
use Rattle.worked_examples.specs.PassedOver
use Rattle.worked_examples.specs.Further
use Rattle.worked_examples.proofs.Evaluation.{evaluation}
use Rattle.worked_examples.proofs.LookRows.{looks_hold}
use Rattle.worked_examples.proofs.RefusalRows.{refusals_hold}

-- a list of values that the definitions yield, row by row
each : (rs : List math.Row) → math.Yielded rs → All Holds (map value rs)
each [] e = none
each (r ∷ rs) e = ap first e and each rs (ap behind e)
  where
    first : List ℕ → ℕ
    first [] = 0
    first (n ∷ ns) = n

    behind : List ℕ → List ℕ
    behind [] = []
    behind (n ∷ ns) = ns

starred_hold : All Holds starred
unfolding evaluation volumes_scene starred
starred_hold =
    refl and refl and refl and refl and refl and refl and refl and refl and refl and refl and refl and refl and refl
    and refl and none

refused_steps_hold : All Holds refused_steps
unfolding evaluation refused_steps
refused_steps_hold = refl and refl and refl and refl and refl and refl and none

passed_over_hold : All Holds PassedOver.passed_over
unfolding evaluation
    PassedOver.overflowing PassedOver.nan_last PassedOver.nan_settled PassedOver.nan_first PassedOver.nan_alone
    PassedOver.light PassedOver.both_infinities PassedOver.one_infinity PassedOver.passed_over
passed_over_hold = refl and refl and refl and refl and refl and refl and refl and none

further_hold : All Holds Further.further
unfolding evaluation
    Further.aii_scene Further.order_scene Further.negative_zeros Further.both_zero Further.mixed_fluids
    Further.mixed_boundaries Further.mixed Further.mixed_answers Further.further
further_hold = refl and refl and refl and refl and refl and refl and refl and refl and none

pub both : {A : Type 0} {P : A → Type 0} {xs ys : List A} → All P xs → All P ys → All P (xs ++ ys)
both none q = q
both (h and p) q = h and both p q

-- every worked example holds
pub rows_hold : All Holds rows
unfolding rows
rows_hold =
    both (each math.rows doubles-hold)
    (both (each sums.rows sums-hold)
    (both (each kernel.rows kernel-holds)
    (both (each board.rows board-holds)
    (both refusals_hold
    (both looks_hold (both starred_hold (both refused_steps_hold (both passed_over_hold further_hold))))))))
