-- The worked examples of doubles, sums, kernel, its table, check and step, as one list; that of worked_texts has the
-- texts too. Definitions only.
use Rattle.std.specs.Prelude.{List, ◌++◌, map}
use Rattle.math.specs.Rows as math
use Rattle.sums.specs.Rows as sums
use Rattle.cubic_spline.specs.Rows as kernel
use Rattle.weight_table.specs.Rows as board
use Rattle.worked_examples.specs.Row.{Row, value}
use Rattle.worked_examples.specs.RefusalRows.{refusal_rows}
use Rattle.worked_examples.specs.LookRows.{look_rows}
use Rattle.worked_examples.specs.Starred.{starred, refused_steps}
use Rattle.worked_examples.specs.PassedOver.{passed_over}
use Rattle.worked_examples.specs.Further.{further}

unfoldable pub rows : List Row
rows =
    map value math.rows
    ++ (map value sums.rows
    ++ (map value kernel.rows
    ++ (map value board.rows ++ (refusal_rows ++ (look_rows
    ++ (starred ++ (refused_steps ++ (passed_over ++ further))))))))
