-- `weight_table::lookup` meets its contract: its numbers are those of proofs/Found.antt, in the table that `entries`
-- promises. Assumes nothing.
use native.Mathlib.Omega.{arith}
use Rattle.weight_table.proofs.Found.{lower, small, inside, found, beyond}
use Rattle.weight_table.proofs.lookup.Goals as goal

pub returns-then-q-ge-ONE : goal.returns-then-q-ge-ONE
returns-then-q-ge-ONE c = beyond c.args.q (omega arith)

pub overflow_sub-result : goal.overflow_sub-result
overflow_sub-result c = lower c.entries-table.result c.entries-table.ensures c.args.q (omega arith)

pub overflow_mul-result : goal.overflow_mul-result
overflow_mul-result c =
    omega (arith, small c.entries-table.result c.entries-table.ensures c.args.q (omega arith))

pub overflow_add-result : goal.overflow_add-result
overflow_add-result c =
    omega (arith, small c.entries-table.result c.entries-table.ensures c.args.q (omega arith))

pub overflow_sub-result-2 : goal.overflow_sub-result-2
overflow_sub-result-2 c =
    omega (arith, inside c.entries-table.result c.entries-table.ensures c.args.q (omega arith))

pub returns : goal.returns
returns c = found c.entries-table.result c.entries-table.ensures c.args.q (omega arith)
