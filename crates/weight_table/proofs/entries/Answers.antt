-- `weight_table::entries` meets its contract: the test of the whole table is computed. Assumes nothing.
use mathlib.Core.Path.{refl}
use Rattle.weight_table.specs.Table.{entry_of}
use Rattle.weight_table.proofs.Tested.{tabled, right}
use Rattle.weight_table.proofs.entries.Goals as goal

pub returns : goal.returns
unfolding right entry_of
returns c = tabled _ refl tt
