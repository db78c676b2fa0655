-- `iisph_passes::traverse::traverse` meets its contract: without particles there is nothing to store. Assumes nothing.
use mathlib.Core.Path.{◌≡◌}
use native.Mathlib.Omega.{arith}
use lib.Ieee.{nan}
use Rattle.iisph_rows.specs.Rows.{slot_at}
use Rattle.lists.proofs.Stores.{stored_none}
use Rattle.iisph_passes.proofs.traverse.traverse.Goals as goal

pub returns-else-over-gt0 : goal.returns-else-over-gt0
returns-else-over-gt0 c =
    let none : c.args.over.n ≡ 0 = omega (arith, c.if-over-gt0.false) in
    rw none (stored_none nan (slot_at _ _) _ _ _)
