-- `iisph_rows::zeros::first_zero` meets its contract: the search goes through the column, which is a part of the list.
-- Assumes nothing.
use Rattle.std.proofs.Common.{rules, tests}
use Prim.Native.Nat.{◌+◌, ◌*◌, ◌-◌}
use native.Mathlib.Omega.{arith}
use lib.ListN.{take, drop}
use Rattle.std.proofs.lemmas.Iterator.{YieldsList-from_slice}
use Rattle.std.proofs.lemmas.Iterator.Search.{position_from_yields_List}
use Rattle.math.specs.Real.{is_zero}
use Rattle.iisph_rows.proofs.RowStores.{column_within}
use Rattle.iisph_rows.proofs.FirstZero.{found_is}
use Rattle.iisph_rows.proofs.zeros.first_zero.Goals as goal

pub returns : goal.returns
returns c =
    let a = c.args in
    let k = a.number * a.n in
    found_is k a.n a.work.now (omega (arith, column_within a.dim a.n a.number c.requires.0, c.requires.1))
    (position_from_yields_List is_zero _ _ c.position.result c.position.ensures.ran
    (YieldsList-from_slice (take (k + a.n - k) (drop k a.work.now)) cc) (λ x b q k. search (rules, tests)))
