-- `iisph_rows::rows::vector_at` meets its contract: what is read is a table of as many elements as there are axes.
-- Assumes nothing.
use Prim.Native.Nat.{◌+◌}
use mathlib.Core.Path.{refl}
use native.Mathlib.Nat.{add-zero}
use Rattle.math.proofs.Vectors.{coordinates-table}
use Rattle.iisph_rows.specs.Rows.{element_at}
use Rattle.iisph_rows.proofs.rows.vector_at.Goals as goal

pub returns : goal.returns
returns c =
    let k = c.args.k in
    coordinates-table _ _ (λ i. element_at c.args.work.now (k + i)) c.requires.0 c.from.ensures
    (rw (add-zero k) refl) refl refl
