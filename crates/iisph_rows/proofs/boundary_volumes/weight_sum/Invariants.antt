-- `iisph_rows::boundary_volumes::weight_sum` meets its contract: weight by weight. Assumes nothing.
use Prim.Native.Nat.{◌+◌, ◌*◌}
use mathlib.Core.Path.{◌≡◌}
use Rattle.math.specs.Real.{+0, total}
use Rattle.lists.specs.Lists.{table}
use Rattle.scene_format.specs.Bytes.{double_at}
use Rattle.iisph_rows.proofs.boundary_volumes.weight_sum.Given as goal

abbrev pub invariant-loop-j : goal.invariant-loop-j
invariant-loop-j l = l.sum ≡ total +0 (table l.j (λ i. double_at l.scene (l.at + 10 * i + 2)))
