-- `scene_lengths::added_width` meets its contract: each branch is the definition's. Assumes nothing.
use native.Mathlib.Omega.{arith}
use Rattle.scene_lengths.proofs.added_width.Goals as goal

pub returns-in-InOrder : goal.returns-in-InOrder
returns-in-InOrder c = (rw c.in-InOrder.is, omega arith)

pub returns-in-ByHalves : goal.returns-in-ByHalves
returns-in-ByHalves c = (rw c.in-ByHalves.is, omega arith)
