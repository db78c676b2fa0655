-- `scene_walk::doubles_plainly_finite` meets its contract: the doubles before this one have passed, turn by turn.
-- Assumes nothing.
use Prim.Native.Nat.{◌+◌, ◌*◌}
use Rattle.scene_format.specs.Bytes.{double_width, plainly_finite}
use Rattle.scene_walk.proofs.Plainly.{Passed}
use Rattle.scene_walk.proofs.doubles_plainly_finite.Given as goal

abbrev pub invariant-loop-i : goal.invariant-loop-i
invariant-loop-i l = Passed (λ k. plainly_finite l.s (l.from + double_width * k)) l.n l.i
