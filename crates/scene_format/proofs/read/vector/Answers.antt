-- `scene_format::read::vector` meets its contract: what is read is a table of as many doubles as there are axes.
-- Assumes nothing.
use Prim.Native.Nat.{ℕ, ◌+◌, ◌-◌, ◌*◌}
use mathlib.Core.Path.{◌≡◌}
use mathlib.Core.List.{List}
use native.Mathlib.Nat.{add-zero}
use native.Mathlib.Omega.{arith}
use Rattle.math.specs.Vector.{Axes}
use Rattle.math.proofs.Vectors.{coordinates-table}
use Rattle.scene_format.specs.Bytes.{double_width, double_at, vector_at, FiniteAt, AllFinite}
use Rattle.scene_format.proofs.read.vector.Goals as goal

-- the last of d doubles stands before the end of all
last_finite : (b : List ℕ) (at d w : ℕ) → Axes d → AllFinite b at d → w ≡ d → FiniteAt b (at + double_width * (w - 1))
last_finite b at d w axes finite e = finite.each (w - 1) (omega (arith, axes.least))

pub double-requires : goal.double-requires
double-requires c = let p = c.requires in rw add-zero at (p.1.each 0 (omega (arith, p.0.least)))

pub overflow_add-at : goal.overflow_add-at
overflow_add-at c = let p = c.requires in omega (arith, (p.1.each 1 (omega (arith, p.0.least))).present)

pub double-requires-2 : goal.double-requires-2
double-requires-2 c = let p = c.requires in p.1.each 1 (omega (arith, p.0.least))

pub overflow_sub-from : goal.overflow_sub-from
overflow_sub-from c = omega (arith, c.requires.0.least)

pub overflow_add-at-2 : goal.overflow_add-at-2
overflow_add-at-2 c =
    let p = c.requires in
    omega (arith, (last_finite _ _ _ _ p.0 p.1 c.from.ensures).present)

pub double-requires-3 : goal.double-requires-3
double-requires-3 c =
    let p = c.requires in
    last_finite _ _ _ _ p.0 p.1 c.from.ensures

pub returns : goal.returns
unfolding vector_at
returns c =
    let at = c.args.at in
    coordinates-table _ _ (λ k. double_at c.args.s.now (at + double_width * k)) c.requires.0 c.from.ensures
    (rw (add-zero at) c.double.ensures)
    c.double-2.ensures c.double-3.ensures
