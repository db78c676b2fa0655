-- `scene_format::read::non_finite` meets its contract: what is plainly finite has another exponent, and of the rest
-- the exponent is read. Assumes nothing.
use Prim.Native.Nat.{ℕ}
use mathlib.Core.Path.{sym, ap, ◌∙◌}
use native.Mathlib.Omega.{arith}
use lib.Dec.{eqb}
use borrow.Author.Tests.{ne_eqb}
use Rattle.scene_format.specs.Bytes.{non_finite_exponent}
use Rattle.scene_format.proofs.Exponents.{plainly_finite_lem}
use Rattle.scene_format.proofs.read.non_finite.Goals as goal

pub returns-then-plainly_finite : goal.returns-then-plainly_finite
returns-then-plainly_finite c =
    sym
    (ne_eqb _ non_finite_exponent
    (plainly_finite_lem _ _ (λ i. omega (arith, c.shared_slice_known-1.given i))
    (sym c.plainly_finite.ensures ∙ c.if-plainly_finite.true)))

pub returns : goal.returns
returns c = ap (λ (x : ℕ). eqb x non_finite_exponent) c.exponent.ensures
