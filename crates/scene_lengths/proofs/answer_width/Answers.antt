-- `scene_lengths::answer_width` meets its contract: each branch is the definition's. Assumes nothing.
use Prim.Native.Nat.{ℕ, zero, suc}
use mathlib.Core.Path.{◌≡◌, refl, ◌∙◌}
use native.Mathlib.Omega.{arith}
use Rattle.scene_format.specs.declared.Kind.TheVariants.{Boundary}
use Rattle.scene_lengths.specs.Lengths.{kept_answer_width, answer_width}
use Rattle.scene_lengths.proofs.answer_width.Goals as goal

kept : (d k : ℕ) → (k ≡ 0 → ⊥) → kept_answer_width d ≡ answer_width d Boundary k
unfolding answer_width
kept d zero h = absurd (h refl)
kept d (suc k) h = refl

pub returns-in-Fluid : goal.returns-in-Fluid
unfolding answer_width
returns-in-Fluid c =
    let w = c.fluid_answer_width in (rw c.in-Fluid.is w.ensures.0, w.ensures.1)

pub returns-then-keeps-eq0 : goal.returns-then-keeps-eq0
unfolding answer_width
returns-then-keeps-eq0 c = (rw (c.in-Boundary.is, c.if-keeps-eq0.true), omega arith)

pub returns-else-keeps-eq0 : goal.returns-else-keeps-eq0
returns-else-keeps-eq0 c =
    let w = c.kept_answer_width in (
      rw c.in-Boundary.is (w.ensures.0 ∙ kept _ _ c.if-keeps-eq0.false),
      w.ensures.1,
    )
