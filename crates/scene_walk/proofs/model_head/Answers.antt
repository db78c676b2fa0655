-- `scene_walk::model_head` meets its contract: by the kind, up to the first refusal. Assumes nothing.
use mathlib.Core.Path.{◌≡◌, sym, ◌∙◌}
use mathlib.Core.List.{List}
use Prim.Native.Nat.{ℕ}
use Rattle.scene_walk.specs.Walk.{head_of}
use Rattle.scene_fields.specs.Fields.{◌▹◌, count}
use Rattle.scene_fields.proofs.Walks.{handed_on}
use Rattle.scene_format.specs.declared.Kind.{Kind}
use Rattle.scene_format.specs.declared.Kind.TheVariants.{Fluid, Boundary}
use Rattle.scene_format.specs.declared.Refusal.{Refusal}
use Rattle.std.specs.declared.result.Result.TheVariants.{Err}
use Rattle.scene_walk.proofs.model_head.Goals as goal

refused : (κ : Kind) (b : List ℕ) (at : ℕ) {r : Refusal} → count κ b at ≡ Err r → Err r ≡ head_of κ b at
unfolding head_of ◌▹◌
refused Fluid b at q = rw q
refused Boundary b at q = sym q

pub returns-in_err-next : goal.returns-in_err-next
returns-in_err-next c =
    handed_on c.from_residual.ensures.1 ∙ refused _ _ _ (sym c.count.ensures ∙ c.in_err-next.was)

pub returns-in-Fluid : goal.returns-in-Fluid
unfolding head_of ◌▹◌
returns-in-Fluid c =
    let counted : let a = c.args in count Fluid a.s.now a.from ≡ c.count.result =
    sym (rw c.in-Fluid.is at c.count.ensures) in
    rw (c.in-Fluid.is, counted ∙ c.in_ok-next.was) c.double.ensures

pub returns-in-Boundary : goal.returns-in-Boundary
unfolding head_of
returns-in-Boundary c = let k = c.in-Boundary.is in rw k (sym c.in_ok-next.was ∙ rw k at c.count.ensures)
