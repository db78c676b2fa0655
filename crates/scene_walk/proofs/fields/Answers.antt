-- `scene_walk::fields` meets its contract: header, fluids, boundaries and the end, each from where the walk has come
-- to; the header is there once it is passed. Assumes nothing.
use Prim.Native.Nat.{ℕ, ◌≤◌}
use mathlib.Core.List.{List}
use mathlib.Core.Path.{◌≡◌, sym, ◌∙◌}
use native.Mathlib.Omega.{arith}
use lib.ListN.{length}
use Rattle.scene_fields.specs.Fields.{◌▹◌}
use Rattle.scene_fields.proofs.Walks.{handed_on}
use Rattle.scene_format.specs.Format.{min_pressure_iter_offset}
use Rattle.scene_format.specs.Refusals.{Walk}
use Rattle.std.specs.declared.result.Result.TheVariants.{Ok}
use Rattle.scene_walk.specs.Walk.{header, fields}
use Rattle.scene_walk.proofs.Walked.{header_leads}
use Rattle.scene_walk.proofs.fields.Goals as goal

header_there : (b : List ℕ) {w : Walk} {e : ℕ} → w ≡ header b 0 → w ≡ Ok e → min_pressure_iter_offset ≤ length b
header_there b h q = omega (arith, (header_leads b _ (sym h ∙ q)).1.room)

pub models-requires : goal.models-requires
models-requires c = header_there _ c.header.ensures c.in_ok-fluids.was

pub models-requires-2 : goal.models-requires-2
models-requires-2 c = header_there _ c.header.ensures c.in_ok-fluids.was

pub returns-in_err-fluids : goal.returns-in_err-fluids
unfolding fields ◌▹◌
returns-in_err-fluids c = handed_on c.from_residual.ensures.1 ∙ rw (sym c.header.ensures ∙ c.in_err-fluids.was)

pub returns-in_err-boundaries : goal.returns-in_err-boundaries
unfolding fields ◌▹◌
returns-in_err-boundaries c =
    handed_on c.from_residual-in_err-boundaries.ensures.1
    ∙ rw (sym c.header.ensures ∙ c.in_ok-fluids.was, sym c.models.ensures ∙ c.in_err-boundaries.was)

pub returns-in_err-end : goal.returns-in_err-end
unfolding fields ◌▹◌
returns-in_err-end c =
    handed_on c.from_residual-in_err-end.ensures.1
    ∙ rw (
      sym c.header.ensures ∙ c.in_ok-fluids.was,
      sym c.models.ensures ∙ c.in_ok-boundaries.was,
      sym c.models-2.ensures ∙ c.in_err-end.was,
    )

pub returns : goal.returns
unfolding fields ◌▹◌
returns c =
    rw (
      sym c.header.ensures ∙ c.in_ok-fluids.was,
      sym c.models.ensures ∙ c.in_ok-boundaries.was,
      sym c.models-2.ensures ∙ c.in_ok-end.was,
    )
    c.ended.ensures
