-- What the check answers: the layout of an accepted scene, or the refusal. `Passed` and what follows it is
-- scaffolding: what the check hands on to the code above. Definitions only.
use Rattle.std.specs.Prelude.{ℕ, ◌≡◌, List, length, get_or}
use Rattle.scene_format.specs.Bytes.{Bytes}
use Rattle.scene_format.specs.Format.{counts_of}
use Rattle.scene_format.specs.declared.Kind.{Kind}
use Rattle.scene_format.specs.declared.Kind.TheVariants.{Fluid, Boundary}
use Rattle.scene_format.specs.declared.Refusal.{Refusal}
use Rattle.scene_format.specs.Refusals.{Walk}
use Rattle.std.specs.declared.result.Result.{Result}
use Rattle.std.specs.declared.result.Result.TheVariants.{Ok, Err}
use Rattle.scene_layout.specs.Layout.{layout_of}
use Rattle.scene_layout.specs.declared.Layout.{Layout}
use Rattle.scene_check.specs.Walk.{checked}

-- ---- the verdict: the layout of an accepted scene, or why it is refused

unfoldable pub verdict_of : List ℕ → Walk → Result Layout Refusal
verdict_of b (Ok end) = Ok (layout_of b)
verdict_of b (Err r) = Err r

pub record ChecksTo (b : List ℕ) (r : Result Layout Refusal) : Type 0 where
  pub verdict : r ≡ verdict_of b (checked b)

-- the bytes b pass the check, and this is their layout
pub record Passed (b : List ℕ) (layout : Layout) : Type 0 where
  pub bytes : Bytes b
  pub walk : checked b ≡ Ok (length b)
  pub layout_is : layout ≡ layout_of b

-- ---- what names are held against: the count of each model of a kind, 0 for one that is not there

pub record CountsOfKind (κ : Kind) (b counts : List ℕ) : Type 0 where
  pub each : (m : ℕ) → get_or counts m 0 ≡ get_or (counts_of κ b) m 0

pub record CountsAre (b fluids boundaries : List ℕ) : Type 0 where
  pub fluid : CountsOfKind Fluid b fluids
  pub boundary : CountsOfKind Boundary b boundaries
