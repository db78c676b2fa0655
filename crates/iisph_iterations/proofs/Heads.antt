-- A loop over the heads of a scene's fluids, which stand in front in the layout's array: the laws of such a loop, at a
-- scene that passed the check. Assumes nothing.
use Rattle.std.proofs.Common.{ℕ, ◌<◌, ◌≤◌, List, length, take}
use Rattle.scene_check.specs.Check.{Passed}
use Rattle.scene_check.proofs.Accepted.{accepted_within}
use Rattle.scene_check.proofs.Checks.{fluids_are}
use Rattle.scene_format.specs.Format.{most_models}
use Rattle.scene_format.specs.declared.Kind.TheVariants.{Fluid}
use Rattle.scene_layout.specs.declared.Layout.{Layout}
use Rattle.scene_layout.proofs.Turns.{Turn, number_few, front_turn}

module _ {b : List ℕ} {layout : Layout} (passed : Passed b layout) where
  pub fluids-few : layout.fluids.number ≤ most_models
  fluids-few = number_few (accepted_within b passed.walk Fluid) (fluids_are b passed.layout_is)

  pub head_turn : (m : ℕ) → m < length (take layout.fluids.number layout.fluids.heads)
      → Turn Fluid b (take layout.fluids.number layout.fluids.heads) m
  head_turn = front_turn (accepted_within b passed.walk Fluid) (fluids_are b passed.layout_is)
