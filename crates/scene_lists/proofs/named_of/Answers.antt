-- `scene_lists::named_of` meets its contract, case by case. Assumes nothing.
use borrow.Author.Rules.{rules}
use Rattle.scene_lists.specs.Lists.{named_of}
use Rattle.scene_lists.proofs.named_of.Goals as goal

pub returns-in-FluidFluid : goal.returns-in-FluidFluid
unfolding named_of
returns-in-FluidFluid c = search rules

pub returns-in-FluidBoundary : goal.returns-in-FluidBoundary
unfolding named_of
returns-in-FluidBoundary c = search rules

pub returns-in-BoundaryBoundary : goal.returns-in-BoundaryBoundary
unfolding named_of
returns-in-BoundaryBoundary c = search rules
