-- `timestep_manager::advance` meets its contract: field by field, with what `inverse_of` ensures. Assumes nothing.
use Rattle.timestep_manager.specs.Clock.{advanced}
use Rattle.timestep_manager.proofs.advance.Goals as goal

pub returns : goal.returns
unfolding advanced
returns c = rw c.inverse_of.ensures
