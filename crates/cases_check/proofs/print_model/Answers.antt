-- `cases_check::print_model` meets its contract: in turn, where each answers with its particle's turn. Assumes nothing.
use Rattle.std.proofs.Common.{rules}
use Rattle.cases_check.specs.Turns.{particle_turn, model_turn}
use Rattle.cases_check.proofs.print_model.Goals as goal

pub returns : goal.returns
unfolding model_turn
returns g c =
    c.print_in_turn.ensures (particle_turn c.args.kind c.args.scene.now c.args.model)
    (λ k turn within answered. search rules)
