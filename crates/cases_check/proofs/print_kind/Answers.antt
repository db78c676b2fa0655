-- `cases_check::print_kind` meets its contract: in turn, where each answers with its model's turn. Assumes nothing.
use Rattle.std.proofs.Common.{rules}
use Rattle.cases_check.specs.Turns.{model_turn, kind_turn}
use Rattle.cases_check.proofs.print_kind.Goals as goal

pub returns : goal.returns
unfolding kind_turn
returns g c =
    c.print_in_turn.ensures (model_turn c.args.kind c.args.scene.now) (λ k turn within answered. search rules)
