-- `cases_check::print_list` meets its contract: by the answer of the list's check, and how its walk ended. Assumes
-- nothing.
use mathlib.Core.Path.{sym, ◌∙◌}
use Rattle.cases_check.specs.Turns.{walk_turn, turn_of}
use Rattle.cases_check.proofs.print_list.Goals as goal

pub returns-in-Ok : goal.returns-in-Ok
unfolding turn_of walk_turn
returns-in-Ok g c =
    rw (sym c.check_list.ensures ∙ c.in-Ok-Some.is, c.in-Ok-Some.field-0-is, c.in-Ok.is)

pub returns-in-Err-walk : goal.returns-in-Err-walk
unfolding turn_of walk_turn
returns-in-Err-walk g c =
    rw (sym c.check_list.ensures ∙ c.in-Ok-Some.is, c.in-Ok-Some.field-0-is, c.in-Err-walk.is)

pub returns-in-Ok-None : goal.returns-in-Ok-None
unfolding turn_of
returns-in-Ok-None g c = rw (sym c.check_list.ensures ∙ c.in-Ok-None.is, c.in-Ok-None.field-0-is)

pub returns-in-Err : goal.returns-in-Err
unfolding turn_of
returns-in-Err g c = rw (sym c.check_list.ensures ∙ c.in-Err.is)
