-- How the iterations ended, as callers are told it: each ending has a number and carries values. The text and the C
-- interface tell endings by these alone. Definitions only.
use Rattle.std.specs.Prelude.{ℕ, Bool, cond, List, [], ◌∷◌, get_or}
use Rattle.iisph_rules.specs.Iteration.{no_error}
use Rattle.iisph_rules.specs.declared.Ending.{Ending}
use Rattle.iisph_rules.specs.declared.Ending.TheVariants.{Unswept, Settled, RanOut}
use Rattle.iisph_rules.specs.declared.IterationError.{IterationError}
use Rattle.iisph_rules.specs.declared.endings.Told.{Told}

-- what `iisph_step` returns, and which word the text has
unfoldable pub ending_number : Ending → ℕ
ending_number Unswept = 0
ending_number (Settled error passed_over) = 1
ending_number (RanOut error passed_over) = 2

-- the last iteration's error, where there was an iteration
unfoldable pub ending_values : Ending → List IterationError
ending_values Unswept = []
ending_values (Settled error passed_over) = record { value = error; passed_over = passed_over } ∷ []
ending_values (RanOut error passed_over) = record { value = error; passed_over = passed_over } ∷ []

-- +0 and no where an ending carries no error
unfoldable pub ending_error : Ending → IterationError
ending_error e = get_or (ending_values e) 0 no_error

-- 1 for yes, else 0
abbrev pub yes_or_no : Bool → ℕ
yes_or_no answer = cond answer 1 0

-- what the code hands on of an ending
unfoldable pub told_of : Ending → Told
told_of e =
    record {
      number = ending_number e;
      error = (ending_error e).value;
      passed_over = yes_or_no (ending_error e).passed_over;
    }
