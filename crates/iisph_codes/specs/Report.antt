-- What is written of a step's report. Definitions only.
use Rattle.std.specs.Prelude.{ℕ, List, [], ◌∷◌, Float}
use Rattle.iisph_rules.specs.Endings.{ending_error, yes_or_no}
use Rattle.iisph_rules.specs.declared.Report.{Report}

-- how many elements `numbers` must have
abbrev pub numbers_needed : ℕ
numbers_needed = 4

-- the first four of `numbers`: the ending's error, +0 where it carries none, then the clock's dt, inv_dt and
-- remaining time
unfoldable pub report_numbers : Report → List Float
report_numbers r =
    let clock = r.clock in
    (ending_error r.ending).value ∷ clock.dt ∷ clock.inv_dt ∷ clock.remaining_time ∷ []

-- the first two of `counts`: the iterations, and 1 where an average was passed over in the last of them, else 0
unfoldable pub report_counts : Report → List ℕ
report_counts r = r.iterations ∷ yes_or_no (ending_error r.ending).passed_over ∷ []
