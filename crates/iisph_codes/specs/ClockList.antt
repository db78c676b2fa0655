-- A clock as a list of doubles, which a C caller keeps. Definitions only.
use Rattle.std.specs.Prelude.{ℕ, List, [], ◌∷◌, Float, get_or}
use Rattle.std.specs.Float.{nan}
use Rattle.timestep_manager.specs.declared.Clock.{Clock}

-- how many elements `clock` must have
abbrev pub clock_needed : ℕ
clock_needed = 4

-- they are the step length, dt, inv_dt and the remaining time
unfoldable pub clock_numbers : Clock → List Float
clock_numbers c = c.total_step_size ∷ c.dt ∷ c.inv_dt ∷ c.remaining_time ∷ []

unfoldable pub clock_of : List Float → Clock
clock_of l =
    record {
      total_step_size = get_or l 0 nan;
      dt = get_or l 1 nan;
      inv_dt = get_or l 2 nan;
      remaining_time = get_or l 3 nan;
    }
