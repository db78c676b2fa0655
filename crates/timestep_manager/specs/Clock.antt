-- The clock (METHOD 2; the Rust's `TimestepManager::advance`). Definitions only.
use Rattle.std.specs.Prelude.{cond, Float}
use Rattle.math.specs.Real.{◌⊖◌, ◌⊘◌, +0, one, is_zero}
use Rattle.timestep_manager.specs.declared.Clock.{Clock}

-- 1 / dt; +0 where dt is +0 or -0
unfoldable pub inverse : Float → Float
inverse dt = cond (is_zero dt) +0 (one ⊘ dt)

-- dt is the step length, and the remaining time is less dt
unfoldable pub advanced : Clock → Clock
advanced c =
    record {
      total_step_size = c.total_step_size;
      dt = c.total_step_size;
      inv_dt = inverse c.total_step_size;
      remaining_time = c.remaining_time ⊖ c.total_step_size;
    }
