-- What a step takes of the header: the code's clock, gravity and stopping numbers are those of the scene. Scaffolding:
-- no promise rests on it. Definitions only.
use Rattle.std.specs.Prelude.{◌<◌, ◌≡◌}
use Rattle.math.specs.Vector.{coordinates}
use Rattle.scene_format.specs.Scene.{Scene}
use Rattle.iisph_rules.specs.Coefficients.{clock_of}
use Rattle.iisph_header.specs.declared.StepHeader.{StepHeader}
use Rattle.iisph_header.specs.declared.Stopping.{Stopping}

-- the stopping numbers are the header's, of which the counts are bytes
pub record StoppingIs (s : Scene) (stopping : Stopping) : Type 0 where
  pub least : stopping.min_pressure_iter ≡ s.header.min_pressure_iter
  pub most : stopping.max_pressure_iter ≡ s.header.max_pressure_iter
  pub limit : stopping.max_density_error ≡ s.header.max_density_error
  pub few : stopping.max_pressure_iter < 256

-- the header is that of the scene s, with the clock that the step has advanced
pub record StepHeaderIs (s : Scene) (header : StepHeader) : Type 0 where
  pub clock_is : header.clock ≡ clock_of s
  pub gravity_is : coordinates s.header.axes header.gravity ≡ s.header.gravity
  pub stopping_is : StoppingIs s header.stopping
