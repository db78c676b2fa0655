-- A fluid particle's motion after the step, as the code has it. Scaffolding: no promise rests on it. Definitions only.
use Rattle.std.specs.Prelude.{ℕ, ◌≡◌, List, Float}
use Rattle.math.specs.Vector.{coordinates}
use Rattle.scene_format.specs.Scene.{Scene}
use Rattle.iisph_rules.specs.Coefficients.{coefficients}
use Rattle.iisph_rules.specs.Step.{new_velocity, new_position}
use Rattle.iisph_motion.specs.declared.answers.Motion.{Motion}

-- the code's motion, on d axes, is that of fluid particle i, where ps are the pressures
pub record MotionIs (s : Scene) (d : ℕ) (ps : List Float) (i : ℕ) (motion : Motion) : Type 0 where
  pub position : coordinates d motion.position ≡ new_position s (coefficients s) ps i
  pub velocity : coordinates d motion.velocity ≡ new_velocity s (coefficients s) ps i
