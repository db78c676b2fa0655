-- What a step takes of the header: the numbers that the code reads there are those of the scene's header, and the clock
-- made of them is the advanced one. By the definition of the header. Assumes nothing.
use Prim.Native.Nat.{ℕ, ◌<◌}
use mathlib.Core.Path.{◌≡◌}
use mathlib.Core.List.{List}
use lib.Ieee.{Float}
use Rattle.iisph_rules.specs.Coefficients.{clock_of}
use Rattle.math.specs.Real.{+0}
use Rattle.math.specs.Vector.{Axes, coordinates}
use Rattle.math.specs.declared.Vec3.{Vec3}
use Rattle.scene_format.specs.Bytes.{byte_at, AllFinite, double_at, vector_at}
use Rattle.scene_format.specs.Format.{axes_of, min_pressure_iter_offset, max_pressure_iter_offset}
use Rattle.scene_format.specs.Format.{total_step_size_offset}
use Rattle.scene_format.specs.Format.{remaining_time_offset, max_density_error_offset, gravity_offset}
use Rattle.scene_format.specs.SceneOf.{header_of, scene_of}
use Rattle.scene_format.proofs.Forms.{axes_of_lem}
use Rattle.scene_walk.specs.Accepted.{HeaderOk}
use Rattle.timestep_manager.specs.Clock.{advanced}
use Rattle.timestep_manager.specs.declared.Clock.{Clock}
use Rattle.iisph_header.specs.Header.{StepHeaderIs}

-- what the read of gravity asks, where the code has d for the number of axes
pub gravity_read : (b : List ℕ) {d : ℕ} → d ≡ axes_of b → HeaderOk b → Axes d × AllFinite b gravity_offset d
gravity_read b e h = rw e (axes_of_lem b, h.gravity)

pub step_header_made : (b : List ℕ) {d : ℕ} {t rest limit : Float} {clock : Clock} {gravity : Vec3} {least most : ℕ}
    → t ≡ double_at b total_step_size_offset → rest ≡ double_at b remaining_time_offset
    → limit ≡ double_at b max_density_error_offset
    → clock ≡ advanced (record { total_step_size = t; dt = +0; inv_dt = +0; remaining_time = rest })
    → d ≡ axes_of b → coordinates d gravity ≡ vector_at d b gravity_offset
    → (least ≡ byte_at b min_pressure_iter_offset) × (least < 256)
    → (most ≡ byte_at b max_pressure_iter_offset) × (most < 256)
    → StepHeaderIs (scene_of b)
    (record {
      clock = clock;
      gravity = gravity;
      stopping = record { min_pressure_iter = least; max_pressure_iter = most; max_density_error = limit };
    })
unfolding clock_of header_of scene_of
step_header_made b te re le ce axes ge least most =
    record {
      clock_is = rw (ce, te, re);
      gravity_is = rw axes at ge;
      stopping_is = record { least = least.0; most = most.0; limit = le; few = most.1 };
    }
