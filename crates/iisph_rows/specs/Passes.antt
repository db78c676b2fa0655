-- What a pass may rely on and what the first passes store in the work list, by the rules. Scaffolding: no promise rests
-- on it. Definitions only.
use Rattle.std.specs.Prelude.{ℕ, ◌+◌, ◌≤◌, ◌≡◌, List, [], ◌∷◌, ltb, Float, length}
use Rattle.iisph_rules.specs.Coefficients.{dt, volume_from, boundary_volume, particle_mass, advected_velocity}
use Rattle.lists.specs.Lists.{choose, table}
use Rattle.math.specs.Real.{◌⊗◌, half}
use Rattle.math.specs.Vector.{coordinates}
use Rattle.math.specs.declared.Vec3.{Vec3}
use Rattle.scene_format.specs.Format.{axes_of, boundary_record_width, boundary_contact_count}
use Rattle.scene_format.specs.Scene.{Scene, fluid_size, boundary_size, particle, boundary}
use Rattle.scene_format.specs.SceneOf.{boundary_weights, scene_of}
use Rattle.scene_index.specs.Index.{Indexed}
use Rattle.iisph_rows.specs.declared.over.Drive.{Drive}
use Rattle.iisph_rows.specs.declared.over.Over.{Over}
use Rattle.iisph_rows.specs.Rows.{volumes_at, dij_slot, mass_slot, Rows, Behind}
use Rattle.std.specs.declared.option.Option.{Option}
use Rattle.std.specs.declared.option.Option.TheVariants.{Some, None}

-- ---- what a pass may rely on

-- an accepted packed scene b with its index, the number d of its axes and the number n of its fluid particles
pub record PassOver (b index : List ℕ) (d n : ℕ) : Type 0 where
  pub indexed : Indexed b index
  pub axes : d ≡ axes_of b
  pub size : n ≡ fluid_size (scene_of b)

-- what a pass that needs dt may rely on besides: t is that of the clock which the step has advanced
pub record TimedPass (b index : List ℕ) (d n : ℕ) (t : Float) : Type 0 where
  pub over : PassOver b index d n
  pub dt_is : t ≡ dt (scene_of b)

-- what a pass that needs gravity too may rely on besides
pub record DrivenPass (b index : List ℕ) (d n : ℕ) (t : Float) (gravity : Vec3) : Type 0 where
  pub timed : TimedPass b index d n t
  pub gravity_is : coordinates d gravity ≡ (scene_of b).header.gravity

-- the same of what a pass is handed
abbrev pub PassOn : Over → Type 0
PassOn over = PassOver over.scene.now over.index.now over.dim over.n

abbrev pub TimedOn : Over → Float → Type 0
TimedOn over t = TimedPass over.scene.now over.index.now over.dim over.n t

abbrev pub DrivenOn : Over → Drive → Type 0
DrivenOn over drive = DrivenPass over.scene.now over.index.now over.dim over.n drive.dt drive.gravity

-- room for rows and columns of n particles, for d axes, and for the volumes
abbrev pub Room : Scene → ℕ → ℕ → List Float → Type 0
Room s d n work = volumes_at d n + boundary_size s ≤ length work

-- ---- what is stored of a particle

abbrev pub mass_row : Scene → ℕ → List Float
mass_row s i = particle_mass (particle s i) ∷ []

abbrev pub advected_row : Scene → ℕ → List Float
advected_row s i = advected_velocity s (particle s i)

-- the pressure before the iterations
abbrev pub first_pressure : Scene → ℕ → Float
first_pressure s i = (particle s i).warm_pressure ⊗ half

abbrev pub volumes : Scene → List Float
volumes s = table (boundary_size s) (λ j. boundary_volume (boundary s j))

-- the volume of a boundary particle whose record is at an offset; k is 1 where forces are kept
unfoldable pub volume_at : List ℕ → ℕ → ℕ → Float
volume_at b k at =
    volume_from (boundary_weights b (boundary_contact_count b k at) (at + boundary_record_width (axes_of b) k))

-- ---- what the coefficients find: masses, advected velocities and volumes

pub record CoefficientsReady (s : Scene) (d n : ℕ) (work : List Float) : Type 0 where
  pub room : Room s d n work
  pub mass : Rows d n mass_slot (mass_row s) work
  pub advected : Rows d n dij_slot (advected_row s) work
  pub volume : Behind d n (volumes s) work

-- ---- a number below n, or none

unfoldable pub found_below : ℕ → ℕ → Option ℕ
found_below n i = choose (ltb i n) (Some i) None
