-- What is claimed of calls of `step`, each claim as one type: that they answer just the accepted scenes, and locality
-- of two of them (METHOD 8). The claims on the rules stand in iisph_rules/specs/Locality.antt; proofs/TwoSteps.antt
-- proves these from them. Definitions only.
use Rattle.std.specs.Prelude.{ℕ, ◌+◌, ◌<◌, ◌≤◌, ◌≡◌, List, ◌++◌, Float, length, drop}
use Rattle.scene_format.specs.Bytes.{Bytes, byte_at}
use Rattle.scene_format.specs.Format.{min_pressure_iter_offset, max_pressure_iter_offset}
use Rattle.scene_format.specs.Scene.{fluid_size}
use Rattle.scene_format.specs.SceneOf.{scene_of}
use Rattle.scene_check.specs.Same.{SameShape}
use Rattle.scene_lengths.specs.Lengths.{answers_needed}
use Rattle.iisph_rules.specs.Answer.{LongEnough, Accepted}
use Rattle.iisph_rules.specs.Locality.{SameAround, answers_for}
use Rattle.iisph_rules.specs.Step.{answers_of}
use Rattle.iisph_rules.specs.declared.Report.{Report}
use Rattle.iisph_rules.specs.Step.{StepAnswer}
use Rattle.std.specs.declared.result.Result.TheVariants.{Ok}
use Rattle.iisph_lent.specs.Step.{Steps}

-- a call on the bytes b that is done: its report, and both lists before and after
pub record DoneCall (b : List ℕ) : Type 0 where
  pub report : Report
  pub answers : List Float
  pub work : List Float
  pub answers' : List Float
  pub work' : List Float
  pub bytes : Bytes b
  pub steps : Steps b answers work (Ok report) answers' work'

-- ---- one call

-- every call with long enough lists answers an accepted scene
abbrev pub AcceptedCalled : Type 0
AcceptedCalled =
    (b : List ℕ) (a : Accepted b) (answers work answers' work' : List Float) (r : StepAnswer)
    → LongEnough b (length answers) (length work) → Steps b answers work r answers' work'
    → (r ≡ Ok a.report) × (answers' ≡ answers_of (scene_of b) ++ drop (answers_needed (scene_of b)) answers)

-- a call that is done shows that its scene is accepted and what is reported
abbrev pub CallAccepted : Type 0
CallAccepted = (b : List ℕ) (x : DoneCall b) → (a : Accepted b) × (a.report ≡ x.report)

-- where the least iterations plus one are at least the most, it takes the most
abbrev pub CallTakesMost : Type 0
CallTakesMost =
    (b : List ℕ) (x : DoneCall b) → byte_at b max_pressure_iter_offset ≤ byte_at b min_pressure_iter_offset + 1
    → x.report.iterations ≡ byte_at b max_pressure_iter_offset

-- ---- two calls

-- two calls on packed scenes with the same header and the same counts, both done after k iterations, whatever the lists
-- held before: fluid particle i has the same position, velocity and pressure in both answer lists, if every fluid
-- particle within 2 k + 2 links of it has the same record and rest density, and every boundary particle that these name
-- the same record
abbrev pub StepLocality : Type 0
StepLocality =
    (k : ℕ) (b b' : List ℕ) (x : DoneCall b) (y : DoneCall b') → SameShape b b'
    → x.report.iterations ≡ k → y.report.iterations ≡ k
    → (i : ℕ) → i < fluid_size (scene_of b) → SameAround k b b' i
    → answers_for b i x.answers' ≡ answers_for b' i y.answers'

-- k need not be fixed before: whichever number of iterations the calls take, if both take the same, it is their k
abbrev pub StepSameNumber : Type 0
StepSameNumber =
    (b b' : List ℕ) (x : DoneCall b) (y : DoneCall b') → SameShape b b'
    → x.report.iterations ≡ y.report.iterations
    → (i : ℕ) → i < fluid_size (scene_of b) → SameAround x.report.iterations b b' i
    → answers_for b i x.answers' ≡ answers_for b' i y.answers'
