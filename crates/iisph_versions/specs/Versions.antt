-- What version and rule of a packed scene change (FORMAT 1): a version acts through its number of axes, on which the
-- layout depends, and through the rules that it has. Version 2 has as many axes as version 1 and a rule where that has
-- zeros, so with rule 0 both have one result. A rule, in the plane as in space, acts through the error of the
-- iterations alone, so where there are as many of them the answers are the same by every rule. Each claim is one type,
-- and proofs/ proves it. Definitions only.
use Rattle.std.specs.Prelude.{ℕ, ◌+◌, ◌*◌, ◌≤◌, ◌≡◌, true, List, [], ◌∷◌, Float, length}
use Rattle.scene_format.specs.Bytes.{byte_at}
use Rattle.scene_format.specs.Format.{half_modulus, lower_half, version_of, first_version, ruled_version, version_known}
use Rattle.scene_format.specs.Format.{axes_of, rule_of, most_rule, criterion_of, summation_of, min_pressure_iter_offset}
use Rattle.scene_format.specs.Format.{model_number, locations_of}
use Rattle.scene_format.specs.Scene.{Scene, Header}
use Rattle.scene_format.specs.SceneOf.{scene_of}
use Rattle.scene_format.specs.declared.Criterion.{Criterion}
use Rattle.scene_format.specs.declared.Kind.{Kind}
use Rattle.scene_format.specs.declared.Summation.{Summation}
use Rattle.scene_check.specs.Walk.{checked}
use Rattle.iisph_rules.specs.Step.{answers_of}
use Rattle.iisph_rules.specs.Answer.{step_answer, answers_after, work_after, Accepted}
use Rattle.iisph_rules.specs.PassedOver.{iteration_at}

-- ---- two packed scenes

-- they are the same but for version and rule, each half of one of the first two bytes, and have as many axes
pub record SameButForm (b b' : List ℕ) : Type 0 where
  pub long : length b ≡ length b'
  pub axes : axes_of b ≡ axes_of b'
  pub models : (κ : Kind) → model_number κ b ≡ model_number κ b'
  pub behind : (at : ℕ) → min_pressure_iter_offset ≤ at → byte_at b at ≡ byte_at b' at

-- the version is known, and the rule is one of that version's: refusal 2 meets neither
pub record KnownForm (b : List ℕ) : Type 0 where
  pub version : version_known (version_of b) ≡ true
  pub rule : rule_of b ≤ most_rule (version_of b)

-- a step answers the same and leaves the same in both lists, whatever their lengths are and what they held before
pub record SameResult (b b' : List ℕ) : Type 0 where
  pub answered : (answers work : ℕ) → step_answer b answers work ≡ step_answer b' answers work
  pub answer_list : (answers work : ℕ) (old : List Float)
      → answers_after b answers work old ≡ answers_after b' answers work old
  pub work_list : (answers work : ℕ) (old : List Float) → work_after b answers work old ≡ work_after b' answers work old

-- ---- the claims, of any two that are the same but for version and rule

-- the scene by another criterion and summation
unfoldable pub header_by : Criterion → Summation → Header → Header
header_by criterion summation h =
    record {
      axes = h.axes;
      criterion = criterion;
      summation = summation;
      min_pressure_iter = h.min_pressure_iter;
      max_pressure_iter = h.max_pressure_iter;
      total_step_size = h.total_step_size;
      remaining_time = h.remaining_time;
      max_density_error = h.max_density_error;
      gravity = h.gravity;
    }

unfoldable pub scene_by : Criterion → Summation → Scene → Scene
scene_by criterion summation s =
    record {
      header = header_by criterion summation s.header;
      fluid_counts = s.fluid_counts;
      fluid_particles = s.fluid_particles;
      boundary_particles = s.boundary_particles;
    }

-- of version and rule the scene has these two and nothing else, and where its records stand depends on neither
abbrev pub SameScenes : Type 0
SameScenes =
    (b b' : List ℕ) → SameButForm b b'
    → scene_of b' ≡ scene_by (criterion_of (rule_of b')) (summation_of (rule_of b')) (scene_of b)

abbrev pub SameLocations : Type 0
SameLocations = (b b' : List ℕ) → SameButForm b b' → (κ : Kind) → locations_of κ b ≡ locations_of κ b'

-- the check only through refusal 2
abbrev pub SameChecks : Type 0
SameChecks = (b b' : List ℕ) → SameButForm b b' → KnownForm b → KnownForm b' → checked b ≡ checked b'

-- ---- the claims, of versions

-- with one rule, the step only through refusal 2
abbrev pub SameResults : Type 0
SameResults =
    (b b' : List ℕ) → SameButForm b b' → rule_of b ≡ rule_of b' → KnownForm b → KnownForm b' → SameResult b b'

-- the same bytes with another version's number
unfoldable pub as_version : ℕ → List ℕ → List ℕ
as_version version [] = []
as_version version (x ∷ b) = (half_modulus * version + lower_half x) ∷ b

-- as version 2, with rule 0, a scene has the result that it has as version 1
abbrev pub RuleZeroSame : Type 0
RuleZeroSame = (b : List ℕ) → version_of b ≡ first_version → rule_of b ≡ 0 → SameResult (as_version ruled_version b) b

-- ---- the claims, of rules

-- after each iteration the pressures are the same by every criterion and summation
abbrev pub SamePressures : Type 0
SamePressures =
    (criterion : Criterion) (summation : Summation) (s : Scene) (k : ℕ)
    → (iteration_at (scene_by criterion summation s) k).pressures ≡ (iteration_at s k).pressures

-- a rule that the version has makes no other scene refused
abbrev pub RuleRefusesNone : Type 0
RuleRefusesNone = (b b' : List ℕ) → SameButForm b b' → KnownForm b → KnownForm b' → Accepted b → Accepted b'

-- where two steps take as many iterations, the answers are the same: a rule acts through that number alone
abbrev pub RuleByIterations : Type 0
RuleByIterations =
    (b b' : List ℕ) → SameButForm b b' → (a : Accepted b) (a' : Accepted b')
    → a.report.iterations ≡ a'.report.iterations
    → (answers_of (scene_of b) ≡ answers_of (scene_of b')) × (a.report.clock ≡ a'.report.clock)
