-- What a worked example is, and what it says of the definitions. A double is given by its 64 bits, every not-a-number
-- by 7FF8000000000000. Definitions only.
use Rattle.std.specs.Prelude.{ℕ, zero, suc, ◌+◌, ◌-◌, ◌≡◌, Bool, false, List, [], ◌∷◌, ◌++◌, map, length, replicate}
use Rattle.std.specs.Prelude.{Float}
use Rattle.math.specs.Real.{bits}
use Rattle.math.specs.Rows as math
use Rattle.scene_format.specs.Scene.{Scene}
use Rattle.scene_format.specs.SceneOf.{scene_of}
use Rattle.scene_format.specs.declared.Criterion.{Criterion}
use Rattle.scene_format.specs.declared.Refusal.{Refusal}
use Rattle.scene_format.specs.Refusals.{Walk}
use Rattle.scene_check.specs.Walk.{checked}
use Rattle.scene_lists.specs.Lists.{list_answer}
use Rattle.scene_lists.specs.declared.Contacts.{Contacts}
use Rattle.iisph_rules.specs.Coefficients as rules
use Rattle.iisph_rules.specs.Coefficients.{Coefficients, boundary_volume}
use Rattle.iisph_rules.specs.Iteration.{error_of, Iteration, iteration}
use Rattle.iisph_rules.specs.Step.{first_pressures, StepAnswer}
use Rattle.iisph_rules.specs.Answer.{step_answer, answers_after, work_after}
use Rattle.iisph_rules.specs.declared.Ending.{Ending}
use Rattle.iisph_rules.specs.declared.Report.{Report}
use Rattle.scene_lists.specs.Lists.{ListAnswer}
use Rattle.std.specs.declared.result.Result.TheVariants.{Ok, Err}

-- ---- rows

pub data Row : Type 0 where
  -- a value of the kernel, or of the functions on doubles
  value : math.Row → Row
  -- a packed scene, and what the check's walk says of it: where it ends, or a refusal
  checks : List ℕ → Walk → Row
  -- a packed scene, one of its contact lists, of a model and a particle, and what the check of that list answers
  looks : List ℕ → Contacts → ℕ → ℕ → ListAnswer → Row
  -- a packed scene that is accepted, its report, its answers, and how many doubles of work it needs
  done : List ℕ → Report → List ℕ → ℕ → Row
  -- a packed scene that is refused, with an answer and a work list of these lengths, and how many doubles of work are
  -- cleared
  refused : List ℕ → ℕ → ℕ → Refusal → ℕ → Row
  -- the coefficients of a packed scene's fluid particles
  before : List ℕ → List Coefficients → Row
  -- what each of the first iterations on a packed scene makes
  iterated : List ℕ → List Iteration → Row
  -- averages, the error that a criterion finds of them, and whether an average was passed over
  found : Criterion → List ℕ → ℕ → Bool → Row
  -- a boundary particle's weights and its volume
  volume_of : List ℕ → ℕ → Row

-- an ending and a number of iterations; dt, inv_dt and remaining time
unfoldable pub report : Ending → ℕ → ℕ → ℕ → ℕ → Report
report ending iterations dt inv remaining =
    record {
      clock =
          record {
            total_step_size = bits dt;
            dt = bits dt;
            inv_dt = bits inv;
            remaining_time = bits remaining;
          };
      iterations = iterations;
      ending = ending;
    }

-- density, predicted density, dii, aii
unfoldable pub coefficients : ℕ → ℕ → List ℕ → ℕ → Coefficients
coefficients density predicted dii aii =
    record { density = bits density; predicted_density = bits predicted; dii = map bits dii; aii = bits aii }

-- the pressures after an iteration, its averages and its error, and whether an average was passed over
unfoldable pub after : List ℕ → List ℕ → ℕ → Bool → Iteration
after ps averages error passed_over =
    record {
      pressures = map bits ps;
      averages = map bits averages;
      error = record { value = bits error; passed_over = passed_over };
    }

-- ---- what they say

-- what a call answers, and both lists after it
pub record Outcome : Type 0 where
  pub answer : StepAnswer
  pub answers : List Float
  pub work : List Float

-- n doubles, 7 each, that a call overwrites or leaves
abbrev pub old : ℕ → List Float
old n = replicate n (bits 0x401C000000000000)

-- of a call with lists of these lengths
unfoldable pub called : List ℕ → ℕ → ℕ → Outcome
called b answers work =
    record {
      answer = step_answer b answers work;
      answers = answers_after b answers work (old answers);
      work = work_after b answers work (old work);
    }

-- n iterations, one after the other, from given pressures on
unfoldable pub iterations : Scene → List Float → ℕ → List Iteration
iterations s ps zero = []
iterations s ps (suc n) =
    let it = iteration s (rules.coefficients s) ps in
    it ∷ iterations s it.pressures n

-- a row that is done is called with one element more in each list than needed
abbrev pub Holds : Row → Type 0
Holds (value r) = r.yields ≡ r.value
Holds (checks b w) = checked b ≡ w
Holds (looks b c m j a) = list_answer b c m j ≡ a
Holds (done b r answers work) =
    called b (length answers + 1) (work + 1)
    ≡ record { answer = Ok r; answers = map bits answers ++ old 1; work = replicate work (bits 0) ++ old 1 }
Holds (refused b answers work r cleared) =
    called b answers work
    ≡ record {
      answer = Err r;
      answers = old answers;
      work = replicate cleared (bits 0) ++ old (work - cleared);
    }
Holds (before b co) = rules.coefficients (scene_of b) ≡ co
Holds (iterated b its) = iterations (scene_of b) (first_pressures (scene_of b)) (length its) ≡ its
Holds (found criterion averages error passed_over) =
    error_of criterion (map bits averages) ≡ record { value = bits error; passed_over = passed_over }
Holds (volume_of weights v) =
    boundary_volume (record { velocity = []; keeps_forces = false; force = []; weights = map bits weights }) ≡ bits v

infixr 50 ◌and◌
-- it holds of every element
pub data All {A : Type 0} (P : A → Type 0) : List A → Type 0 where
  none : All P []
  ◌and◌ : {x : A} {xs : List A} → P x → All P xs → All P (x ∷ xs)
