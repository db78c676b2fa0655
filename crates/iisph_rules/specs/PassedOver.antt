-- What the yes or no of an iteration's error tells (METHOD 6.4, 7.1), each claim as one type: under the Rust's
-- criterion yes exactly if some average is not a number, and an ending carries that of the last iteration.
-- proofs/PassedOver.antt proves the claims. Definitions only.
use Rattle.std.specs.Prelude.{ℕ, zero, suc, ◌<◌, ◌≡◌, true, ◌↔◌, List, [], ◌∷◌, Float, length, get_or, take, drop}
use Rattle.std.specs.Float.{nan}
use Rattle.math.specs.Real.{+0}
use Rattle.lists.specs.Lists.{sum}
use Rattle.scene_format.specs.Scene.{Scene}
use Rattle.scene_format.specs.SceneOf.{scene_of}
use Rattle.scene_format.specs.declared.Criterion.TheVariants.{Salva}
use Rattle.scene_format.specs.declared.Summation.{Summation}
use Rattle.iisph_rules.specs.Coefficients.{coefficients}
use Rattle.iisph_rules.specs.Iteration.{average, averages, error_of, Iteration, iteration}
use Rattle.iisph_rules.specs.Step.{first_pressures}
use Rattle.iisph_rules.specs.Answer.{Accepted}
use Rattle.iisph_rules.specs.Endings.{ending_values, ending_error}
use Rattle.iisph_rules.specs.declared.Ending.TheVariants.{Unswept}

-- ---- one iteration

-- one of these averages is not a number
abbrev pub SomeNan : List Float → Type 0
SomeNan xs = (k : ℕ) × (k < length xs) × (get_or xs k +0 ≡ nan)

-- yes exactly if some average is not a number
abbrev pub YesExactly : Type 0
YesExactly = (xs : List Float) → (error_of Salva xs).passed_over ≡ true ↔ SomeNan xs

-- fluid m is there and has particles, and the average of its terms, which stand behind those of the fluids before it,
-- is not a number
pub record NanFluid (summation : Summation) (counts : List ℕ) (terms : List Float) (m : ℕ) : Type 0 where
  pub there : m < length counts
  pub some : 0 < get_or counts m 0
  pub no_number : average summation (get_or counts m 0) (take (get_or counts m 0) (drop (sum (take m counts)) terms))
      ≡ nan

-- some average is not a number exactly if that of some fluid with particles is not
abbrev pub AveragesOfFluids : Type 0
AveragesOfFluids =
    (summation : Summation) (counts : List ℕ) (terms : List Float)
    → SomeNan (averages summation counts terms) ↔ ((m : ℕ) × NanFluid summation counts terms m)

-- ---- the iterations of a step

-- iteration number k of a scene's step, counted from 0
unfoldable pub iteration_at : Scene → ℕ → Iteration
iteration_at s zero = iteration s (coefficients s) (first_pressures s)
iteration_at s (suc k) = iteration s (coefficients s) (iteration_at s k).pressures

-- an ending carries the error of the last iteration, and where there was none it is unswept
abbrev pub EndingOfLast : Type 0
EndingOfLast =
    (b : List ℕ) (a : Accepted b)
    → ((k : ℕ) → a.report.iterations ≡ suc k
    → ending_values a.report.ending ≡ (iteration_at (scene_of b) k).error ∷ [])
    × (a.report.iterations ≡ 0 → a.report.ending ≡ Unswept)

-- so a step by the Rust's criterion whose last iteration is number k tells yes exactly if some average of that
-- iteration is not a number
abbrev pub PassedOverTold : Type 0
PassedOverTold =
    (b : List ℕ) (a : Accepted b) (k : ℕ) → (scene_of b).header.criterion ≡ Salva → a.report.iterations ≡ suc k
    → (ending_error a.report.ending).passed_over ≡ true ↔ SomeNan (iteration_at (scene_of b) k).averages
