-- What an iteration's error tells under Ihmsen's criterion (METHOD 6.4, 7.1), each claim as one type: it is the largest
-- average, the earlier of equals, not a number exactly if some average is not, and nothing is passed over; a step that
-- settled by it holds every average of its last iteration to the limit. proofs/Largest.antt proves the claims.
-- Definitions only.
use Rattle.std.specs.Prelude.{ℕ, suc, ◌<◌, ◌≡◌, Bool, true, false, ◌↔◌, List, Float, length, get_or}
use Rattle.std.specs.Float.Ieee
use Rattle.std.specs.Float.{nan}
use Rattle.math.specs.Real.{+0}
use Rattle.scene_format.specs.SceneOf.{scene_of}
use Rattle.scene_format.specs.declared.Criterion.TheVariants.{Ihmsen}
use Rattle.iisph_rules.specs.Iteration.{error_of}
use Rattle.iisph_rules.specs.Answer.{Accepted}
use Rattle.iisph_rules.specs.Endings.{ending_error}
use Rattle.iisph_rules.specs.PassedOver.{SomeNan, iteration_at}
use Rattle.iisph_rules.specs.declared.Ending.TheVariants.{Settled}

-- ---- one iteration

-- not a number exactly if some average is not
abbrev pub NanExactly : Type 0
NanExactly = (xs : List Float) → (error_of Ihmsen xs).value ≡ nan ↔ SomeNan xs

-- the error is average number k: none is greater, and every earlier one is less
pub record LargestAt (xs : List Float) (k : ℕ) : Type 0 where
  pub there : k < length xs
  pub value : (error_of Ihmsen xs).value ≡ get_or xs k +0
  pub greatest : (j : ℕ) → j < length xs → Ieee.le (get_or xs j +0) (get_or xs k +0) ≡ true
  pub earliest : (j : ℕ) → j < k → Ieee.lt (get_or xs j +0) (get_or xs k +0) ≡ true

-- of averages that are numbers, the largest, the earlier of equals
abbrev pub EarliestLargest : Type 0
EarliestLargest = (xs : List Float) → 0 < length xs → (SomeNan xs → ⊥) → (k : ℕ) × LargestAt xs k

abbrev pub NothingPassedOver : Type 0
NothingPassedOver = (xs : List Float) → (error_of Ihmsen xs).passed_over ≡ false

-- ---- a step

-- a step by Ihmsen's criterion that settled with iteration number k: every average of that iteration is a number, and
-- at most the limit
abbrev pub SettledWithin : Type 0
SettledWithin =
    (b : List ℕ) (a : Accepted b) (k : ℕ) (error : Float) (passed_over : Bool)
    → (scene_of b).header.criterion ≡ Ihmsen → a.report.iterations ≡ suc k
    → a.report.ending ≡ Settled error passed_over
    → (j : ℕ) → j < length (iteration_at (scene_of b) k).averages
    → Ieee.le (get_or (iteration_at (scene_of b) k).averages j +0) (scene_of b).header.max_density_error ≡ true

-- a step by Ihmsen's criterion tells of no average that was passed over
abbrev pub NothingTold : Type 0
NothingTold =
    (b : List ℕ) (a : Accepted b) → (scene_of b).header.criterion ≡ Ihmsen
    → (ending_error a.report.ending).passed_over ≡ false
