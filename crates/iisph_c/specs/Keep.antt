-- What `iisph_step_keeping` returns, and every element of its five lists afterwards: as of `iisph_step`, and the clock
-- that its caller keeps. Definitions only.
use Rattle.std.specs.Prelude.{ℕ, ◌≡◌, Bool, ◌&&◌, List, leb, Float, length}
use Rattle.std.proofs.lemmas.List.Edits.{sets}
use Rattle.lists.specs.Lists.{choose}
use Rattle.iisph_rules.specs.Answer.{step_answer}
use Rattle.iisph_rules.specs.Step.{StepAnswer}
use Rattle.iisph_kept.specs.Kept.{clock_after}
use Rattle.iisph_codes.specs.ClockList.{clock_needed, clock_numbers, clock_of}
use Rattle.iisph_c.specs.Step.{has_room, StepsTo}

-- the clock that the list begins with is as a step leaves a clock that is lent
unfoldable pub clock_list_after : StepAnswer → List Float → List Float
clock_list_after a old = sets old 0 (clock_numbers (clock_after a (clock_of old)))

-- whether all three lists are long enough
unfoldable pub keeps_room : List Float → List Float → List ℕ → Bool
keeps_room clock numbers counts = leb clock_needed (length clock) && has_room numbers counts

-- of the bytes b and the five lists: the result r, and the lists afterwards
pub record KeepsTo (b : List ℕ) (clock answers work numbers : List Float) (counts : List ℕ) (r : ℕ)
    (clock' answers' work' numbers' : List Float) (counts' : List ℕ) : Type 0 where
  pub steps : StepsTo (keeps_room clock numbers counts) b answers work numbers counts r answers' work' numbers' counts'
  pub clock_then : clock'
      ≡ choose (keeps_room clock numbers counts) (clock_list_after (step_answer b (length answers) (length work)) clock)
      clock
