-- What `iisph_step_keeping` comes to: its `clock` is too short; or the step is done, or it is not, as the number tells
-- that `iisph_step` returned. Assumes nothing.
use Prim.Native.Nat.{ℕ, ◌<◌, ◌≤◌}
use mathlib.Core.Path.{◌≡◌, refl, ap, ◌∙◌}
use mathlib.Core.Bool.{Bool, true, false}
use mathlib.Core.List.{List, [], ◌∷◌}
use native.Mathlib.Omega.{arith}
use lib.Ieee.{Float}
use lib.ListN.{length}
use lib.Seq.{sets}
use borrow.Author.Tests.{le-leb, lt-leb}
use Rattle.lists.specs.Lists.{choose}
use Rattle.timestep_manager.specs.declared.Clock.{Clock}
use Rattle.timestep_manager.specs.Clock.{advanced}
use Rattle.iisph_rules.specs.Answer.{step_answer}
use Rattle.iisph_rules.specs.Endings.{ending_number}
use Rattle.iisph_rules.specs.declared.Ending.{Ending}
use Rattle.iisph_rules.specs.declared.Ending.TheVariants.{Unswept, Settled, RanOut}
use Rattle.iisph_rules.specs.Step.{StepAnswer}
use Rattle.std.specs.declared.result.Result.TheVariants.{Ok, Err}
use Rattle.iisph_kept.specs.Kept.{clock_after}
use Rattle.iisph_codes.specs.Numbers.{too_short}
use Rattle.iisph_c.specs.Step.{step_code, has_room, StepsTo}
use Rattle.iisph_codes.specs.ClockList.{clock_needed, clock_numbers, clock_of}
use Rattle.iisph_c.specs.Keep.{clock_list_after, keeps_room, KeepsTo}

-- an ending's number is small
ending_few : (e : Ending) → ending_number e < too_short
unfolding ending_number
ending_few Unswept = omega arith
ending_few (Settled x t) = omega arith
ending_few (RanOut x t) = omega arith

-- a clock that is written where it stands
as_it_was : (l : List Float) → clock_needed ≤ length l → l ≡ sets l 0 (clock_numbers (clock_of l))
unfolding clock_numbers clock_of
as_it_was [] h = absurd (omega arith)
as_it_was (a ∷ []) h = absurd (omega arith)
as_it_was (a ∷ b ∷ []) h = absurd (omega arith)
as_it_was (a ∷ b ∷ c ∷ []) h = absurd (omega arith)
as_it_was (a ∷ b ∷ c ∷ d ∷ l) h = refl

-- what the number tells of the clock: h is whether there was room, a the step's answer
module _ (old : List Float) {n : ℕ} where
  moved : (h : Bool) (a : StepAnswer) → n ≡ choose h (step_code a) too_short → n < too_short
      → sets old 0 (clock_numbers (advanced (clock_of old))) ≡ choose h (clock_list_after a old) old
  unfolding choose step_code clock_list_after clock_after
  moved true (Ok r) e l = refl
  moved true (Err r) e l = absurd (omega (arith, e, l))
  moved false a e l = absurd (omega (arith, e, l))

  stayed : (h : Bool) (a : StepAnswer) → n ≡ choose h (step_code a) too_short → too_short ≤ n →
      clock_needed ≤ length old
      → old ≡ choose h (clock_list_after a old) old
  unfolding choose step_code clock_list_after clock_after
  stayed true (Ok r) e l room = absurd (omega (arith, e, l, ending_few r.ending))
  stayed true (Err r) e l room = as_it_was old room
  stayed false a e l room = refl

module _ (b : List ℕ) (clock answers work numbers : List Float) (counts : List ℕ) where
  pub clock_short : length clock < clock_needed
      → KeepsTo b clock answers work numbers counts too_short clock answers work numbers counts
  unfolding keeps_room choose
  clock_short h =
      let f = lt-leb clock_needed (length clock) h in
      record {
        steps = record {
          result = rw f;
          answers_then = rw f;
          work_then = rw f;
          numbers_then = rw f;
          counts_then =
              rw f;
        };
        clock_then = rw f;
      }

  module _ (room : clock_needed ≤ length clock) {n : ℕ} {answers' work' numbers' : List Float} {counts' : List ℕ}
      (s : StepsTo (has_room numbers counts) b answers work numbers counts n answers' work' numbers' counts') where
    -- as `iisph_step`, with this clock list
    keeps : {clock' : List Float}
        → clock'
        ≡ choose (has_room numbers counts) (clock_list_after (step_answer b (length answers) (length work)) clock) clock
        → KeepsTo b clock answers work numbers counts n clock' answers' work' numbers' counts'
    unfolding keeps_room
    keeps e = let t = le-leb clock_needed (length clock) room in record { steps = rw t s; clock_then = rw t e }

    pub done_kept : {c : Clock} {clock' : List Float} → n < too_short → c ≡ advanced (clock_of clock)
        → clock' ≡ sets clock 0 (clock_numbers c)
        → KeepsTo b clock answers work numbers counts n clock' answers' work' numbers' counts'
    done_kept l e f =
        keeps (f ∙ ap (λ (c : Clock). sets clock 0 (clock_numbers c)) e ∙ moved clock _ _ s.result l)

    pub not_done_kept : too_short ≤ n
        → KeepsTo b clock answers work numbers counts n clock answers' work' numbers' counts'
    not_done_kept l = keeps (stayed clock _ _ s.result l room)
