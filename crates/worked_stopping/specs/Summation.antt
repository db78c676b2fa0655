-- Worked examples of both summations: three terms whose sums differ, fluids of one, several fluids, and what the work
-- list needs. Their answers were worked out as those of worked_examples. Definitions only.
use Rattle.std.specs.Prelude.{ℕ, false, List, [], ◌∷◌}
use Rattle.math.specs.Real.{bits}
use Rattle.scene_format.specs.Packed.{fluid, fluid_record, contact, v3, zero3}
use Rattle.scene_format.specs.declared.Refusal.TheVariants.{ShortList, ZeroDensity}
use Rattle.iisph_rules.specs.declared.Ending.{Ending}
use Rattle.iisph_rules.specs.declared.Ending.TheVariants.{Settled, RanOut}
use Rattle.iisph_rules.specs.declared.Report.{Report}
use Rattle.worked_examples.specs.Row.{Row, done, refused, iterated, report, after}
use Rattle.worked_examples.specs.PassedOver.{still}
use Rattle.worked_examples.specs.Scenes.{pair, bits·1, bits·-1, bits·2, bits·3, bits·4, bits·0·05, bits·-0}
use Rattle.worked_stopping.specs.Stopping.{ruled, limited, thin, moving}

-- 2^-52, 2^-53, and -2^-52
abbrev pub bits·2^-52 : ℕ
bits·2^-52 = 0x3CB0000000000000

abbrev pub bits·2^-53 : ℕ
bits·2^-53 = 0x3CA0000000000000

abbrev pub bits·-2^-52 : ℕ
bits·-2^-52 = 0xBCB0000000000000

-- ---- scenes, of one iteration at most

-- fluid number m of three particles, of which the first runs into the second, and the others slowly into each other. In
-- the first iteration their terms are 2, 2^-52 and 2^-52 by either criterion
unfoldable pub three : ℕ → List ℕ
three m =
    fluid bits·1
    (fluid_record zero3 (v3 bits·4 0 0) zero3 bits·1 0 (contact m 1 bits·1 (v3 bits·1 0 0) ∷ []) []
    ∷ fluid_record zero3 (v3 bits·2^-52 0 0) zero3 bits·1 0 (contact m 2 bits·1 (v3 bits·1 0 0) ∷ []) []
    ∷ fluid_record zero3 (v3 bits·-2^-52 0 0) zero3 bits·1 0 (contact m 1 bits·1 (v3 bits·-1 0 0) ∷ []) []
    ∷ [])

-- fluid number m of one particle, whose rest density is below 0 and equals its density: its term is -0
unfoldable pub minus_zero : ℕ → List ℕ
minus_zero m = thin m bits·-1 bits·1

-- fluid number m of two particles that rest: their terms are +0
unfoldable pub resting : ℕ → List ℕ
resting m = pair m bits·1 bits·1 0 0 0

unfoldable pub once : ℕ → ℕ → List (List ℕ) → List ℕ
once rule limit fluids = ruled rule (limited limit 1) fluids

-- a fluid of one, which touches nothing
unfoldable pub torn : ℕ → List ℕ
torn rule = once rule bits·0·05 (fluid bits·1 (fluid_record zero3 zero3 zero3 bits·1 0 [] [] ∷ []) ∷ [])

-- ---- errors and answers

-- 2 / 3, and (2 + 2^-51) / 3
abbrev pub in_order : ℕ
in_order = 0x3FE5555555555555

abbrev pub by_halves : ℕ
by_halves = 0x3FE5555555555557

abbrev pub reported : Ending → Report
reported ending = report ending 1 bits·1 bits·1 bits·-1

abbrev pub three_move : List ℕ → List ℕ
three_move more = moving bits·3 bits·1 (still bits·2^-53 (still bits·2^-53 more))

abbrev pub minus_zero_moves : List ℕ → List ℕ
minus_zero_moves more = moving 0x4020000000000000 bits·2 more

-- ---- rows

unfoldable pub summation : List Row
summation =
    -- three terms: in order both small ones are lost beside the 2, by halves they meet first. All else is the same, but
    -- for a double of work more for each particle
    done (once 0 bits·0·05 (three 0 ∷ [])) (reported (RanOut (bits in_order) false)) (three_move []) 42
    ∷ done (once 2 bits·0·05 (three 0 ∷ [])) (reported (RanOut (bits by_halves) false)) (three_move []) 45
    ∷ done (once 1 bits·0·05 (three 0 ∷ [])) (reported (RanOut (bits in_order) false)) (three_move []) 42
    ∷ done (once 3 bits·0·05 (three 0 ∷ [])) (reported (RanOut (bits by_halves) false)) (three_move []) 45
    -- so a limit may be met one way and not the other
    ∷ done (once 0 in_order (three 0 ∷ [])) (reported (Settled (bits in_order) false)) (three_move []) 42
    ∷ done (once 2 in_order (three 0 ∷ [])) (reported (RanOut (bits by_halves) false)) (three_move []) 45
    -- the added doubles are asked for, and cleared by refusal 9
    ∷ refused (once 2 bits·0·05 (three 0 ∷ [])) 21 44 ShortList 0
    ∷ refused (torn 1) 7 16 (ZeroDensity 62) 14
    ∷ refused (torn 3) 7 16 (ZeroDensity 62) 15
    -- a fluid of one: by halves the sum is its term, with no +0 before it. The Rust's error does not show it
    ∷ done (once 1 bits·-0 (minus_zero 0 ∷ [])) (reported (Settled (bits 0) false)) (minus_zero_moves []) 14
    ∷ done (once 3 bits·-0 (minus_zero 0 ∷ [])) (reported (Settled (bits bits·-0) false)) (minus_zero_moves []) 15
    ∷ done (once 2 bits·-0 (minus_zero 0 ∷ [])) (reported (Settled (bits 0) false)) (minus_zero_moves []) 15
    -- of averages -0 and +0 the earlier
    ∷ done (once 3 0 (minus_zero 0 ∷ resting 1 ∷ [])) (reported (Settled (bits bits·-0) false))
    (minus_zero_moves (still 0 (still 0 [])))
    45
    ∷ done (once 3 0 (resting 0 ∷ minus_zero 1 ∷ [])) (reported (Settled (bits 0) false))
    (still 0 (still 0 (minus_zero_moves [])))
    45
    -- each fluid is summed by itself, and one without particles not at all
    ∷ iterated (once 3 0 (three 0 ∷ fluid bits·1 [] ∷ minus_zero 2 ∷ []))
    (after (bits·1 ∷ bits·2^-53 ∷ bits·2^-53 ∷ bits·2 ∷ []) (by_halves ∷ bits·-0 ∷ []) by_halves false ∷ [])
    ∷ iterated (once 2 0 (minus_zero 0 ∷ fluid bits·1 [] ∷ three 2 ∷ []))
    (after (bits·2 ∷ bits·1 ∷ bits·2^-53 ∷ bits·2^-53 ∷ []) (bits·-0 ∷ by_halves ∷ []) by_halves false ∷ [])
    ∷ []
