-- Worked examples of Ihmsen's criterion: the customer's scene B in version 2, and further ones, some beside the Rust's
-- criterion on the same scene. Their answers were worked out as those of worked_examples. Definitions only.
use Rattle.std.specs.Prelude.{ℕ, true, false, List, [], ◌∷◌}
use Rattle.math.specs.Real.{bits}
use Rattle.scene_format.specs.Packed.{Header, packed_as, fluid, fluid_record, contact, v3, zero3}
use Rattle.scene_format.specs.declared.Criterion.TheVariants.{Salva, Ihmsen}
use Rattle.iisph_rules.specs.declared.Ending.TheVariants.{Settled, RanOut}
use Rattle.worked_examples.specs.Row.{Row, done, iterated, found, report, after}
use Rattle.worked_examples.specs.PassedOver.{overflowing, still, lost}
use Rattle.worked_examples.specs.Scenes.{header_b, pair, bits·1, bits·-1, bits·2, bits·4, bits·½, bits·-½, bits·¼}
use Rattle.worked_examples.specs.Scenes.{bits·-¼, bits·-0, bits·∞, bits·-∞, bits·nan}
use Rattle.worked_examples.specs.Starred.{answers_b}

-- ---- scenes, in version 2 and by a rule

unfoldable pub ruled : ℕ → Header → List (List ℕ) → List ℕ
ruled rule header fluids = packed_as 2 rule header fluids []

-- scene B, with the most iterations
unfoldable pub scene_b2 : ℕ → ℕ → List ℕ
scene_b2 rule most = ruled rule (header_b 1 most) (pair 0 bits·1 bits·1 bits·1 bits·-1 0 ∷ [])

-- scene B's header with another limit, and any number of iterations up to the most
unfoldable pub limited : ℕ → ℕ → Header
limited limit most =
    record {
      min_pressure_iter = 0;
      max_pressure_iter = most;
      total_step_size = bits·1;
      remaining_time = 0;
      max_density_error = limit;
      gravity = zero3;
    }

-- a limit of -0.25
unfoldable pub below_zero : ℕ → Header
below_zero most = limited bits·-¼ most

-- fluid number m of one particle of mass 1 and density 1, which touches itself alone: where the rest density is above
-- 1, its warm pressure holds it apart, and both criteria's averages are below 0
unfoldable pub thin : ℕ → ℕ → ℕ → List ℕ
thin m density0 volume =
    fluid density0
    (fluid_record zero3 zero3 zero3 volume bits·4 (contact m 0 bits·1 (v3 bits·2 0 0) ∷ []) [] ∷ [])

-- averages of -0.25 and of -0.375
unfoldable pub quarter : ℕ → List ℕ
quarter m = thin m bits·2 bits·½

unfoldable pub three_eighths : ℕ → List ℕ
three_eighths m = thin m bits·4 bits·¼

unfoldable pub alone : ℕ → ℕ → List ℕ
alone rule most = ruled rule (below_zero most) (quarter 0 ∷ [])

-- an average that is not a number, behind one of 0 and before one of 1
unfoldable pub nan_behind : List ℕ
nan_behind = ruled 1 (header_b 0 1) (pair 0 bits·1 bits·1 0 0 0 ∷ overflowing 1 ∷ [])

unfoldable pub nan_before : List ℕ
nan_before = ruled 1 (header_b 0 2) (overflowing 0 ∷ pair 1 bits·1 bits·1 bits·1 bits·-1 0 ∷ [])

-- ---- answers

-- a particle on the x axis: its position, which is its velocity, and its pressure
abbrev pub moving : ℕ → ℕ → List ℕ → List ℕ
moving x pressure more = x ∷ 0 ∷ 0 ∷ x ∷ 0 ∷ 0 ∷ pressure ∷ more

-- of `quarter` and `three_eighths` after one iteration
abbrev pub quarter_moves : List ℕ → List ℕ
quarter_moves more = moving 0xC01F000000000000 0x3FFF000000000000 more

abbrev pub three_eighths_moves : List ℕ → List ℕ
three_eighths_moves more = moving 0xC01D000000000000 0x3FFD000000000000 more

-- ---- rows

unfoldable pub stopping : List Row
stopping =
    -- scene B by the paper's criterion: errors 1 and 0, settled after 2
    iterated (scene_b2 1 50)
    (after (bits·½ ∷ bits·½ ∷ []) (bits·1 ∷ []) bits·1 false ∷ after (bits·½ ∷ bits·½ ∷ []) (0 ∷ []) 0 false ∷ [])
    ∷ done (scene_b2 1 50) (report (Settled (bits 0) false) 2 bits·1 bits·1 bits·-1) answers_b 28
    -- and by the Rust's, as in version 1: errors 1 and 2
    ∷ done (scene_b2 0 2) (report (RanOut (bits bits·2) false) 2 bits·1 bits·1 bits·-1) answers_b 28
    -- an error below 0 meets a limit below 0; the Rust's does not fall below 0
    ∷ done (alone 1 50) (report (Settled (bits bits·-¼) false) 1 bits·1 bits·1 bits·-1) (quarter_moves []) 14
    ∷ done (alone 0 1) (report (RanOut (bits 0) false) 1 bits·1 bits·1 bits·-1) (quarter_moves []) 14
    -- the larger of two averages below 0, in both orders; two that are equal; beside a fluid without particles
    ∷ done (ruled 1 (below_zero 50) (quarter 0 ∷ three_eighths 1 ∷ []))
    (report (Settled (bits bits·-¼) false) 1 bits·1 bits·1 bits·-1)
    (quarter_moves (three_eighths_moves []))
    28
    ∷ done (ruled 1 (below_zero 50) (three_eighths 0 ∷ quarter 1 ∷ []))
    (report (Settled (bits bits·-¼) false) 1 bits·1 bits·1 bits·-1)
    (three_eighths_moves (quarter_moves []))
    28
    ∷ done (ruled 1 (below_zero 50) (quarter 0 ∷ quarter 1 ∷ []))
    (report (Settled (bits bits·-¼) false) 1 bits·1 bits·1 bits·-1)
    (quarter_moves (quarter_moves []))
    28
    ∷ done (ruled 1 (below_zero 50) (fluid bits·1 [] ∷ quarter 1 ∷ []))
    (report (Settled (bits bits·-¼) false) 1 bits·1 bits·1 bits·-1)
    (quarter_moves [])
    14
    -- no particles: +0
    ∷ done (ruled 1 (header_b 0 1) (fluid bits·1 [] ∷ [])) (report (Settled (bits 0) false) 1 bits·1 bits·1 bits·-1)
    [] 0
    -- an average that is not a number: so is the error, the iteration does not settle, and nothing is passed over
    ∷ done nan_behind (report (RanOut (bits bits·nan) false) 1 bits·1 bits·1 bits·-1) (still 0 (still 0 lost)) 42
    ∷ iterated nan_before
    (after (bits·∞ ∷ bits·½ ∷ bits·½ ∷ []) (bits·nan ∷ bits·1 ∷ []) bits·nan false
    ∷ after (0 ∷ bits·½ ∷ bits·½ ∷ []) (0 ∷ 0 ∷ []) 0 false
    ∷ [])
    -- averages by themselves: of equal ones the earlier, which shows on zeros; -infinity alone; none
    ∷ found Ihmsen (bits·-0 ∷ 0 ∷ []) bits·-0 false
    ∷ found Ihmsen (0 ∷ bits·-0 ∷ []) 0 false
    ∷ found Ihmsen (bits·-∞ ∷ bits·-∞ ∷ []) bits·-∞ false
    ∷ found Ihmsen (bits·-½ ∷ bits·∞ ∷ bits·1 ∷ []) bits·∞ false
    ∷ found Ihmsen (bits·1 ∷ bits·nan ∷ bits·2 ∷ []) bits·nan false
    ∷ found Ihmsen [] 0 false
    -- the same by the Rust's criterion
    ∷ found Salva (bits·-0 ∷ 0 ∷ []) 0 false
    ∷ found Salva (bits·-∞ ∷ bits·-∞ ∷ []) 0 false
    ∷ found Salva (bits·1 ∷ bits·nan ∷ bits·2 ∷ []) bits·2 true
    ∷ found Salva [] 0 false
    ∷ []
