-- Examples of our own on averages that are not numbers (METHOD 6.4): passed over, and told in the last iteration alone.
-- Their answers were worked out as those of Further.antt. Definitions only.
use Rattle.std.specs.Prelude.{ℕ, true, false, List, [], ◌∷◌}
use Rattle.math.specs.Real.{bits}
use Rattle.scene_format.specs.Packed.{packed, fluid, fluid_record, contact, v3, zero3}
use Rattle.iisph_rules.specs.declared.Ending.TheVariants.{Settled, RanOut}
use Rattle.worked_examples.specs.Row.{Row, done, iterated, report, after}
use Rattle.worked_examples.specs.Scenes.{header_b, pair, bits·1, bits·-1, bits·2, bits·4, bits·½, bits·-½, bits·∞}
use Rattle.worked_examples.specs.Scenes.{bits·-∞, bits·nan}

-- ---- scenes

-- fluid number m of one particle whose warm pressure, 1e308, makes the pressure sum overflow: its next pressure is
-- infinite and its error term not a number; the iteration after that makes the pressure not a number, and so +0
unfoldable pub overflowing : ℕ → List ℕ
overflowing m =
    fluid bits·1
    (fluid_record zero3 zero3 zero3 bits·1 0x7FE1CCF385EBC8A0 (contact m 0 bits·1 (v3 bits·2 0 0) ∷ []) [] ∷ [])

-- behind an average of 1, after one iteration; and behind one of 0
unfoldable pub nan_last : List ℕ
nan_last = packed (header_b 0 1) (pair 0 bits·1 bits·1 bits·1 bits·-1 0 ∷ overflowing 1 ∷ []) []

unfoldable pub nan_settled : List ℕ
nan_settled = packed (header_b 0 1) (pair 0 bits·1 bits·1 0 0 0 ∷ overflowing 1 ∷ []) []

-- before an average of 1, after two; and alone, where the second iteration settles
unfoldable pub nan_first : List ℕ
nan_first = packed (header_b 0 2) (overflowing 0 ∷ pair 1 bits·1 bits·1 bits·1 bits·-1 0 ∷ []) []

unfoldable pub nan_alone : List ℕ
nan_alone = packed (header_b 1 2) (overflowing 0 ∷ []) []

-- a particle of a fluid with the least normal double as rest density and mass 1: its warm pressure, and a contact of
-- weight 16 with particle number k
unfoldable pub light : ℕ → ℕ → ℕ → List ℕ
light warm k gradient =
    fluid_record zero3 zero3 zero3 0x7FD0000000000000 warm (contact 0 k 0x4030000000000000 (v3 gradient 0 0) ∷ []) []

-- the error terms are +0, -infinity and +infinity: none is not a number, but their sum is
unfoldable pub both_infinities : List ℕ
both_infinities =
    packed (header_b 0 1)
    (fluid 0x0010000000000000
    (light 0xC060000000000000 0 0 ∷ light 0 0 0x4030000000000000 ∷ light 0 2 0x4030000000000000 ∷ [])
    ∷ [])
    []

-- the last of them alone
unfoldable pub one_infinity : List ℕ
one_infinity = packed (header_b 0 1) (fluid 0x0010000000000000 (light 0 0 0x4030000000000000 ∷ []) ∷ []) []

-- ---- rows

-- a particle at rest at the origin, with a pressure; and the one that overflows
abbrev pub still : ℕ → List ℕ → List ℕ
still pressure more = 0 ∷ 0 ∷ 0 ∷ 0 ∷ 0 ∷ 0 ∷ pressure ∷ more

abbrev pub lost : List ℕ
lost = bits·-∞ ∷ bits·nan ∷ bits·nan ∷ bits·-∞ ∷ bits·nan ∷ bits·nan ∷ bits·∞ ∷ []

unfoldable pub passed_over : List Row
passed_over =
    -- one average is not a number: the other counts, settled or not, and the ending tells
    done nan_last (report (RanOut (bits bits·1) true) 1 bits·1 bits·1 bits·-1) (still bits·½ (still bits·½ lost)) 42
    ∷ done nan_settled (report (Settled (bits 0) true) 1 bits·1 bits·1 bits·-1) (still 0 (still 0 lost)) 42
    -- a yes in the first iteration, and no in the last, which the ending tells
    ∷ iterated nan_first
    (after (bits·∞ ∷ bits·½ ∷ bits·½ ∷ []) (bits·nan ∷ bits·1 ∷ []) bits·1 true
    ∷ after (0 ∷ bits·½ ∷ bits·½ ∷ []) (0 ∷ bits·2 ∷ []) bits·2 false
    ∷ [])
    ∷ done nan_first (report (RanOut (bits bits·2) false) 2 bits·1 bits·1 bits·-1)
    (still 0 (still bits·½ (still bits·½ [])))
    42
    ∷ done nan_alone (report (Settled (bits 0) false) 2 bits·1 bits·1 bits·-1) (still 0 []) 14
    -- no term is a not-a-number, but the average is one: yes
    ∷ done both_infinities (report (Settled (bits 0) true) 1 bits·1 bits·1 bits·-1)
    (still 0
    (0xBFF4000000000000 ∷ 0 ∷ 0 ∷ 0xBFF4000000000000 ∷ 0 ∷ 0 ∷ 0x4034000000000000
    ∷ bits·-½ ∷ 0 ∷ 0 ∷ bits·-½ ∷ 0 ∷ 0 ∷ bits·4
    ∷ []))
    42
    -- an infinite average is a number: no
    ∷ done one_infinity (report (RanOut (bits bits·∞) false) 1 bits·1 bits·1 bits·-1)
    (bits·-½ ∷ 0 ∷ 0 ∷ bits·-½ ∷ 0 ∷ 0 ∷ bits·4 ∷ [])
    14
    ∷ []
