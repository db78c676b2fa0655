-- Examples of our own, which tell METHOD's rules from wrong ones that every starred case lets pass. A program apart
-- from these definitions, which follows METHOD with the machine's doubles, worked out their answers. Definitions only.
use Rattle.std.specs.Prelude.{ℕ, false, List, [], ◌∷◌}
use Rattle.math.specs.Real.{bits}
use Rattle.scene_format.specs.Packed.{packed, fluid, boundary, fluid_record, boundary_record, contact, boundary_contact}
use Rattle.scene_format.specs.Packed.{v3, zero3}
use Rattle.scene_format.specs.declared.Refusal.TheVariants.{ZeroDensity}
use Rattle.iisph_rules.specs.declared.Ending.TheVariants.{Unswept, Settled, RanOut}
use Rattle.worked_examples.specs.Row.{Row, done, refused, before, report, coefficients}
use Rattle.worked_examples.specs.Scenes.{header_b, pair, bits·-0, bits·1, bits·-1, bits·2, bits·-2, bits·3, bits·4}
use Rattle.worked_examples.specs.Scenes.{bits·-4, bits·½, bits·-½, bits·¼, bits·0·1, bits·-0·1, bits·0·3}
use Rattle.worked_examples.specs.Scenes.{bits·-0·3, bits·0·7, bits·-0·7, bits·1·3}

-- ---- |aii| at 1e-9 (METHOD 6.3)

-- aii is -2^60 times the second volume, which is 1e-9 × 2^-60 or the double after it
unfoldable pub aii_scene : ℕ → List ℕ
aii_scene volume =
    packed (header_b 0 1)
    (fluid bits·1
    (fluid_record zero3 zero3 zero3 0x43B0000000000000 bits·4
    (contact 0 0 0x3C30000000000000 zero3 ∷ contact 0 1 0 (v3 bits·1 0 0) ∷ [])
    []
    ∷ fluid_record zero3 zero3 zero3 volume 0 (contact 0 0 0x3C30000000000000 zero3 ∷ []) []
    ∷ [])
    ∷ [])
    []

-- ---- the order of a SUM (METHOD, Notation)

-- a fluid contact that adds 1 to the density, and two boundary contacts that add 2^-53 each and come last, so that both
-- are rounded away
unfoldable pub order_scene : List ℕ
order_scene =
    let small = contact 0 0 0x3CC0000000000000 zero3 in
    packed (header_b 0 1)
    (fluid bits·1
    (fluid_record zero3 zero3 zero3 bits·1 0 (contact 0 0 bits·1 zero3 ∷ []) (small ∷ small ∷ []) ∷ [])
    ∷ [])
    (boundary 0 (boundary_record zero3 [] (boundary_contact 0 0 bits·4 ∷ []) ∷ []) ∷ [])

-- ---- zeros

-- every zero of the one particle and of gravity is -0; 0 + acceleration × dt is +0 (METHOD 5.2)
unfoldable pub negative_zeros : List ℕ
negative_zeros =
    let zeros = v3 bits·-0 bits·-0 bits·-0 in
    packed
    (record {
      min_pressure_iter = 0;
      max_pressure_iter = 0;
      total_step_size = bits·½;
      remaining_time = bits·1;
      max_density_error = 0;
      gravity = zeros;
    })
    (fluid bits·1 (fluid_record zeros zeros zeros bits·1 0 (contact 0 0 bits·1 zero3 ∷ []) [] ∷ []) ∷ [])
    []

-- the first predicted density is zero, and the second density: refusal 9 comes before 10 (FORMAT 2.2)
unfoldable pub both_zero : List ℕ
both_zero =
    packed (header_b 1 50)
    (fluid bits·1
    (fluid_record zero3 (v3 bits·-½ 0 0) zero3 bits·1 0 (contact 0 1 bits·1 (v3 bits·1 0 0) ∷ []) []
    ∷ fluid_record zero3 (v3 bits·½ 0 0) zero3 bits·1 0 [] []
    ∷ [])
    ∷ [])
    []

-- ---- a scene in which each term of each sum counts: three fluids of unlike rest densities, the second empty, and two
-- ---- boundaries, of which the first keeps forces; step length 0.1; a negative average in the first iteration, and a
-- ---- pressure clamped in the second

unfoldable pub mixed_fluids : List (List ℕ)
mixed_fluids =
    fluid bits·2
    (fluid_record (v3 bits·1 bits·2 bits·3) (v3 bits·1 0 bits·-½) (v3 0 bits·½ bits·0·7) bits·0·7 bits·4
    (contact 0 0 bits·1·3 zero3
    ∷ contact 0 1 bits·0·3 (v3 bits·-0·3 bits·-0·7 bits·0·3)
    ∷ contact 2 0 bits·0·1 (v3 bits·-0·7 bits·-0·1 bits·0·3)
    ∷ [])
    (contact 0 1 bits·0·3 (v3 bits·0·1 bits·-0·7 bits·-0·3)
    ∷ contact 1 0 bits·0·7 (v3 bits·0·3 bits·0·1 bits·0·7)
    ∷ [])
    ∷ fluid_record (v3 0 0 bits·1) (v3 bits·-1 0 bits·¼) (v3 0 0 bits·0·3) bits·0·7 0
    (contact 0 1 bits·1·3 zero3 ∷ contact 0 0 bits·0·1 (v3 bits·-0·3 bits·-0·7 bits·0·1) ∷ [])
    (contact 0 1 bits·0·3 (v3 bits·0·1 bits·-0·1 bits·-0·3)
    ∷ contact 0 0 bits·0·1 (v3 bits·0·7 bits·0·3 bits·-0·1)
    ∷ [])
    ∷ [])
    ∷ fluid bits·4 []
    ∷ fluid bits·½
    (fluid_record (v3 0 bits·-1 0) (v3 0 bits·-2 0) zero3 bits·2 bits·2
    (contact 2 0 bits·0·1 zero3 ∷ contact 0 0 bits·0·1 (v3 bits·-0·3 bits·-0·1 bits·-0·7) ∷ [])
    (contact 1 0 bits·0·7 (v3 bits·0·1 bits·-0·7 bits·-0·1) ∷ [])
    ∷ [])
    ∷ []

unfoldable pub mixed_boundaries : List (List ℕ)
mixed_boundaries =
    boundary 1
    (boundary_record (v3 0 0 bits·½) (v3 0 0 bits·1) (boundary_contact 0 0 bits·2 ∷ [])
    ∷ boundary_record (v3 bits·¼ 0 0) (v3 bits·1 0 0)
    (boundary_contact 0 1 bits·0·7
    ∷ boundary_contact 0 0 bits·0·3
    ∷ boundary_contact 1 0 bits·0·3
    ∷ boundary_contact 0 0 bits·0·1
    ∷ [])
    ∷ [])
    ∷ boundary 0 (boundary_record (v3 0 bits·-1 0) [] (boundary_contact 1 0 bits·4 ∷ []) ∷ [])
    ∷ []

unfoldable pub mixed : List ℕ
mixed =
    packed
    (record {
      min_pressure_iter = 0;
      max_pressure_iter = 2;
      total_step_size = bits·0·1;
      remaining_time = bits·1;
      max_density_error = 0x3F847AE147AE147B;
      gravity = v3 0 0 bits·-4;
    })
    mixed_fluids
    mixed_boundaries

unfoldable pub mixed_answers : List ℕ
mixed_answers =
    -- the fluid particles: position, velocity, pressure
    0x3FF3B67F15685E9E ∷ 0x4002903BC8D292FC ∷ 0x40066353EC18321E
    ∷ 0x4002907B6B09D914 ∷ 0x4009A255D839BDD9 ∷ 0xC0001EB8C70E0AD1
    ∷ 0x4051BEEE1B3EAB32
    ∷ 0xBFC21D3DF36013F5 ∷ 0x3FCB21D2AE7EA844 ∷ 0x3FF0B4A43CFF1E22
    ∷ 0xBFF6A48D703818F2 ∷ 0x4000F523AD0F292A ∷ 0x3FDC39A987DCB552
    ∷ 0x405A6CCB0D4C5438
    ∷ 0x3F9F63E3745B32DC ∷ 0xBFF30958AE980EF0 ∷ 0x3FA02452C011A6DA
    ∷ 0x3FD39E6E28B8FFC9 ∷ 0xBFFE5D76D1F0955A ∷ 0x3FD42D6770161090
    ∷ 0
    -- the boundary particles: volume and, where it is kept, force
    ∷ bits·½ ∷ 0x4030B9F01CDC76D1 ∷ 0x401CAC770CE7A71C ∷ 0xBFF63B49668A3426
    ∷ 0x3FE6DB6DB6DB6DB6 ∷ 0x40177E3AFFFAB414 ∷ 0xC02B436D92103E6A ∷ 0xC02D3D587FF80E1E
    ∷ bits·¼ ∷ []

-- ---- rows

unfoldable pub further : List Row
further =
    -- |aii| at 1e-9 gives no pressure, and the next double does
    done (aii_scene 0x3A512E0BE826D695) (report (Settled (bits 0) false) 1 bits·1 bits·1 bits·-1)
    (0 ∷ 0 ∷ 0 ∷ 0 ∷ 0 ∷ 0 ∷ 0 ∷ 0 ∷ 0 ∷ 0 ∷ 0 ∷ 0 ∷ 0 ∷ 0 ∷ [])
    28
    ∷ done (aii_scene 0x3A512E0BE826D696) (report (Settled (bits 0) false) 1 bits·1 bits·1 bits·-1)
    (0xBA612E0BE826D696 ∷ 0 ∷ 0 ∷ 0xBA612E0BE826D696 ∷ 0 ∷ 0 ∷ bits·2 ∷ 0 ∷ 0 ∷ 0 ∷ 0 ∷ 0 ∷ 0 ∷ 0 ∷ [])
    28
    -- fluid contacts come before boundary contacts
    ∷ before order_scene (coefficients bits·1 bits·1 (0 ∷ 0 ∷ 0 ∷ []) 0 ∷ [])
    -- a negative average counts as 0
    ∷ done (packed (header_b 0 2) (pair 0 bits·-1 bits·-1 bits·1 bits·-1 0 ∷ []) [])
    (report (Settled (bits 0) false) 1 bits·1 bits·1 bits·-1)
    (bits·-1 ∷ 0 ∷ 0 ∷ bits·-1 ∷ 0 ∷ 0 ∷ bits·1 ∷ bits·1 ∷ 0 ∷ 0 ∷ bits·1 ∷ 0 ∷ 0 ∷ bits·1 ∷ [])
    28
    -- a next pressure of exactly 0 is not above 0, so its term is +0 (and not 1)
    ∷ done (packed (header_b 0 2) (pair 0 bits·1 bits·1 0 0 bits·1 ∷ []) [])
    (report (Settled (bits 0) false) 1 bits·1 bits·1 bits·-1)
    (0 ∷ 0 ∷ 0 ∷ 0 ∷ 0 ∷ 0 ∷ 0 ∷ 0 ∷ 0 ∷ 0 ∷ 0 ∷ 0 ∷ 0 ∷ 0 ∷ [])
    28
    ∷ done negative_zeros (report Unswept 0 bits·½ bits·2 bits·½) (0 ∷ 0 ∷ 0 ∷ 0 ∷ 0 ∷ 0 ∷ 0 ∷ []) 14
    ∷ refused both_zero 14 28 (ZeroDensity 186) 28
    ∷ done mixed (report (RanOut (bits 0x3FCE5BB91E0C03DA) false) 2 bits·0·1 0x4024000000000000 0x3FECCCCCCCCCCCCD)
    mixed_answers
    45
    ∷ []
