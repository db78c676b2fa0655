-- Worked examples of flat scenes: the empty scene, scenes A and B and the scene of a boundary that keeps forces, each
-- in the plane, as version 4; what the check says of their form, and how long the lists of a step must be. Answers are
-- those in space without an axis that has zeros alone. Definitions only.
use Rattle.std.specs.Prelude.{ℕ, false, List, [], ◌∷◌, ◌++◌, take, set, replicate}
use Rattle.math.specs.Real.{bits}
use Rattle.scene_format.specs.Format.{flat_version}
use Rattle.scene_format.specs.Packed.{Header, packed_as, fluid, boundary, fluid_record, boundary_record, contact}
use Rattle.scene_format.specs.Packed.{boundary_contact, v2, zero2}
use Rattle.scene_format.specs.declared.Refusal.TheVariants.{MissingField, UnknownForm, TooManyModels, TrailingBytes}
use Rattle.scene_format.specs.declared.Refusal.TheVariants.{NotFinite, DanglingContact, ShortList, ZeroDensity}
use Rattle.scene_lists.specs.declared.Contacts.TheVariants.{FluidFluid, FluidBoundary, BoundaryBoundary}
use Rattle.iisph_rules.specs.declared.Ending.TheVariants.{Unswept, Settled, RanOut}
use Rattle.worked_examples.specs.LookRows.{passes, dangles}
use Rattle.worked_examples.specs.RefusalRows.{refuses, accepts}
use Rattle.worked_examples.specs.Row.{Row, done, refused, before, report, coefficients}
use Rattle.worked_examples.specs.Scenes.{empty_scene, bits·1, bits·-1, bits·2, bits·-2, bits·3, bits·4, bits·-4, bits·½}
use Rattle.worked_examples.specs.Scenes.{bits·-½, bits·¼, bits·-¼, bits·-⅛, bits·0·05, bits·nan}

-- ---- scenes

-- the empty scene: 40 00 01 32 hex, then 40 zero bytes
unfoldable pub empty_flat : List ℕ
empty_flat = 0x40 ∷ 0x00 ∷ 0x01 ∷ 0x32 ∷ replicate 40 0

-- by a rule
unfoldable pub flat : ℕ → Header → List (List ℕ) → List (List ℕ) → List ℕ
flat rule header fluids boundaries = packed_as flat_version rule header fluids boundaries

-- the least and the most iterations, step length, remaining time, error limit, gravity
unfoldable pub headed : ℕ → ℕ → ℕ → ℕ → ℕ → List ℕ → Header
headed least most dt remaining limit gravity =
    record {
      min_pressure_iter = least;
      max_pressure_iter = most;
      total_step_size = dt;
      remaining_time = remaining;
      max_density_error = limit;
      gravity = gravity;
    }

-- scene A, with its contact or others
unfoldable pub flat_a : List (List ℕ) → List ℕ
flat_a contacts =
    flat 0 (headed 1 50 bits·½ bits·1 bits·0·05 (v2 0 bits·-4))
    (fluid bits·2 (fluid_record zero2 zero2 zero2 bits·½ 0 contacts [] ∷ []) ∷ [])
    []

-- that contact, which names the particle with a number
unfoldable pub flat_contact : ℕ → List ℕ
flat_contact number = contact 0 number bits·2 zero2

-- scene B by a rule, with the most iterations
unfoldable pub flat_b : ℕ → ℕ → List ℕ
flat_b rule most =
    flat rule (headed 1 most bits·1 0 bits·0·05 zero2)
    (fluid bits·1
    (fluid_record zero2 (v2 bits·1 0) zero2 bits·1 0 (contact 0 1 bits·1 (v2 bits·1 0) ∷ []) []
    ∷ fluid_record zero2 (v2 bits·-1 0) zero2 bits·1 0 (contact 0 0 bits·1 (v2 bits·-1 0) ∷ []) []
    ∷ [])
    ∷ [])
    []

-- the scene of a boundary that keeps forces, whose own contact names the boundary particle with a number
unfoldable pub flat_boundary : ℕ → List ℕ
flat_boundary number =
    flat 0 (headed 0 0 bits·½ 0 0 zero2)
    (fluid bits·1
    (fluid_record zero2 zero2 zero2 bits·1 bits·4
    (contact 0 0 bits·1 zero2 ∷ [])
    (contact 0 0 0 (v2 0 bits·1) ∷ [])
    ∷ [])
    ∷ [])
    (boundary 1 (boundary_record zero2 zero2 (boundary_contact 0 number bits·4 ∷ []) ∷ []) ∷ [])

-- ---- rows

-- both particles of scene B at rest at the origin, with pressure 0.5
abbrev pub flat_answers_b : List ℕ
flat_answers_b = 0 ∷ 0 ∷ 0 ∷ 0 ∷ bits·½ ∷ 0 ∷ 0 ∷ 0 ∷ 0 ∷ bits·½ ∷ []

-- what the check says
unfoldable pub flat_forms : List Row
flat_forms =
    -- where each scene ends
    accepts empty_flat 44
    ∷ accepts (flat_a (flat_contact 0 ∷ [])) 146
    ∷ accepts (flat_b 0 50) 238
    ∷ accepts (flat_boundary 0) 217
    -- the header is 44 bytes long: a byte less and a byte more; the same bytes in space, and those of space here
    ∷ refuses (take 43 empty_flat) (MissingField 36)
    ∷ refuses (empty_flat ++ 0 ∷ []) (TrailingBytes 44)
    ∷ refuses (set empty_flat 0 0x20) (MissingField 44)
    ∷ refuses (set (empty_scene 0x32) 0 0x40) (TrailingBytes 44)
    -- the versions beside it; as many fluids and boundaries as in the others, and the same rules
    ∷ refuses (set empty_flat 0 0x30) (UnknownForm 0)
    ∷ refuses (set empty_flat 0 0x50) (UnknownForm 0)
    ∷ refuses (set empty_flat 0 0x49) (TooManyModels 0)
    ∷ accepts (set empty_flat 1 0x03) 44
    ∷ refuses (set empty_flat 1 0x04) (UnknownForm 1)
    ∷ refuses (set empty_flat 1 0x94) (TooManyModels 1)
    -- the last double of a vector, and the first one behind it
    ∷ refuses (set (set empty_flat 36 0x7F) 37 0xF0) (NotFinite 36)
    ∷ refuses (flat_a (contact 0 0 bits·2 (v2 0 bits·nan) ∷ [])) (NotFinite 138)
    -- names, and the lists that they stand in
    ∷ refuses (flat_a (flat_contact 1 ∷ [])) (DanglingContact 120)
    ∷ passes (flat_boundary 0) FluidFluid 146 1
    ∷ passes (flat_boundary 0) FluidBoundary 172 1
    ∷ passes (flat_boundary 0) BoundaryBoundary 217 1
    ∷ dangles (flat_boundary 1) BoundaryBoundary 207 1
    ∷ []

-- what a step answers, and the lengths of its lists: 5 answers for a fluid particle and 3 for a boundary particle whose
-- force is kept; 11 doubles of work for a fluid particle, 12 by halves
unfoldable pub flat_steps : List Row
flat_steps =
    done empty_flat (report (Settled (bits 0) false) 2 0 0 0) [] 0
    -- scene A: position (0, -1), velocity (0, -2), pressure 0
    ∷ done (flat_a (flat_contact 0 ∷ [])) (report (Settled (bits 0) false) 2 bits·½ bits·2 bits·½)
    (0 ∷ bits·-1 ∷ 0 ∷ bits·-2 ∷ 0 ∷ [])
    11
    ∷ refused (flat_a (flat_contact 0 ∷ [])) 4 11 ShortList 0
    ∷ refused (flat_a (flat_contact 0 ∷ [])) 5 10 ShortList 0
    ∷ refused (flat_a []) 5 12 (ZeroDensity 54) 11
    -- scene B: densities 1, predicted 3, aii -2; by the Rust's criterion, summed in order and by halves, and by the
    -- paper's
    ∷ before (flat_b 0 50)
    (coefficients bits·1 bits·3 (bits·-1 ∷ 0 ∷ []) bits·-2 ∷ coefficients bits·1 bits·3 (bits·1 ∷ 0 ∷ []) bits·-2 ∷ [])
    ∷ done (flat_b 0 50) (report (RanOut (bits bits·2) false) 50 bits·1 bits·1 bits·-1) flat_answers_b 22
    ∷ done (flat_b 2 2) (report (RanOut (bits bits·2) false) 2 bits·1 bits·1 bits·-1) flat_answers_b 24
    ∷ refused (flat_b 2 2) 10 23 ShortList 0
    ∷ done (flat_b 1 50) (report (Settled (bits 0) false) 2 bits·1 bits·1 bits·-1) flat_answers_b 22
    -- a boundary that keeps forces: the fluid particle's answers, then volume 1/4 and force (0, 1/2)
    ∷ done (flat_boundary 0) (report Unswept 0 bits·½ bits·2 bits·-½)
    (0 ∷ bits·-⅛ ∷ 0 ∷ bits·-¼ ∷ bits·2 ∷ bits·¼ ∷ 0 ∷ bits·½ ∷ [])
    12
    ∷ refused (flat_boundary 0) 7 12 ShortList 0
    ∷ []
