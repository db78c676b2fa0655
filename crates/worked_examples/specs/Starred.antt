-- The customer's starred cases of whole steps and of boundary volumes, and FORMAT 2.1's examples of refusals 7 to 10.
-- Definitions only.
use Rattle.std.specs.Prelude.{ℕ, false, List, [], ◌∷◌}
use Rattle.math.specs.Real.{bits}
use Rattle.scene_format.specs.Packed.{packed, boundary, boundary_record, boundary_contact, zero3}
use Rattle.scene_format.specs.declared.Refusal.TheVariants.{DanglingContact, ShortList, ZeroDensity}
use Rattle.scene_format.specs.declared.Refusal.TheVariants.{ZeroPredictedDensity}
use Rattle.iisph_rules.specs.declared.Ending.TheVariants.{Unswept, Settled, RanOut}
use Rattle.worked_examples.specs.Row.{Row, done, refused, before, iterated, volume_of, report, coefficients, after}
use Rattle.worked_examples.specs.Scenes.{empty_scene, scene_a, contact_a, scene_b, boundary_scene, bits·1, bits·-1}
use Rattle.worked_examples.specs.Scenes.{bits·2, bits·-2, bits·3, bits·½, bits·-½, bits·¼, bits·-¼, bits·-⅛}

-- ---- scenes

-- three boundary particles that keep no forces: weights 2 and 2, weights 1 and -1, no contact
unfoldable pub volumes_scene : List ℕ
volumes_scene =
    packed
    (record {
      min_pressure_iter = 1;
      max_pressure_iter = 0;
      total_step_size = 0;
      remaining_time = 0;
      max_density_error = 0;
      gravity = zero3;
    })
    []
    (boundary 0
    (boundary_record zero3 [] (boundary_contact 0 0 bits·2 ∷ boundary_contact 0 1 bits·2 ∷ [])
    ∷ boundary_record zero3 [] (boundary_contact 0 0 bits·1 ∷ boundary_contact 0 2 bits·-1 ∷ [])
    ∷ boundary_record zero3 [] []
    ∷ [])
    ∷ [])

-- ---- answers

-- both particles of scene B at rest at the origin, with pressure 0.5
abbrev pub answers_b : List ℕ
answers_b = 0 ∷ 0 ∷ 0 ∷ 0 ∷ 0 ∷ 0 ∷ bits·½ ∷ 0 ∷ 0 ∷ 0 ∷ 0 ∷ 0 ∷ 0 ∷ bits·½ ∷ []

-- ---- rows

unfoldable pub starred : List Row
starred =
    -- the empty scene: settles, is not swept, runs out
    done (empty_scene 0x32) (report (Settled (bits 0) false) 2 0 0 0) [] 0
    ∷ done (empty_scene 0) (report Unswept 0 0 0 0) [] 0
    ∷ done (empty_scene 1) (report (RanOut (bits 0) false) 1 0 0 0) [] 0
    -- scene A: position (0, 0, -1), velocity (0, 0, -2), pressure 0
    ∷ done (scene_a (contact_a 0 ∷ [])) (report (Settled (bits 0) false) 2 bits·½ bits·2 bits·½)
    (0 ∷ 0 ∷ bits·-1 ∷ 0 ∷ 0 ∷ bits·-2 ∷ 0 ∷ [])
    14
    -- scene B: densities 1, predicted 3, aii -2; pressures 0.5 after its first two iterations, with errors 1 and 2; and
    -- the step that ends with its first, second and fiftieth iteration
    ∷ before (scene_b bits·1 bits·-1 50)
    (coefficients bits·1 bits·3 (bits·-1 ∷ 0 ∷ 0 ∷ []) bits·-2
    ∷ coefficients bits·1 bits·3 (bits·1 ∷ 0 ∷ 0 ∷ []) bits·-2
    ∷ [])
    ∷ iterated (scene_b bits·1 bits·-1 50)
    (after (bits·½ ∷ bits·½ ∷ []) (bits·1 ∷ []) bits·1 false
    ∷ after (bits·½ ∷ bits·½ ∷ []) (bits·2 ∷ []) bits·2 false
    ∷ [])
    ∷ done (scene_b bits·1 bits·-1 1) (report (RanOut (bits bits·1) false) 1 bits·1 bits·1 bits·-1) answers_b 28
    ∷ done (scene_b bits·1 bits·-1 2) (report (RanOut (bits bits·2) false) 2 bits·1 bits·1 bits·-1) answers_b 28
    ∷ done (scene_b bits·1 bits·-1 50) (report (RanOut (bits bits·2) false) 50 bits·1 bits·1 bits·-1) answers_b 28
    -- a boundary that keeps forces: the fluid particle's answers, then volume 1/4 and force (0, 0, 1/2)
    ∷ done (boundary_scene 0) (report Unswept 0 bits·½ bits·2 bits·-½)
    (0 ∷ 0 ∷ bits·-⅛ ∷ 0 ∷ 0 ∷ bits·-¼ ∷ bits·2 ∷ bits·¼ ∷ 0 ∷ 0 ∷ bits·½ ∷ [])
    15
    -- boundary volumes, of weights and in a packed scene
    ∷ volume_of (bits·2 ∷ bits·2 ∷ []) bits·¼
    ∷ volume_of (bits·1 ∷ bits·-1 ∷ []) 0
    ∷ volume_of [] 0
    ∷ done volumes_scene (report Unswept 0 0 0 0) (bits·¼ ∷ 0 ∷ 0 ∷ []) 3
    ∷ []

-- steps that are refused, 7 to 10; where two refusals meet, the one of the lesser number is given
unfoldable pub refused_steps : List Row
refused_steps =
    refused (scene_a (contact_a 1 ∷ [])) 6 14 (DanglingContact 152) 0
    ∷ refused (scene_a (contact_a 0 ∷ [])) 6 14 ShortList 0
    ∷ refused (scene_a (contact_a 0 ∷ [])) 7 13 ShortList 0
    ∷ refused (scene_a []) 6 14 ShortList 0
    ∷ refused (scene_a []) 7 15 (ZeroDensity 62) 14
    ∷ refused (scene_b bits·-½ bits·½ 50) 14 29 (ZeroPredictedDensity 62) 28
    ∷ []
