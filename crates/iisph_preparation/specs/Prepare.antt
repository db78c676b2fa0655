-- What stands in the work list before the iterations, and what refusals 9 and 10 answer: the definitions that the
-- contracts of the passes before the iterations cite. `Readiness` of a scene is part of the promise of `validate`; the
-- rest is scaffolding. Definitions only.
use Rattle.std.specs.Prelude.{ℕ, ◌≡◌, List, ◌++◌, Float, drop, replicate}
use Rattle.std.proofs.lemmas.List.Edits.{sets}
use Rattle.iisph_rows.specs.Passes.{volumes}
use Rattle.iisph_rows.specs.Rows.{volumes_at}
use Rattle.iisph_rules.specs.Step.{unless_zero, scene_answer}
use Rattle.iisph_rules.specs.declared.Report.{Report}
use Rattle.iisph_rules.specs.Step.{StepAnswer}
use Rattle.std.specs.declared.result.Result.TheVariants.{Ok, Err}
use Rattle.math.specs.Real.{+0}
use Rattle.scene_format.specs.Scene.{Scene, fluid_size}
use Rattle.scene_format.specs.SceneOf.{scene_of}
use Rattle.scene_format.specs.Format.{axes_of, location_of}
use Rattle.scene_format.specs.declared.Kind.TheVariants.{Fluid}
use Rattle.scene_format.specs.declared.Refusal.TheVariants.{ZeroDensity, ZeroPredictedDensity}
use Rattle.scene_index.specs.Index.{Indexed}
use Rattle.scene_lengths.specs.Lengths.{work_needed}
use Rattle.iisph_passes.specs.Traverse.{after_pass}
use Rattle.iisph_passes.specs.declared.traverse.Pass.TheVariants as pass
use Rattle.iisph_rules.specs.Step.{Readiness}

-- ---- the list

-- for d axes: masses and advected velocities, then coefficients and first pressures
unfoldable pub rows_filled : ℕ → Scene → List Float → List Float
rows_filled d s work = after_pass d s pass.Coefficients (after_pass d s pass.Advection work)

-- behind rows and columns the boundary volumes
unfoldable pub prepared : ℕ → Scene → List Float → List Float
prepared d s work = rows_filled d s (sets work (volumes_at d (fluid_size s)) (volumes s))

-- a refused scene leaves +0 in the needed front part
unfoldable pub work_prepared : List ℕ → Readiness → List Float → List Float
work_prepared b (Ok _) work = prepared (axes_of b) (scene_of b) work
work_prepared b (Err r) work = replicate (work_needed (scene_of b)) +0 ++ drop (work_needed (scene_of b)) work

-- ---- refusals 9 and 10

-- what a step's answer says before its iterations
unfoldable pub readiness : StepAnswer → Readiness
readiness (Ok report) = Ok tt
readiness (Err r) = Err r

-- 9 over all densities, then 10 over all predicted densities; `at` gives the offset of a particle's record
abbrev pub zero_answer : (ℕ → ℕ) → List Float → List Float → Report → StepAnswer
zero_answer at densities predicted report =
    unless_zero at ZeroDensity densities (unless_zero at ZeroPredictedDensity predicted (Ok report))

-- ---- all before the iterations, of the bytes b and a work list: the answer r, the index, and the list afterwards

pub record Prepares (b : List ℕ) (work : List Float) (r : Readiness) (index : List ℕ) (after : List Float)
    : Type 0 where
  pub indexed : Indexed b index
  pub answer : r ≡ readiness (scene_answer (λ i. (location_of Fluid b i).at) (scene_of b))
  pub list : after ≡ work_prepared b r work
