-- What is answered before the iterations is the step's: the work list's columns are the rules' coefficients, so
-- refusals 9 and 10 over them are the rules', and where they refuse the cleared list is that of the step. One
-- law for both columns. Assumes nothing.
use Prim.Native.Nat.{ℕ, ◌+◌, ◌≤◌}
use mathlib.Core.Path.{◌≡◌, refl, sym, ap, ◌∙◌}
use mathlib.Core.Bool.{Bool, true, false}
use mathlib.Core.List.{List, [], ◌∷◌, ◌++◌, map}
use native.Mathlib.Omega.{arith}
use lib.Ieee.{Float}
use lib.ListN.{length, drop, replicate}
use lib.Seq.{sets, length-sets}
use Rattle.std.specs.Result.{is_err}
use Rattle.math.specs.Real.{+0}
use Rattle.lists.specs.Lists.{choose}
use Rattle.lists.proofs.Lists.{length-table, map-table}
use Rattle.scene_format.specs.Format.{axes_of, location_of}
use Rattle.scene_format.specs.Scene.{Scene, fluid_size, boundary_size, particle}
use Rattle.scene_format.specs.SceneOf.{scene_of}
use Rattle.scene_lengths.specs.Lengths.{work_needed}
use Rattle.scene_format.specs.declared.Kind.TheVariants.{Fluid}
use Rattle.scene_format.specs.declared.Refusal.{Refusal}
use Rattle.iisph_rules.specs.Coefficients.{Coefficients, coefficients_of, coefficients}
use Rattle.iisph_rows.specs.Passes.{volumes}
use Rattle.iisph_preparation.specs.Prepare.{rows_filled, prepared, work_prepared, readiness, zero_answer}
use Rattle.iisph_rules.specs.Step.{report_of, unless_zero, scene_answer}
use Rattle.iisph_rows.specs.Rows.{density_slot, predicted_slot, row_width, volumes_at, column, Rows, Behind}
use Rattle.iisph_rules.specs.declared.Report.{Report}
use Rattle.iisph_rules.specs.Step.{StepAnswer}
use Rattle.std.specs.declared.result.Result.TheVariants.{Ok, Err}
use Rattle.iisph_rules.specs.Step.{Readiness}
use Rattle.scene_lengths.proofs.Needed.{work_least}
use Rattle.iisph_rows.proofs.RowReads.{column_values}
use Rattle.iisph_preparation.proofs.RowsFilled.{part_stored, length-prepared, drop-prepared}
use Rattle.iisph_preparation.proofs.IterationStart.{iteration_ready}

-- ---- columns

module _ (b : List ℕ) (l : List Float)
    (room : volumes_at (axes_of b) (fluid_size (scene_of b)) + boundary_size (scene_of b) ≤ length l) where
  coefficient-column : (e : ℕ) (x : Coefficients → Float) → row_width (axes_of b) ≤ e
      → Rows (axes_of b) (fluid_size (scene_of b)) e
      (λ i. x (coefficients_of (scene_of b) (particle (scene_of b) i)) ∷ [])
      (prepared (axes_of b) (scene_of b) l)
      → column (fluid_size (scene_of b)) e (prepared (axes_of b) (scene_of b) l) ≡ map x (coefficients (scene_of b))
  unfolding coefficients
  coefficient-column e x h q =
      column_values (axes_of b) (λ i. x (coefficients_of (scene_of b) (particle (scene_of b) i))) q h
      ∙ sym (map-table x (fluid_size (scene_of b)) (λ i. coefficients_of (scene_of b) (particle (scene_of b) i)))

  -- the two that refusals look at
  columns : (column (fluid_size (scene_of b)) (density_slot (axes_of b)) (prepared (axes_of b) (scene_of b) l)
      ≡ map (λ k. k.density) (coefficients (scene_of b)))
      × (column (fluid_size (scene_of b)) (predicted_slot (axes_of b)) (prepared (axes_of b) (scene_of b) l)
      ≡ map (λ k. k.predicted_density) (coefficients (scene_of b)))
  columns =
      let ready = iteration_ready b l room in (
        coefficient-column (density_slot (axes_of b)) (λ k. k.density) (omega arith) ready.density,
        coefficient-column (predicted_slot (axes_of b)) (λ k. k.predicted_density) (omega arith)
            ready.predicted_density,
      )

-- ---- the list, call by call

module _ (b : List ℕ) {d n : ℕ} (is : d ≡ axes_of b) (size : n ≡ fluid_size (scene_of b)) (l : List Float)
    (room : work_needed (scene_of b) ≤ length l) where
  pub room_of : volumes_at d n + boundary_size (scene_of b) ≤ length l
  room_of = rw (is, size) (omega (arith, work_least b))

  -- the volumes are there
  pub volumes_there : {x : List Float} → x ≡ sets l (volumes_at d n) (volumes (scene_of b))
      → (volumes_at d n + boundary_size (scene_of b) ≤ length x) × Behind d n (volumes (scene_of b)) x
  volumes_there e =
      let v : length (volumes (scene_of b)) ≡ boundary_size (scene_of b) =
      length-table (boundary_size (scene_of b)) _ in
      rw e (
        omega (arith, room_of, length-sets l (volumes_at d n) (volumes (scene_of b))),
        part_stored (volumes_at d n) (volumes (scene_of b)) l
            (omega (arith, room_of)),
      )

  -- then the rows
  module _ {x z : List Float} (e : x ≡ sets l (volumes_at d n) (volumes (scene_of b)))
      (q : z ≡ rows_filled d (scene_of b) x) where
    pub prepared_made : z ≡ prepared (axes_of b) (scene_of b) l
    unfolding prepared
    prepared_made = rw (q, e, size, is)

    pub columns-room : volumes_at d n ≤ length z
    columns-room = omega (arith, room_of, ap length prepared_made, length-prepared b l)

    -- refusals 9 and 10 over the columns are the step's
    pub answer_made : {r : Readiness}
        → ((report : Report)
        → r ≡ readiness
        (zero_answer (λ i. (location_of Fluid b i).at) (column n (density_slot d) z)
        (column n (predicted_slot d) z) report))
        → r ≡ readiness (scene_answer (λ i. (location_of Fluid b i).at) (scene_of b))
    unfolding scene_answer
    answer_made h =
        let both = columns b l (omega (arith, room, work_least b)) in
        rw (size, is, prepared_made, both.0, both.1) at (h (report_of (scene_of b)))

    -- the list of a scene that is not refused, and of one that is
    pub work_kept : (r : Readiness) → is_err r ≡ false → z ≡ work_prepared b r l
    unfolding work_prepared
    work_kept (Ok _) t = prepared_made
    work_kept (Err r) t = cc

    pub work_cleared : (r : Readiness) → is_err r ≡ true → {k : ℕ} {y : List Float} → k ≡ work_needed (scene_of b)
        → y ≡ replicate k +0 ++ drop k z → y ≡ work_prepared b r l
    unfolding work_prepared
    work_cleared (Ok _) t needed c = cc
    work_cleared (Err r) t needed c =
        c
        ∙ rw (prepared_made, needed, drop-prepared b l (work_needed (scene_of b)) (omega (arith, work_least b)))

-- ---- what the answer says of the step's

pub refused_step : (a : StepAnswer) {r : Refusal} → Err r ≡ readiness a → a ≡ Err r
unfolding readiness
refused_step (Ok report) e = let z : ◌≡◌ {A = ℕ} 0 1 = cc in absurd (omega arith)
refused_step (Err r) e = cc

done_go : (t u : Bool) (r r' : Refusal) (report : Report)
    → Ok tt ≡ readiness (choose t (Err r) (choose u (Err r') (Ok report)))
    → choose t (Err r) (choose u (Err r') (Ok report)) ≡ Ok report
unfolding readiness choose
done_go true u r r' report e = let z : ◌≡◌ {A = ℕ} 0 1 = cc in absurd (omega arith)
done_go false true r r' report e = let z : ◌≡◌ {A = ℕ} 0 1 = cc in absurd (omega arith)
done_go false false r r' report e = refl

pub ready_step : (at : ℕ → ℕ) (s : Scene) → Ok tt ≡ readiness (scene_answer at s)
    → scene_answer at s ≡ Ok (report_of s)
unfolding scene_answer unless_zero
ready_step at s e = done_go _ _ _ _ (report_of s) e
