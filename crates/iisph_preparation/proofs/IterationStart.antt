-- The work list before the iterations holds what they need: each coefficient in its slot, the first pressures, masses
-- and volumes. What the coefficients' pass stores is taken apart slot by slot; all else stays while it is stored.
-- Assumes nothing.
use Prim.Native.Nat.{ℕ, suc, ◌+◌, ◌<◌, ◌≤◌}
use mathlib.Core.Path.{◌≡◌, refl, sym, subst}
use mathlib.Core.List.{List, [], ◌∷◌}
use mathlib.Core.Logic.{inl}
use native.Mathlib.Omega.{arith}
use lib.Ieee.{Float, nan}
use lib.ListN.{length, length-append, get_or, get_or-append}
use lib.Seq.{get_or-append-add, length-sets}
use Rattle.math.specs.Real.{+0}
use Rattle.lists.proofs.Lists.{length-table, table_at}
use Rattle.scene_format.specs.Scene.{fluid_size, boundary_size, particle}
use Rattle.scene_format.specs.SceneOf.{scene_of}
use Rattle.iisph_rules.specs.Coefficients.{density, coefficients_of}
use Rattle.iisph_rules.specs.Iteration.{pressure}
use Rattle.iisph_rows.specs.Passes.{first_pressure, mass_row, volumes, CoefficientsReady}
use Rattle.iisph_coefficients.specs.Neighbours.{coefficient_row}
use Rattle.scene_format.specs.Format.{axes_of}
use Rattle.scene_format.proofs.Forms.{axes_of_lem}
use Rattle.iisph_preparation.specs.Prepare.{rows_filled, prepared}
use Rattle.iisph_pressures.specs.IterationRows.{IterationReady}
use Rattle.iisph_rules.specs.Step.{first_pressures}
use Rattle.iisph_passes.specs.Traverse.{slot_of}
use Rattle.iisph_rows.specs.Rows.{Rows, Behind, volumes_at, mass_slot}
use Rattle.iisph_passes.specs.declared.traverse.Pass.TheVariants.{Coefficients}
use Rattle.lists.proofs.RowParts.{rows_part, rows-one}
use Rattle.iisph_preparation.proofs.RowsFilled.{start, after_advection, part_stored, advected_ready}
use Rattle.iisph_passes.proofs.Passes.{pass_keeps, pass_part}
use Rattle.iisph_preparation.proofs.RowsFilled.{length-prepared, coefficient-rows}
use Rattle.iisph_rules.proofs.Sizes.{length-dii}

-- ---- the values that the coefficients' pass stores

module _ (b : List ℕ) (i : ℕ) (h : i < fluid_size (scene_of b)) where
  pressure_in_row : (0 < length (coefficient_row (scene_of b) i))
      × (get_or (coefficient_row (scene_of b) i) 0 nan ≡ pressure (first_pressures (scene_of b)) i)
  unfolding coefficient_row first_pressures
  pressure_in_row = (omega arith, sym (table_at (fluid_size (scene_of b)) (first_pressure (scene_of b)) i +0 h))

  -- density, predicted density and aii, behind dii
  abbrev columns_of : List Float
  columns_of =
      let k = coefficients_of (scene_of b) (particle (scene_of b) i) in
      k.density ∷ k.predicted_density ∷ k.aii ∷ []

  dii_in_row : (a : ℕ) → a < length (coefficients_of (scene_of b) (particle (scene_of b) i)).dii
      → (1 + a < length (coefficient_row (scene_of b) i))
      × (get_or (coefficient_row (scene_of b) i) (1 + a) nan
      ≡ get_or (coefficients_of (scene_of b) (particle (scene_of b) i)).dii a nan)
  unfolding coefficient_row
  dii_in_row a c =
      let e : 1 + a ≡ suc a = omega arith in
      let d = (coefficients_of (scene_of b) (particle (scene_of b) i)).dii in
      (omega (arith, length-append d columns_of), rw e (get_or-append d columns_of nan a c))

  column_in_row : (a : ℕ) → a < 3
      → (1 + axes_of b + a < length (coefficient_row (scene_of b) i))
      × (get_or (coefficient_row (scene_of b) i) (1 + axes_of b + a) nan ≡ get_or columns_of a nan)
  unfolding coefficient_row coefficients_of
  column_in_row a c =
      let d = (coefficients_of (scene_of b) (particle (scene_of b) i)).dii in
      let long : length d ≡ axes_of b = length-dii b i h (density (scene_of b) (particle (scene_of b) i)) in
      let e : 1 + axes_of b + a ≡ suc (length d + a) = omega arith in
      (omega (arith, length-append d columns_of, long), rw e (get_or-append-add d columns_of a nan))

-- ---- the whole list

rows_at : (d : ℕ) {n k slot : ℕ} {f : ℕ → List Float} {l : List Float} → k ≡ slot → Rows d n k f l → Rows d n slot f l
rows_at d {n} {f = f} {l} e q = subst (λ (j : ℕ). Rows d n j f l) e q

module _ (b : List ℕ) (l : List Float)
    (room : volumes_at (axes_of b) (fluid_size (scene_of b)) + boundary_size (scene_of b) ≤ length l) where
  coefficients_find : CoefficientsReady (scene_of b) (axes_of b) (fluid_size (scene_of b)) (after_advection b l)
  coefficients_find =
      let v : length (volumes (scene_of b)) ≡ boundary_size (scene_of b) =
      length-table (boundary_size (scene_of b)) _ in
      let m = length-sets l (volumes_at (axes_of b) (fluid_size (scene_of b))) (volumes (scene_of b)) in
      advected_ready b refl (axes_of_lem b) refl (start b l) (omega arith)
      (part_stored (volumes_at (axes_of b) (fluid_size (scene_of b))) (volumes (scene_of b)) l (omega arith)) refl

  mass_kept : Rows (axes_of b) (fluid_size (scene_of b)) mass_slot (mass_row (scene_of b))
      (prepared (axes_of b) (scene_of b) l)
  unfolding prepared rows_filled slot_of
  mass_kept =
      pass_keeps b refl (axes_of_lem b) refl Coefficients (after_advection b l) mass_slot 1 (λ j h. refl) (omega arith)
      (inl (omega arith))
      coefficients_find.mass

  volume_kept : Behind (axes_of b) (fluid_size (scene_of b)) (volumes (scene_of b))
      (prepared (axes_of b) (scene_of b) l)
  unfolding prepared rows_filled
  volume_kept = pass_part b refl (axes_of_lem b) refl Coefficients (after_advection b l) coefficients_find.volume

  pub iteration_ready : IterationReady (scene_of b) (first_pressures (scene_of b)) (axes_of b) (fluid_size (scene_of b))
      (prepared (axes_of b) (scene_of b) l)
  unfolding coefficient_row
  iteration_ready =
      let d = axes_of b in
      let rows = coefficient-rows b l room in
      record {
        room = rw (length-prepared b l) room;
        density = rows_at d (omega arith)
            (rows-one rows (1 + d + 0) (λ i. (coefficients_of (scene_of b) (particle (scene_of b) i)).density)
            (λ i h. column_in_row b i h 0 (omega arith)));
        predicted_density = rows_at d (omega arith)
            (rows-one rows (1 + d + 1) (λ i. (coefficients_of (scene_of b) (particle (scene_of b) i)).predicted_density)
            (λ i h. column_in_row b i h 1 (omega arith)));
        aii = rows_at d (omega arith)
            (rows-one rows (1 + d + 2) (λ i. (coefficients_of (scene_of b) (particle (scene_of b) i)).aii)
            (λ i h. column_in_row b i h 2 (omega arith)));
        dii = rows_part rows 1 (λ i. (coefficients_of (scene_of b) (particle (scene_of b) i)).dii) (dii_in_row b);
        pressure =
            rows_at d (omega arith) (rows-one rows 0 (pressure (first_pressures (scene_of b))) (pressure_in_row b));
        mass = mass_kept;
        volume = volume_kept;
      }
