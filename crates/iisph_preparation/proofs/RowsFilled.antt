-- What the two passes before the iterations leave in the work list: each its slots, beside those of the other and the
-- boundary volumes, and all else as it was. Pass by pass, from the laws of one pass. Assumes nothing.
use Prim.Native.Nat.{ℕ, suc, ◌+◌, ◌≤◌}
use mathlib.Core.Path.{◌≡◌, refl, ◌∙◌}
use mathlib.Core.List.{List, ◌++◌}
use native.Mathlib.Omega.{arith}
use lib.Ieee.{Float, nan}
use lib.ListN.{length, get_or, drop}
use lib.Seq.{sets, length-sets}
use Rattle.lists.specs.Stores.{Part}
use Rattle.lists.proofs.Lists.{length-table}
use Rattle.scene_format.specs.Scene.{fluid_size, boundary_size, particle}
use Rattle.scene_format.specs.SceneOf.{scene_of}
use Rattle.iisph_rules.specs.Coefficients.{particle_mass}
use Rattle.iisph_rows.specs.Passes.{mass_row, advected_row, volumes, CoefficientsReady}
use Rattle.iisph_coefficients.specs.Neighbours.{coefficient_row}
use Rattle.iisph_preparation.specs.Prepare.{rows_filled, prepared}
use Rattle.iisph_passes.specs.Traverse.{slot_of, row_of, after_pass}
use Rattle.iisph_rows.specs.Rows.{volumes_at, slot_at, stored, Rows, Behind}
use Rattle.iisph_rows.specs.Rows.{pressure_slot, mass_slot}
use Rattle.scene_format.specs.Format.{axes_of}
use Rattle.scene_format.proofs.Forms.{axes_of_lem}
use Rattle.math.specs.Vector.{Axes}
use Rattle.iisph_passes.specs.declared.traverse.Pass.TheVariants.{Advection, Coefficients}
use Rattle.lists.proofs.RowParts.{rows_part, rows-one}
use Rattle.lists.proofs.Stores.{sets_in, sets_above, length-stored}
use Rattle.iisph_passes.proofs.Passes.{drop_same, pass_rows, pass_part, pass_beyond}

-- the volumes, once they are stored
module _ (k : ℕ) (xs l : List Float) where
  pub part_stored : k + length xs ≤ length l → Part nan k xs (sets l k xs)
  part_stored room = record { holds = λ j h. sets_in nan xs l k j room h }

module _ (b : List ℕ) {d n : ℕ} (is : d ≡ axes_of b) (axes : Axes d) (size : n ≡ fluid_size (scene_of b)) where
  -- ---- what the coefficients need, after the first pass

  pub advected_ready : (l : List Float) → volumes_at d n + boundary_size (scene_of b) ≤ length l
      → Behind d n (volumes (scene_of b)) l → {x : List Float}
      → x ≡ stored d n (slot_of d Advection) (row_of d (scene_of b) l Advection) l → CoefficientsReady (scene_of b) d
      n x
  unfolding slot_of row_of
  advected_ready l room v e =
      let s = scene_of b in
      let rows = pass_rows b is axes size Advection l (omega arith) in
      rw e
      record {
        room = rw (length-stored nan (slot_at d n) mass_slot (λ i. mass_row s i ++ advected_row s i) l n) room;
        mass = rows-one rows 0 (λ i. particle_mass (particle s i)) (λ i h. (omega arith, refl));
        advected = rows_part rows 1 (advected_row s)
            (λ i h a c. let behind : 1 + a ≡ suc a = omega arith in (omega arith, rw behind refl));
        volume = pass_part b is axes size Advection l v;
      }

  pub rows_filled_lem : (w : List Float) {x y : List Float}
      → x ≡ stored d n (slot_of d Advection) (row_of d (scene_of b) w Advection) w
      → y ≡ stored d n (slot_of d Coefficients) (row_of d (scene_of b) x Coefficients) x
      → y ≡ rows_filled d (scene_of b) w
  unfolding rows_filled
  rows_filled_lem w p q = rw (q, p, size)

-- ---- the whole list, for n fluid and m boundary particles

module _ (b : List ℕ) (l : List Float) where
  -- before the rows are filled, and before the coefficients are
  abbrev pub start : List Float
  start = sets l (volumes_at (axes_of b) (fluid_size (scene_of b))) (volumes (scene_of b))

  abbrev pub after_advection : List Float
  after_advection = after_pass (axes_of b) (scene_of b) Advection start

  length-after_advection : length after_advection ≡ length l
  length-after_advection =
      length-stored nan (slot_at (axes_of b) (fluid_size (scene_of b))) _ _ start (fluid_size (scene_of b))
      ∙ length-sets l (volumes_at (axes_of b) (fluid_size (scene_of b))) (volumes (scene_of b))

  pub length-prepared : length (prepared (axes_of b) (scene_of b) l) ≡ length l
  unfolding prepared rows_filled
  length-prepared =
      length-stored nan (slot_at (axes_of b) (fluid_size (scene_of b))) _ _ after_advection (fluid_size (scene_of b))
      ∙ length-after_advection

  pub beyond_prepared : (j : ℕ) → volumes_at (axes_of b) (fluid_size (scene_of b)) + boundary_size (scene_of b) ≤ j
      → get_or (prepared (axes_of b) (scene_of b) l) j nan ≡ get_or l j nan
  unfolding prepared rows_filled
  beyond_prepared j h =
      let above : volumes_at (axes_of b) (fluid_size (scene_of b)) ≤ j = omega arith in
      pass_beyond b refl (axes_of_lem b) refl Coefficients after_advection j above
      ∙ pass_beyond b refl (axes_of_lem b) refl Advection start j above
      ∙ sets_above nan (volumes (scene_of b)) l (volumes_at (axes_of b) (fluid_size (scene_of b))) j
      (rw (length-table (boundary_size (scene_of b))) h)

  module _ (room : volumes_at (axes_of b) (fluid_size (scene_of b)) + boundary_size (scene_of b) ≤ length l) where
    pub coefficient-rows : Rows (axes_of b) (fluid_size (scene_of b)) (pressure_slot (axes_of b))
        (coefficient_row (scene_of b))
        (prepared (axes_of b) (scene_of b) l)
    unfolding prepared rows_filled slot_of row_of
    coefficient-rows =
        pass_rows b refl (axes_of_lem b) refl Coefficients after_advection (omega (arith, length-after_advection))

  pub drop-prepared : (k : ℕ) → volumes_at (axes_of b) (fluid_size (scene_of b)) + boundary_size (scene_of b) ≤ k
      → drop k (prepared (axes_of b) (scene_of b) l) ≡ drop k l
  drop-prepared k h =
      drop_same k (prepared (axes_of b) (scene_of b) l) l length-prepared (λ j m. beyond_prepared j (omega arith))
