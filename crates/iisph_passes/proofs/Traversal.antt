-- The passes over the fluid particles, case by case: how many values each stores of a particle, and that what it needs
-- of the list stays while it stores, since it stores other slots. Each case cites the laws of stores. Assumes nothing.
use Prim.Native.Nat.{ℕ, ◌+◌, ◌*◌, ◌<◌, ◌≤◌}
use mathlib.Core.Path.{◌≡◌, refl, sym, ap, ◌∙◌}
use mathlib.Core.Logic.{◌⊎◌, inl, inr, ⊎_elim}
use mathlib.Core.List.{List, [], ◌∷◌}
use native.Mathlib.Omega.{arith}
use lib.Ieee.{Float, nan}
use lib.ListN.{length, length-append}
use Rattle.math.specs.Vector.{Axes, Vector}
use Rattle.lists.specs.Stores.{stored_at}
use Rattle.lists.proofs.Lists.{table_same}
use Rattle.scene_format.specs.Scene.{fluid_size, particle}
use Rattle.scene_format.specs.SceneOf.{scene_of}
use Rattle.iisph_rules.specs.Coefficients.{density, coefficients_of, coefficients}
use Rattle.iisph_rules.specs.Iteration.{pressure, dij_pjl, next_pressure}
use Rattle.iisph_rules.proofs.Sizes.{length_advected, length-dii, length-dij}
use Rattle.iisph_rows.specs.Rows.{row_at, row_width, volumes_at, slot_at, set_slots, element_at, Rows, Behind}
use Rattle.iisph_rows.specs.Rows.{density_slot, predicted_slot, aii_slot, dii_slot, pressure_slot, dij_slot, mass_slot}
use Rattle.iisph_rows.specs.Rows.{quotient_slot, next_pressure_slot}
use Rattle.scene_format.specs.Format.{axes_of}
use Rattle.scene_lengths.specs.Lengths.{work_width}
use Rattle.iisph_rows.specs.Passes.{CoefficientsReady}
use Rattle.iisph_rows.proofs.RowStores.{slots_apart, in_row, in_column}
use Rattle.iisph_coefficients.specs.Neighbours.{coefficient_row}
use Rattle.iisph_pressures.specs.IterationRows.{pressures_in, dijs_in}
use Rattle.iisph_pressures.specs.IterationRows.{IterationReady}
use Rattle.iisph_pressures.proofs.IterationReads.{quotient_same, share_same}
use Rattle.lists.proofs.Stores.{length-stored, stored_other, rows_kept, part_kept}
use Rattle.iisph_passes.specs.Traverse.{slot_of, row_of, Ready, next_list}
use Rattle.iisph_passes.specs.declared.traverse.Pass.{Pass}
use Rattle.iisph_passes.specs.declared.traverse.Pass.TheVariants.{Advection, Coefficients, Quotients}
use Rattle.iisph_passes.specs.declared.traverse.Pass.TheVariants.{DijPjl, NextPressures, Exchange, Shares}

-- ---- how many values a pass stores of a particle

abbrev pub row_length : ℕ → Pass → ℕ
row_length d Advection = 1 + d
row_length d Coefficients = 4 + d
row_length d Quotients = 1
row_length d DijPjl = d
row_length d NextPressures = 2
row_length d Exchange = 1
row_length d Shares = 1

pub row_fits : {d : ℕ} → Axes d → (pass : Pass) → slot_of d pass + row_length d pass ≤ work_width d
unfolding slot_of
row_fits axes Advection = omega arith
row_fits axes Coefficients = omega arith
row_fits axes Quotients = omega arith
row_fits axes DijPjl = omega arith
row_fits axes NextPressures = omega arith
row_fits axes Exchange = omega arith
row_fits axes Shares = omega arith

-- slots from k on, c of them, beside those of a pass
abbrev Beside : ℕ → Pass → ℕ → ℕ → Type 0
Beside d pass k c = (k + c ≤ slot_of d pass) ⊎ (slot_of d pass + row_length d pass ≤ k)

module _ (b : List ℕ) {d n : ℕ} (is : d ≡ axes_of b) (axes : Axes d) (size : n ≡ fluid_size (scene_of b)) where
  pub row_length_lem : (l : List Float) (pass : Pass) (i : ℕ) → i < n
      → length (row_of d (scene_of b) l pass i) ≡ row_length d pass
  unfolding row_of coefficient_row coefficients_of
  row_length_lem l Advection i h = omega (arith, length_advected b i (omega arith))
  row_length_lem l Coefficients i h =
      simp length-append (omega (arith, length-dii b i (omega arith) (density (scene_of b) (particle (scene_of b) i))))
  row_length_lem l Quotients i h = refl
  row_length_lem l DijPjl i h = length-dij b i (omega arith) (coefficients (scene_of b)) _ ∙ sym is
  row_length_lem l NextPressures i h = refl
  row_length_lem l Exchange i h = refl
  row_length_lem l Shares i h = refl

  -- ---- while a pass stores: i of the particles are done

  module _ (pass : Pass) (i : ℕ) (h : i ≤ n) (l : List Float) where
    abbrev during : List Float
    during = stored_at (slot_at d n) i (slot_of d pass) (row_of d (scene_of b) l pass) l

    -- a slot that it does not store
    slot_kept : (j e : ℕ) → j < n → e < work_width d → Beside d pass e 1
        → element_at during (slot_at d n j e) ≡ element_at l (slot_at d n j e)
    slot_kept j e u m apart =
        stored_other nan (slot_at d n) (slot_of d pass) (row_of d (scene_of b) l pass) l n (work_width d)
        (slots_apart d n)
        (row_length d pass) (row_length_lem l pass) (row_fits axes pass) i h j e u m
        (⊎_elim (λ u. inl (omega arith)) (λ u. inr (omega arith)) apart)

    -- in a row, and in a column
    row_slot_kept : (j e : ℕ) → j < n → e < row_width d → Beside d pass e 1
        → element_at during (row_at d j + e) ≡ element_at l (row_at d j + e)
    row_slot_kept j e u m apart = rw (← in_row d n j e m) (slot_kept j e u (omega arith) apart)

    column_slot_kept : (j e : ℕ) → j < n → row_width d ≤ e → e < work_width d → Beside d pass e 1
        → element_at during (e * n + j) ≡ element_at l (e * n + j)
    column_slot_kept j e u m fits apart = rw (← in_column d n j e m) (slot_kept j e u fits apart)

    -- some slots of every particle
    pub pass_kept : (k c : ℕ) {g : ℕ → List Float} → ((j : ℕ) → j < n → length (g j) ≡ c) → k + c ≤ work_width d
        → (k + c ≤ slot_of d pass) ⊎ (slot_of d pass + row_length d pass ≤ k) → Rows d n k g l → Rows d n k g during
    pass_kept k c wide fits apart q =
        rows_kept nan (slot_at d n) (slot_of d pass) (row_of d (scene_of b) l pass) l n (work_width d) (slots_apart d n)
        (row_length d pass) (row_length_lem l pass) (row_fits axes pass) i h k c wide fits apart q

    pub volumes_kept : {xs : List Float} → Behind d n xs l → Behind d n xs during
    volumes_kept q =
        part_kept nan (slot_at d n) (slot_of d pass) (row_of d (scene_of b) l pass) l n (work_width d) (slots_apart d n)
        (row_length d pass) (row_length_lem l pass) (row_fits axes pass) i h (volumes_at d n) (omega arith) q

    pub length-kept : length during ≡ length l
    length-kept = length-stored nan (slot_at d n) (slot_of d pass) (row_of d (scene_of b) l pass) l i

    -- the pressures, and the dij_pjl, as the rules take them
    pub pressures_kept : (pressure_slot d + 1 ≤ slot_of d pass) ⊎ (slot_of d pass + row_length d pass ≤ pressure_slot d)
        → pressures_in d n during ≡ pressures_in d n l
    unfolding pressures_in
    pressures_kept apart = table_same n _ _ (λ j m. row_slot_kept j (pressure_slot d) m (omega arith) apart)

    dijs_kept : pressure_slot d ≤ slot_of d pass → dijs_in d n during ≡ dijs_in d n l
    unfolding dijs_in
    dijs_kept apart =
        table_same n _ _
        (λ j m. table_same d _ _
        (λ e u.
        let q : row_at d j + dij_slot + e ≡ row_at d j + (dij_slot + e) = omega arith in
        rw q (row_slot_kept j (dij_slot + e) m (omega arith) (inl (omega arith)))))

  -- what a pass makes of a particle it makes of the list before it too: it reads no slot that it stores
  module _ (i : ℕ) (h : i ≤ n) (l : List Float) (j : ℕ) (m : j < n) where
    density_kept : (pass : Pass) → density_slot d + 1 ≤ slot_of d pass
        → element_at (during pass i h l) (density_slot d * n + j) ≡ element_at l (density_slot d * n + j)
    density_kept pass apart =
        column_slot_kept pass i h l j (density_slot d) m (omega arith) (omega arith) (inl apart)

    pub row_kept : (pass : Pass) → row_of d (scene_of b) (during pass i h l) pass j ≡ row_of d (scene_of b) l pass j
    unfolding row_of slot_of
    row_kept Advection = refl
    row_kept Coefficients = refl
    row_kept Quotients =
        ap (λ (x : Float). x ∷ [])
        (rw (← size)
        (quotient_same (row_slot_kept Quotients i h l j mass_slot m (omega arith) (inl (omega arith)))
        (row_slot_kept Quotients i h l j (pressure_slot d) m (omega arith) (inl (omega arith)))
        (density_kept Quotients (omega arith))))
    row_kept DijPjl =
        ap (λ (ps : List Float). dij_pjl (scene_of b) (coefficients (scene_of b)) ps (particle (scene_of b) j))
        (rw (← size) (pressures_kept DijPjl i h l (inr (omega arith))))
    row_kept NextPressures =
        let s = scene_of b in
        ap (λ (ps : List Float). next_list
        (next_pressure s (coefficients s) ps (dijs_in d (fluid_size s) (during NextPressures i h l)) j))
        (rw (← size) (pressures_kept NextPressures i h l (inl (omega arith))))
        ∙ ap (λ (ds : List Vector). next_list (next_pressure s (coefficients s) (pressures_in d (fluid_size s) l) ds j))
        (rw (← size) (dijs_kept NextPressures i h l (omega arith)))
    row_kept Exchange =
        ap (λ (x : Float). x ∷ [])
        (rw (← size)
        (column_slot_kept Exchange i h l j (next_pressure_slot d) m (omega arith) (omega arith) (inr (omega arith))))
    row_kept Shares =
        ap (λ (x : Float). x ∷ [])
        (rw (← size)
        (share_same (row_slot_kept Shares i h l j (pressure_slot d) m (omega arith) (inl (omega arith)))
        (density_kept Shares (omega arith))))

  -- so its turn at particle i stores what the whole pass is to store there
  pub row_again : (i : ℕ) (h : i < n) (l : List Float) (pass : Pass) {x : List Float}
      → x ≡ stored_at (slot_at d n) i (slot_of d pass) (row_of d (scene_of b) l pass) l
      → set_slots d n i (slot_of d pass) (row_of d (scene_of b) x pass i) x
      ≡ set_slots d n i (slot_of d pass) (row_of d (scene_of b) l pass i) x
  row_again i h l pass {x} e =
      ap (λ (row : List Float). set_slots d n i (slot_of d pass) row x)
      (ap (λ (y : List Float). row_of d (scene_of b) y pass i) e ∙ row_kept i (omega arith) l i h pass)

  -- ---- what a pass needs stays while it stores

  module _ (i : ℕ) (h : i ≤ n) (l : List Float) where
    ready_coefficients : CoefficientsReady (scene_of b) d n l
        → CoefficientsReady (scene_of b) d n (during Coefficients i h l)
    unfolding slot_of
    ready_coefficients q =
        record {
          room = rw (length-kept Coefficients i h l) q.room;
          mass = pass_kept Coefficients i h l mass_slot 1 (λ j m. refl) (omega arith) (inl (omega arith)) q.mass;
          advected =
              pass_kept Coefficients i h l dij_slot d (λ j m. length_advected b j (omega arith) ∙ sym is) (omega arith)
              (inl (omega arith)) q.advected;
          volume = volumes_kept Coefficients i h l q.volume;
        }

    -- what the iterations find, but for the pressures: dii and the columns before that of the quotients, and the masses
    pub iteration_kept : (pass : Pass) (ps ps' : List Float) → dij_slot ≤ slot_of d pass
        → (slot_of d pass + row_length d pass ≤ dii_slot d) ⊎ (quotient_slot d ≤ slot_of d pass)
        → Rows d n (pressure_slot d) (λ j. pressure ps' j ∷ []) (during pass i h l) → IterationReady (scene_of b) ps d
        n l
        → IterationReady (scene_of b) ps' d n (during pass i h l)
    unfolding coefficients_of
    iteration_kept pass ps ps' first apart pressures q =
        let beside : (k c : ℕ) → dii_slot d ≤ k → k + c ≤ quotient_slot d → Beside d pass k c =
        λ k c low high. ⊎_elim (λ u. inr (omega arith)) (λ u. inl (omega arith)) apart in
        record {
          room = rw (length-kept pass i h l) q.room;
          density = pass_kept pass i h l (density_slot d) 1 (λ j m. refl) (omega arith)
              (beside (density_slot d) 1 (omega arith) (omega arith)) q.density;
          predicted_density = pass_kept pass i h l (predicted_slot d) 1 (λ j m. refl) (omega arith)
              (beside (predicted_slot d) 1 (omega arith) (omega arith)) q.predicted_density;
          aii = pass_kept pass i h l (aii_slot d) 1 (λ j m. refl) (omega arith)
              (beside (aii_slot d) 1 (omega arith) (omega arith)) q.aii;
          dii = pass_kept pass i h l (dii_slot d) d (λ j m. length-dii b j (omega arith) _ ∙ sym is) (omega arith)
              (beside (dii_slot d) d (omega arith) (omega arith)) q.dii;
          pressure = pressures;
          mass = pass_kept pass i h l mass_slot 1 (λ j m. refl) (omega arith) (inl (omega arith)) q.mass;
          volume = volumes_kept pass i h l q.volume;
        }

    -- where it does not store pressures
    pub iteration_same : (pass : Pass) (ps : List Float) → dij_slot ≤ slot_of d pass
        → (slot_of d pass + row_length d pass ≤ pressure_slot d) ⊎ (quotient_slot d ≤ slot_of d pass)
        → IterationReady (scene_of b) ps d n l → IterationReady (scene_of b) ps d n (during pass i h l)
    iteration_same pass ps first apart q =
        iteration_kept pass ps ps first (⊎_elim (λ u. inl (omega arith)) (λ u. inr u) apart)
        (pass_kept pass i h l (pressure_slot d) 1 (λ j m. refl) (omega arith)
        (⊎_elim (λ u. inr u) (λ u. inl (omega arith)) apart) q.pressure) q

    pub ready_kept : (pass : Pass) {work : List Float} → work ≡ during pass i h l → Ready (scene_of b) d n l pass
        → Ready (scene_of b) d n work pass
    unfolding Ready slot_of
    ready_kept Advection e q = tt
    ready_kept Coefficients e q = rw e (ready_coefficients q)
    ready_kept Quotients e q = tt
    ready_kept DijPjl e q =
        rw e
        record {
          room = rw (length-kept DijPjl i h l) q.room;
          quotients =
              rw (pressures_kept DijPjl i h l (inr (omega arith)))
              (pass_kept DijPjl i h l (quotient_slot d) 1 (λ j m. refl) (omega arith) (inr (omega arith))
              q.quotients);
        }
    ready_kept NextPressures e q =
        rw (e, pressures_kept NextPressures i h l (inl (omega arith)))
        (iteration_same NextPressures _ (omega arith) (inr (omega arith)) q)
    ready_kept Exchange e q = tt
    ready_kept Shares e q = tt
