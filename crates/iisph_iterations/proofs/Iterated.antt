-- One iteration's passes yield the rules' iteration: quotients, dij_pjl, next pressures with their error terms, then
-- the exchange. Each pass finds what it needs where an earlier one stored it, and keeps what later ones need. Assumes
-- nothing.
use Rattle.std.proofs.Common.{◌≡◌, ℕ, zero, suc, ◌+◌, ◌<◌, ◌≤◌, List, [], ◌∷◌, map, length, drop, sym, refl, ap, ◌∙◌}
use Rattle.std.proofs.Common.{inl, inr, add-zero, arith}
use lib.Ieee.{Float}
use Rattle.math.specs.Real.{+0}
use Rattle.math.specs.Vector.{Axes, Vector}
use Rattle.lists.specs.Lists.{table}
use Rattle.lists.proofs.Lists.{length-table, table_at, map-table}
use Rattle.scene_format.specs.Format.{axes_of}
use Rattle.scene_format.specs.Scene.{fluid_size, boundary_size, particle}
use Rattle.scene_format.specs.SceneOf.{scene_of}
use Rattle.iisph_rules.specs.Coefficients.{coefficients}
use Rattle.iisph_rules.specs.Iteration.{pressure, dij_pjl, dij_pjls, NextPressure, next_pressure, next_pressures}
use Rattle.iisph_rules.specs.Iteration.{averages}
use Rattle.iisph_rules.specs.Iteration.{error_of, iteration}
use Rattle.iisph_rules.specs.declared.IterationError.{IterationError}
use Rattle.iisph_pressures.specs.IterationRows.{pressures_in, dijs_in, row_quotient, quotient_row}
use Rattle.iisph_pressures.specs.IterationRows.{IterationReady, DijReady}
use Rattle.iisph_rows.specs.Rows.{volumes_at, stored, Rows, column, pressure_slot, quotient_slot}
use Rattle.iisph_iterations.specs.Errors.{terms_in}
use Rattle.iisph_pressures.proofs.IterationTerms.{axes-are}
use Rattle.iisph_pressures.proofs.IterationReads.{quotient_made, pressures_are, dijs_are}
use Rattle.iisph_rows.proofs.RowReads.{column_value, column_values}
use Rattle.iisph_iterations.specs.PressureSolve.{iterated, iterated_times, Iterates}
use Rattle.iisph_passes.specs.Traverse.{slot_of, row_of, next_list, row_next}
use Rattle.iisph_passes.specs.declared.traverse.Pass.{Pass}
use Rattle.iisph_passes.specs.declared.traverse.Pass.TheVariants.{Quotients, DijPjl, NextPressures, Exchange}
use Rattle.iisph_passes.proofs.Passes.{pass_rows, pass_drop}
use Rattle.lists.proofs.RowParts.{rows-one, rows_same}
use Rattle.iisph_passes.proofs.Traversal.{pass_kept, length-kept, pressures_kept, iteration_kept, iteration_same}

-- the list after a pass over n particles, for d axes
abbrev After : List ℕ → ℕ → ℕ → Pass → List Float → List Float
After b d n p l = stored d n (slot_of d p) (row_of d (scene_of b) l p) l

module _ (b : List ℕ) {d n : ℕ} (is : d ≡ axes_of b) (size : n ≡ fluid_size (scene_of b)) (l : List Float)
    (ready : IterationReady (scene_of b) (pressures_in d n l) d n l) where
  axes : Axes d
  axes = axes-are b is

  rows_fit : volumes_at d n ≤ length l
  rows_fit = omega (arith, ready.room)

  -- what the rules make of the pressures that stand there
  abbrev next : ℕ → NextPressure
  next i =
      next_pressure (scene_of b) (coefficients (scene_of b)) (pressures_in d n l)
      (dij_pjls (scene_of b) (coefficients (scene_of b)) (pressures_in d n l)) i

  abbrev pressures : List Float
  pressures = (iteration (scene_of b) (coefficients (scene_of b)) (pressures_in d n l)).pressures

  pressures_table : pressures ≡ table n (λ i. (next i).pressure)
  unfolding iteration next_pressures
  pressures_table = map-table (λ k. k.pressure) (fluid_size (scene_of b)) next
      ∙ ap (λ (j : ℕ). table j (λ i. (next i).pressure)) (sym size)

  pressure_next : (i : ℕ) → i < n → pressure pressures i ≡ (next i).pressure
  pressure_next i h = ap (λ (ps : List Float). pressure ps i) pressures_table
      ∙ table_at n (λ i. (next i).pressure) i +0 h

  length_pressures : length pressures ≡ n
  length_pressures = ap length pressures_table ∙ length-table n (λ i. (next i).pressure)

  -- ---- quotients

  module _ {x : List Float} (e : x ≡ After b d n Quotients l) where
    pub quotients_pressures : pressures_in d n x ≡ pressures_in d n l
    unfolding slot_of
    quotients_pressures = rw e (pressures_kept b is axes size Quotients n (omega arith) l (inl (omega arith)))

    quotients_iteration : IterationReady (scene_of b) (pressures_in d n l) d n x
    unfolding slot_of
    quotients_iteration =
        rw e (iteration_same b is axes size n (omega arith) l Quotients (pressures_in d n l) (omega arith)
        (inr (omega arith)) ready)

    quotients_rows : Rows d n (quotient_slot d) (quotient_row (scene_of b) (pressures_in d n x)) x
    unfolding slot_of row_of
    quotients_rows =
        rw quotients_pressures
        (rows_same
        (λ i h. ap (λ (q : Float). q ∷ [])
        (ap (λ (m : ℕ). row_quotient d l m i) (sym size) ∙ quotient_made ready size i h))
        (rw e (pass_rows b is axes size Quotients l rows_fit)))

    pub quotients_there : DijReady (scene_of b) d n x
    quotients_there = record { room = quotients_iteration.room; quotients = quotients_rows }

    -- ---- dij_pjl

    module _ {y : List Float} (f : y ≡ After b d n DijPjl x) where
      dij_pressures : pressures_in d n y ≡ pressures_in d n l
      unfolding slot_of
      dij_pressures =
          rw f (pressures_kept b is axes size DijPjl n (omega arith) x (inr (omega arith)) ∙ quotients_pressures)

      dij-iteration : IterationReady (scene_of b) (pressures_in d n l) d n y
      unfolding slot_of
      dij-iteration =
          rw f (iteration_same b is axes size n (omega arith) x DijPjl (pressures_in d n l) (omega arith)
          (inl (omega arith)) quotients_iteration)

      pub dij_there : IterationReady (scene_of b) (pressures_in d n y) d n y
      dij_there = rw dij_pressures dij-iteration

      dijs_there : dijs_in d n y ≡ dij_pjls (scene_of b) (coefficients (scene_of b)) (pressures_in d n l)
      unfolding slot_of row_of
      dijs_there =
          let q : pressures_in d (fluid_size (scene_of b)) x ≡ pressures_in d n l = rw (← size) quotients_pressures in
          dijs_are b (pressures_in d n l) is size
          (rows_same
          (λ i h. ap (λ (ps : List Float). dij_pjl (scene_of b) (coefficients (scene_of b)) ps
          (particle (scene_of b) i)) q)
          (rw f (pass_rows b is axes size DijPjl x (omega (arith, quotients_iteration.room)))))

      -- ---- next pressures

      module _ {z : List Float} (g : z ≡ After b d n NextPressures y) where
        next_iteration : IterationReady (scene_of b) (pressures_in d n l) d n z
        unfolding slot_of
        next_iteration =
            rw g (iteration_same b is axes size n (omega arith) y NextPressures (pressures_in d n l) (omega arith)
            (inr (omega arith)) dij-iteration)

        pub next_room : volumes_at d n + boundary_size (scene_of b) ≤ length z
        next_room = next_iteration.room

        next_rows : Rows d n (quotient_slot d) (λ i. next_list (next i)) z
        unfolding slot_of row_of
        next_rows =
            let s = scene_of b in
            let p : pressures_in d (fluid_size s) y ≡ pressures_in d n l = rw (← size) dij_pressures in
            let v : dijs_in d (fluid_size s) y ≡ dij_pjls s (coefficients s) (pressures_in d n l) =
            rw (← size) dijs_there
            in
            rows_same
            (λ i h.
            ap (λ (ps : List Float). next_list (next_pressure s (coefficients s) ps (dijs_in d (fluid_size s) y) i)) p
            ∙ ap (λ (ds : List Vector). next_list (next_pressure s (coefficients s) (pressures_in d n l) ds i)) v)
            (rw g (pass_rows b is axes size NextPressures y (omega (arith, dij-iteration.room))))

        -- ---- the exchange

        module _ {w : List Float} (k : w ≡ After b d n Exchange z) where
          after-rows : Rows d n (quotient_slot d) (λ i. next_list (next i)) w
          unfolding slot_of
          after-rows =
              rw k (pass_kept b is axes size Exchange n (omega arith) z (quotient_slot d) 2 (λ j m. refl)
              (omega (arith, axes.least))
              (inr (omega arith)) next_rows)

          exchanged : Rows d n (pressure_slot d) (λ i. pressure pressures i ∷ []) w
          unfolding slot_of row_of
          exchanged =
              rows_same
              (λ i h. ap (λ (p : Float). p ∷ [])
              (ap (λ (m : ℕ). row_next d z m i) (sym size)
              ∙ column_value d (λ i. (next i).pressure)
              (rows-one next_rows 1 (λ i. (next i).pressure) (λ i m. (omega arith, refl))) (omega arith) i h
              ∙ sym (pressure_next i h)))
              (rw k (pass_rows b is axes size Exchange z (omega (arith, next_iteration.room))))

          iterated-iteration : IterationReady (scene_of b) pressures d n w
          unfolding slot_of
          iterated-iteration =
              rw k (iteration_kept b is axes size n (omega arith) z Exchange (pressures_in d n l) pressures
              (omega arith)
              (inl (omega arith)) (rw k at exchanged) next_iteration)

          pub iterated_pressures : pressures_in d n w ≡ pressures
          iterated_pressures = pressures_are iterated-iteration length_pressures

          pub iterated_ready : IterationReady (scene_of b) (pressures_in d n w) d n w
          iterated_ready = rw iterated_pressures iterated-iteration

          pub iterated-terms : terms_in d n w
              ≡ map (λ k. k.term) (next_pressures (scene_of b) (coefficients (scene_of b)) (pressures_in d n l))
          unfolding next_pressures
          iterated-terms =
              sym (ap (λ (k : ℕ). column n k w) (add-zero (quotient_slot d)))
              ∙ column_values d (λ i. (next i).term)
              (rows-one after-rows 0 (λ i. (next i).term) (λ i m. (omega arith, refl))) (omega arith)
              ∙ ap (λ (j : ℕ). table j (λ i. (next i).term)) size
              ∙ sym (map-table (λ k. k.term) (fluid_size (scene_of b)) next)

          pub iterated_made : w ≡ iterated d (scene_of b) l
          unfolding iterated
          iterated_made = rw (k, g, f, e, size)

-- ---- the list after an iteration

module _ (b : List ℕ) {d n : ℕ} (is : d ≡ axes_of b) (size : n ≡ fluid_size (scene_of b)) (l : List Float)
    (ready : IterationReady (scene_of b) (pressures_in d n l) d n l) where
  pub again_pressures : pressures_in d n (iterated d (scene_of b) l)
      ≡ (iteration (scene_of b) (coefficients (scene_of b)) (pressures_in d n l)).pressures
  again_pressures =
      rw (← iterated_made b is size l ready refl refl refl refl)
      (iterated_pressures b is size l ready refl refl refl refl)

  pub again-ready :
      IterationReady (scene_of b) (pressures_in d n (iterated d (scene_of b) l)) d n (iterated d (scene_of b) l)
  again-ready =
      rw (← iterated_made b is size l ready refl refl refl refl) (iterated_ready b is size l ready refl refl refl refl)

module _ (b : List ℕ) {d : ℕ} (is : d ≡ axes_of b) where
  pub length-iterated : (l : List Float) → length (iterated d (scene_of b) l) ≡ length l
  unfolding iterated
  length-iterated l =
      let axes = axes-are b is in
      length-kept b is axes refl Exchange (fluid_size (scene_of b)) (omega arith) _
      ∙ length-kept b is axes refl NextPressures (fluid_size (scene_of b)) (omega arith) _
      ∙ length-kept b is axes refl DijPjl (fluid_size (scene_of b)) (omega arith) _
      ∙ length-kept b is axes refl Quotients (fluid_size (scene_of b)) (omega arith) l

  pub length-times : (i : ℕ) (l : List Float) → length (iterated_times i d (scene_of b) l) ≡ length l
  unfolding iterated_times
  length-times zero l = refl
  length-times (suc i) l = length-iterated (iterated_times i d (scene_of b) l) ∙ length-times i l

  -- beyond rows and columns
  module _ (k : ℕ) (h : volumes_at d (fluid_size (scene_of b)) ≤ k) where
    drop-iterated : (l : List Float) → drop k (iterated d (scene_of b) l) ≡ drop k l
    unfolding iterated
    drop-iterated l =
        let axes = axes-are b is in
        pass_drop b is axes refl Exchange _ k h ∙ pass_drop b is axes refl NextPressures _ k h
        ∙ pass_drop b is axes refl DijPjl _ k h ∙ pass_drop b is axes refl Quotients l k h

    pub drop-times : (i : ℕ) (l : List Float) → drop k (iterated_times i d (scene_of b) l) ≡ drop k l
    unfolding iterated_times
    drop-times zero l = refl
    drop-times (suc i) l = drop-iterated (iterated_times i d (scene_of b) l) ∙ drop-times i l

-- ---- the error

-- from the results of the four passes' calls and the error's
pub iterates_made : (b : List ℕ) {d n : ℕ} (is : d ≡ axes_of b) (size : n ≡ fluid_size (scene_of b)) (l : List Float)
    → IterationReady (scene_of b) (pressures_in d n l) d n l
    → {x y z w : List Float} {r : IterationError} → x ≡ After b d n Quotients l → y ≡ After b d n DijPjl x
    → z ≡ After b d n NextPressures y → w ≡ After b d n Exchange z
    → r ≡ error_of (scene_of b).header.criterion
    (averages (scene_of b).header.summation (scene_of b).fluid_counts (terms_in d n w))
    → Iterates d (scene_of b) l r w
unfolding iteration
iterates_made b {d} {n} is size l ready {w = w} e f g k q =
    let h = (scene_of b).header in
    record {
      error =
          q
          ∙ ap (λ (ts : List Float). error_of h.criterion (averages h.summation (scene_of b).fluid_counts ts))
          (iterated-terms b is size l ready e f g k)
          ∙ ap (λ (j : ℕ). (iteration (scene_of b) (coefficients (scene_of b)) (pressures_in d j l)).error) size;
      list = iterated_made b is size l ready e f g k;
    }
