-- A turn of a pass, case by case: the stores that the code makes one after the other are the slots of the particle that
-- the pass is to store. By where slots stand. Assumes nothing.
use Prim.Native.Nat.{ℕ, suc, ◌+◌, ◌*◌, ◌<◌, ◌≤◌}
use mathlib.Core.Path.{◌≡◌, sym, ap, ◌∙◌}
use mathlib.Core.List.{List, [], ◌∷◌, ◌++◌}
use native.Mathlib.Omega.{arith}
use lib.Ieee.{Float}
use lib.ListN.{length, set}
use lib.Seq.{sets}
use Rattle.math.specs.Vector.{Axes, Vector}
use Rattle.lists.proofs.Stores.{slots_append}
use Rattle.math.specs.declared.Vec3.{Vec3}
use Rattle.scene_format.specs.Scene.{Scene, fluid_size, boundary_size, particle}
use Rattle.scene_format.specs.SceneOf.{scene_of}
use Rattle.iisph_rules.specs.Coefficients.{particle_mass, advected_velocity, coefficients_of, coefficients}
use Rattle.iisph_rules.specs.Iteration.{dij_pjl, next_pressure}
use Rattle.iisph_rows.specs.Rows.{volumes_at, row_at, row_width, slot_at, set_slots, mass_slot, dij_slot, pressure_slot}
use Rattle.iisph_rows.specs.Rows.{density_slot, predicted_slot, aii_slot, quotient_slot, next_pressure_slot}
use Rattle.iisph_rows.specs.Passes.{DrivenPass, first_pressure}
use Rattle.scene_lengths.specs.Lengths.{work_width}
use Rattle.iisph_rows.proofs.RowStores.{row_set, column-set, column_first}
use Rattle.iisph_coefficients.specs.Neighbours.{coefficient_row, CoefficientsAre}
use Rattle.iisph_coefficients.specs.declared.coefficients.CoefficientsOf.{CoefficientsOf}
use Rattle.iisph_pressures.specs.IterationRows.{pressures_in, dijs_in, row_quotient, row_share, NextIs}
use Rattle.iisph_pressures.specs.declared.iteration.Next.{Next}
use Rattle.iisph_pressures.proofs.IterationTerms.{axes-are}
use Rattle.iisph_passes.specs.Traverse.{slot_of, row_of, coefficient_list, row_next}
use Rattle.iisph_passes.specs.declared.traverse.Pass.{Pass}
use Rattle.iisph_passes.specs.declared.traverse.Pass.TheVariants.{Advection, Coefficients, Quotients}
use Rattle.iisph_passes.specs.declared.traverse.Pass.TheVariants.{DijPjl, NextPressures, Exchange, Shares}

-- ---- several slots of one particle

module _ (d n i : ℕ) where
  -- in the row a double, and a vector right behind it
  row_part_set : (k : ℕ) (x : Float) (v : Vector) (l : List Float) → k + 1 + length v ≤ row_width d
      → sets (set l (row_at d i + k) x) (row_at d i + (k + 1)) v ≡ set_slots d n i k (x ∷ v) l
  row_part_set k x v l fits =
      let next : row_at d i + (k + 1) ≡ suc (row_at d i + k) = omega arith in
      ap (λ (j : ℕ). sets (set l (row_at d i + k) x) j v) next
      ∙ sym (row_set d n i k (x ∷ v) l (omega arith))

  -- three columns
  columns_set : (x y z : Float) (l : List Float)
      → set (set (set l (density_slot d * n + i) x) (predicted_slot d * n + i) y) (aii_slot d * n + i) z
      ≡ set_slots d n i (density_slot d) (x ∷ y ∷ z ∷ []) l
  columns_set x y z l =
      let l₁ = set l (density_slot d * n + i) x in
      let l₂ = set l₁ (predicted_slot d * n + i) y in
      sym
      (column_first d n i (density_slot d) x (y ∷ z ∷ []) l (omega arith)
      ∙ column_first d n i (predicted_slot d) y (z ∷ []) l₁ (omega arith)
      ∙ column-set d n i (aii_slot d) z l₂ (omega arith))

  -- the coefficients: a pressure and dii in the row, then the columns
  pub coefficients-set : (p : Float) (u : Vector) (x y z : Float) (l : List Float) → length u ≡ d
      → {slot k₁ k₂ k₃ : ℕ} → slot ≡ pressure_slot d → k₁ ≡ density_slot d → k₂ ≡ predicted_slot d → k₃ ≡ aii_slot d
      → {first second third last : List Float}
      → first ≡ sets (set l (row_at d i + slot) p) (row_at d i + (slot + 1)) u
      → second ≡ set first (k₁ * n + i) x → third ≡ set second (k₂ * n + i) y → last ≡ set third (k₃ * n + i) z
      → last ≡ set_slots d n i (pressure_slot d) (p ∷ (u ++ (x ∷ y ∷ z ∷ []))) l
  coefficients-set p u x y z l long q q₁ q₂ q₃ {first} e₁ e₂ e₃ e₄ =
      let behind : density_slot d ≡ pressure_slot d + length (p ∷ u) = omega arith in
      rw (e₄, e₃, e₂, q₁, q₂, q₃)
      (columns_set x y z first
      ∙ ap (set_slots d n i (density_slot d) (x ∷ y ∷ z ∷ []))
      (e₁ ∙ ap (λ (k : ℕ). sets (set l (row_at d i + k) p) (row_at d i + (k + 1)) u) q
      ∙ row_part_set (pressure_slot d) p u l (omega arith))
      ∙ ap (λ (k : ℕ). set_slots d n i k (x ∷ y ∷ z ∷ []) (set_slots d n i (pressure_slot d) (p ∷ u) l)) behind
      ∙ sym (slots_append (slot_at d n i) (p ∷ u) (x ∷ y ∷ z ∷ []) l (pressure_slot d)))

-- ---- what a store of particle i asks: the number of axes, the particle, and room for rows and columns

pub row_asked : {b index : List ℕ} {d n i m : ℕ} {t : Float} {g : Vec3} → DrivenPass b index d n t g × (i < n)
    → volumes_at d n + boundary_size (scene_of b) ≤ m → Axes d × (i < n) × (volumes_at d n ≤ m)
row_asked p room = (axes-are _ p.0.timed.over.axes, p.1, omega (arith, room))

pub quotient_within : {d k : ℕ} → Axes d → k ≡ quotient_slot d → k < work_width d
quotient_within axes e = omega arith

pub quotient_asked : {d n i m k : ℕ} → Axes d × (i < n) × (volumes_at d n ≤ m) → k ≡ quotient_slot d
    → (k < work_width d) × (i < n) × (volumes_at d n ≤ m)
quotient_asked h e = (quotient_within h.0 e, h.1, h.2)

-- ---- each pass

module _ (s : Scene) {pass : Pass} (d n i : ℕ) (work : List Float) where
  pub advection_stored : {m : Float} {v after : List Float} → pass ≡ Advection → m ≡ particle_mass (particle s i)
      → v ≡ advected_velocity s (particle s i) → length v ≡ d
      → after ≡ sets (set work (row_at d i + mass_slot) m) (row_at d i + (mass_slot + 1)) v
      → after ≡ set_slots d n i (slot_of d pass) (row_of d s work pass i) work
  unfolding row_of slot_of
  advection_stored {m} {v} e q r long g = g ∙ row_part_set d n i mass_slot m v work (omega arith) ∙ rw (e, q, r)

  pub coefficients-stored : {c : CoefficientsOf} {p : Float} {after : List Float} → pass ≡ Coefficients
      → CoefficientsAre d c (coefficients_of s (particle s i)) → p ≡ first_pressure s i
      → after ≡ set_slots d n i (pressure_slot d) (coefficient_list d c p) work
      → after ≡ set_slots d n i (slot_of d pass) (row_of d s work pass i) work
  unfolding row_of slot_of coefficient_row
  coefficients-stored {c} {p} e q r g =
      g
      ∙ ap (λ (u : List Float). set_slots d n i (pressure_slot d)
      (p ∷ (u ++ (c.density ∷ c.predicted_density ∷ c.aii ∷ []))) work) q.dii
      ∙ rw (e, q.density, q.predicted_density, q.aii, r)

  module _ (size : n ≡ fluid_size s) where
    pub quotient-stored : {q : Float} {column : ℕ} {after : List Float} → pass ≡ Quotients → q ≡ row_quotient d work n i
        → column ≡ quotient_slot d → after ≡ set work (column * n + i) q
        → after ≡ set_slots d n i (slot_of d pass) (row_of d s work pass i) work
    unfolding row_of slot_of
    quotient-stored {q} e h ce g =
        g ∙ rw ce (sym (column-set d n i (quotient_slot d) q work (omega arith)) ∙ rw (e, h, ← size))

    pub share_stored : {q : Float} {column : ℕ} {after : List Float} → pass ≡ Shares → q ≡ row_share d work n i
        → column ≡ quotient_slot d → after ≡ set work (column * n + i) q
        → after ≡ set_slots d n i (slot_of d pass) (row_of d s work pass i) work
    unfolding row_of slot_of
    share_stored {q} e h ce g =
        g ∙ rw ce (sym (column-set d n i (quotient_slot d) q work (omega arith)) ∙ rw (e, h, ← size))

    pub exchange_stored : {after : List Float} → pass ≡ Exchange
        → after ≡ set work (row_at d i + pressure_slot d) (row_next d work n i)
        → after ≡ set_slots d n i (slot_of d pass) (row_of d s work pass i) work
    unfolding row_of slot_of
    exchange_stored e g =
        g ∙ sym (row_set d n i (pressure_slot d) (row_next d work n i ∷ []) work (omega arith)) ∙ rw (e, ← size)

    pub dij-stored : {v after : List Float} → pass ≡ DijPjl
        → v ≡ dij_pjl s (coefficients s) (pressures_in d n work) (particle s i)
        → length v ≡ d → {row : ℕ} → row ≡ row_at d i → after ≡ sets work (row + dij_slot) v
        → after ≡ set_slots d n i (slot_of d pass) (row_of d s work pass i) work
    unfolding row_of slot_of
    dij-stored {v} e q long re g =
        g ∙ rw re (sym (row_set d n i dij_slot v work (omega arith)) ∙ rw (e, q, ← size))

    pub next_stored : {r : Next} {column next : ℕ} {first last : List Float} → pass ≡ NextPressures
        → NextIs r (next_pressure s (coefficients s) (pressures_in d n work) (dijs_in d n work) i)
        → column ≡ quotient_slot d → next ≡ next_pressure_slot d
        → first ≡ set work (column * n + i) r.term → last ≡ set first (next * n + i) r.pressure
        → last ≡ set_slots d n i (slot_of d pass) (row_of d s work pass i) work
    unfolding row_of slot_of
    next_stored {r} e q ce ne g h =
        rw (h, g, ce, ne)
        (sym
        (column_first d n i (quotient_slot d) r.term (r.pressure ∷ []) work (omega arith)
        ∙ column-set d n i (next_pressure_slot d) r.pressure (set work (quotient_slot d * n + i) r.term)
        (omega arith))
        ∙ rw (e, q.term, q.pressure, ← size))
