-- What the work list holds in an iteration, by the rules: coefficients, pressures, quotients and dij_pjl, of
-- one particle and of all. Each is the one field of IterationReady, or the one table, that says it. Assumes nothing.
use Prim.Native.Nat.{ℕ, ◌+◌, ◌*◌, ◌<◌}
use mathlib.Core.Path.{◌≡◌, sym, ap, ◌∙◌}
use mathlib.Core.List.{List, []}
use native.Mathlib.Omega.{arith}
use lib.Ieee.{Float}
use lib.ListN.{length}
use lib.Seq.{ext_get_or}
use Rattle.math.specs.Real.{◌⊗◌, ◌⊘◌, ⊝, +0}
use Rattle.math.specs.Vector.{Vector}
use Rattle.lists.specs.Lists.{table}
use Rattle.lists.proofs.Lists.{length-table, table_at, table_same}
use Rattle.scene_format.specs.Scene.{Scene, fluid_size, particle}
use Rattle.scene_format.specs.SceneOf.{scene_of}
use Rattle.iisph_rules.specs.Coefficients.{particle_mass, coefficients_of, coefficients, no_coefficients, coefficient}
use Rattle.iisph_rules.specs.Iteration.{pressure, dij_pjl, dij_pjls, dij}
use Rattle.iisph_pressures.specs.IterationRows.{IterationReady, pressures_in, dijs_in, row_quotient, quotient}
use Rattle.iisph_rows.specs.Rows.{row_at, element_at, vector_from, Rows, mass_slot, pressure_slot, dij_slot}
use Rattle.iisph_rows.specs.Rows.{density_slot}
use Rattle.iisph_rows.specs.Rows.{predicted_slot, aii_slot}
use Rattle.scene_format.specs.Format.{axes_of}
use Rattle.iisph_rules.proofs.Sizes.{length-dij}
use Rattle.iisph_rows.proofs.RowReads.{row_value, row_vector, column_value}

-- ---- of one particle

pub coefficient_at : (s : Scene) (j : ℕ) → j < fluid_size s
    → coefficient (coefficients s) j ≡ coefficients_of s (particle s j)
unfolding coefficients
coefficient_at s j h = table_at (fluid_size s) (λ i. coefficients_of s (particle s i)) j no_coefficients h

pub pressure_in : (d : ℕ) {n : ℕ} (work : List Float) (j : ℕ) → j < n → element_at work (row_at d j + pressure_slot d)
    ≡ pressure (pressures_in d n work) j
unfolding pressures_in
pressure_in d {n} work j h = sym (table_at n (λ i. element_at work (row_at d i + pressure_slot d)) j +0 h)

pub dij_in : (d : ℕ) {n : ℕ} (work : List Float) (j : ℕ) → j < n
    → vector_from d work (row_at d j + dij_slot) ≡ dij (dijs_in d n work) j
unfolding dijs_in
dij_in d {n} work j h = sym (table_at n (λ i. vector_from d work (row_at d i + dij_slot)) j [] h)

module _ {s : Scene} {ps : List Float} {d n : ℕ} {work : List Float} (q : IterationReady s ps d n work)
    (size : n ≡ fluid_size s) (j : ℕ) (h : j < n) where
  pub density_in : element_at work (density_slot d * n + j) ≡ (coefficient (coefficients s) j).density
  density_in =
      column_value d (λ i. (coefficients_of s (particle s i)).density) q.density (omega arith) j h
      ∙ sym (ap (λ k. k.density) (coefficient_at s j (omega arith)))

  pub predicted_in : element_at work (predicted_slot d * n + j) ≡ (coefficient (coefficients s) j).predicted_density
  predicted_in =
      column_value d (λ i. (coefficients_of s (particle s i)).predicted_density) q.predicted_density (omega arith) j h
      ∙ sym (ap (λ k. k.predicted_density) (coefficient_at s j (omega arith)))

  pub aii_in : element_at work (aii_slot d * n + j) ≡ (coefficient (coefficients s) j).aii
  aii_in = column_value d (λ i. (coefficients_of s (particle s i)).aii) q.aii (omega arith) j h
      ∙ sym (ap (λ k. k.aii) (coefficient_at s j (omega arith)))

  pub mass_in : element_at work (row_at d j + mass_slot) ≡ particle_mass (particle s j)
  mass_in = row_value d (λ i. particle_mass (particle s i)) q.mass (omega arith) j h

-- ---- quotients, and shares

pub quotient_same : {m m' p p' r r' : Float} → m ≡ m' → p ≡ p' → r ≡ r' → ⊝ m ⊗ p ⊘ (r ⊗ r) ≡ ⊝ m' ⊗ p' ⊘ (r' ⊗ r')
quotient_same e q s = rw (e, q, s)

pub share_same : {p p' r r' : Float} → p ≡ p' → r ≡ r' → p ⊘ (r ⊗ r) ≡ p' ⊘ (r' ⊗ r')
share_same e q = rw (e, q)

pub quotient_made : {s : Scene} {ps : List Float} {d n : ℕ} {work : List Float} → IterationReady s ps d n work
    → n ≡ fluid_size s → (i : ℕ) → i < n
    → row_quotient d work n i ≡ quotient s ps i
unfolding quotient
quotient_made {s} {ps} {d} q size i h =
    quotient_same (mass_in q size i h) (row_value d (pressure ps) q.pressure (omega arith) i h)
    (density_in q size i h)

-- ---- of all particles

pub pressures_are : {s : Scene} {ps : List Float} {d n : ℕ} {work : List Float} → IterationReady s ps d n work
    → length ps ≡ n → pressures_in d n work ≡ ps
unfolding pressures_in
pressures_are {s} {ps} {d} {n} {work} q l =
    let size = length-table n (λ i. element_at work (row_at d i + pressure_slot d)) in
    ext_get_or +0 (pressures_in d n work) ps (size ∙ sym l)
    (λ i m.
    let h : i < n = omega (arith, size) in
    sym (pressure_in d work i h) ∙ row_value d (pressure ps) q.pressure (omega arith) i h)

pub dijs_are : (b : List ℕ) (ps : List Float) {d n : ℕ} {work : List Float} → d ≡ axes_of b →
    n ≡ fluid_size (scene_of b)
    → Rows d n dij_slot (λ i. dij_pjl (scene_of b) (coefficients (scene_of b)) ps (particle (scene_of b) i)) work
    → dijs_in d n work ≡ dij_pjls (scene_of b) (coefficients (scene_of b)) ps
unfolding dijs_in dij_pjls
dijs_are b ps {d} {n} {work} axes size q =
    let f : ℕ → Vector = λ i. dij_pjl (scene_of b) (coefficients (scene_of b)) ps (particle (scene_of b) i) in
    table_same n (λ i. vector_from d work (row_at d i + dij_slot)) f
    (λ i h.
    row_vector d f q (omega arith) i h (length-dij b i (omega arith) (coefficients (scene_of b)) ps ∙ sym axes))
    ∙ ap (λ (k : ℕ). table k f) size
