-- What is read of a work list that holds something: one value, one vector, a volume. Each is the one fact that says it,
-- taken at its element. Assumes nothing.
use Prim.Native.Nat.{ℕ, ◌+◌, ◌*◌, ◌<◌, ◌≤◌}
use mathlib.Core.Path.{◌≡◌, sym, ap, ◌∙◌}
use mathlib.Core.List.{List, [], ◌∷◌}
use native.Mathlib.Nat.{add-zero, add_assoc}
use native.Mathlib.Omega.{arith}
use lib.Ieee.{Float, nan}
use lib.ListN.{length}
use lib.Seq.{ext_get_or}
use Rattle.iisph_rules.specs.Coefficients.{boundary_volume, particle_mass, advected_velocity}
use Rattle.lists.specs.Lists.{table}
use Rattle.lists.proofs.Lists.{length-table, table_at, table_same}
use Rattle.scene_format.specs.Scene.{Scene, boundary_size, particle, boundary}
use Rattle.iisph_rows.specs.Passes.{volumes, CoefficientsReady}
use Rattle.iisph_rows.specs.Rows.{dij_slot, mass_slot, row_at, row_width, volumes_at, slot_at}
use Rattle.iisph_rows.specs.Rows.{element_at, vector_from, column, Rows, Behind}
use Rattle.iisph_rows.proofs.RowStores.{in_row, in_column}

-- one value of each particle, in its row
pub row_value : (d : ℕ) {n k : ℕ} {l : List Float} (x : ℕ → Float) → Rows d n k (λ i. x i ∷ []) l → k < row_width d
    → (j : ℕ)
    → j < n → element_at l (row_at d j + k) ≡ x j
row_value d {n} {k} {l} x q h j m =
    ap (element_at l) (sym (in_row d n j k h) ∙ ap (slot_at d n j) (sym (add-zero k))) ∙ q.holds j m 0 (omega arith)

-- in a column
pub column_value : (d : ℕ) {n k : ℕ} {l : List Float} (x : ℕ → Float) → Rows d n k (λ i. x i ∷ []) l → row_width d ≤ k
    → (j : ℕ) → j < n → element_at l (k * n + j) ≡ x j
column_value d {n} {k} {l} x q h j m =
    ap (element_at l) (sym (in_column d n j k h) ∙ ap (slot_at d n j) (sym (add-zero k))) ∙ q.holds j m 0 (omega arith)

pub column_values : (d : ℕ) {n k : ℕ} {l : List Float} (x : ℕ → Float) → Rows d n k (λ i. x i ∷ []) l → row_width d ≤ k
    → column n k l ≡ table n x
column_values d {n} x q h = table_same n _ x (column_value d x q h)

-- one vector of each particle, in its row
pub row_vector : (d : ℕ) {n k : ℕ} {l : List Float} (f : ℕ → List Float) → Rows d n k f l → k + d ≤ row_width d →
    (j : ℕ)
    → j < n → length (f j) ≡ d → vector_from d l (row_at d j + k) ≡ f j
row_vector d {n} {k} {l} f q h j m sized =
    let size = length-table d (λ e. element_at l (row_at d j + k + e)) in
    ext_get_or nan _ _ (size ∙ sym sized)
    (λ e u.
    table_at d (λ e. element_at l (row_at d j + k + e)) e nan (omega (arith, size))
    ∙ ap (element_at l) (add_assoc (row_at d j) k e ∙ sym (in_row d n j (k + e) (omega (arith, size))))
    ∙ q.holds j m e (omega (arith, size)))

pub volume_behind : (s : Scene) (d n : ℕ) {l : List Float} → Behind d n (volumes s) l → (j : ℕ) → j < boundary_size s
    → element_at l (volumes_at d n + j) ≡ boundary_volume (boundary s j)
volume_behind s d n q j h =
    q.holds j (rw (length-table (boundary_size s)) h)
    ∙ table_at (boundary_size s) (λ j. boundary_volume (boundary s j)) j nan h

module _ {s : Scene} {d n : ℕ} {work : List Float} (p : CoefficientsReady s d n work) where
  pub mass_at : (j : ℕ) → j < n → element_at work (row_at d j + mass_slot) ≡ particle_mass (particle s j)
  mass_at = row_value d (λ i. particle_mass (particle s i)) p.mass (omega arith)

  pub volume_at_lem : (j : ℕ) → j < boundary_size s → element_at work (volumes_at d n + j) ≡ boundary_volume
      (boundary s j)
  volume_at_lem = volume_behind s d n p.volume

  pub advected_at : (j : ℕ) → j < n → length (advected_velocity s (particle s j)) ≡ d
      → vector_from d work (row_at d j + dij_slot) ≡ advected_velocity s (particle s j)
  advected_at = row_vector d (λ i. advected_velocity s (particle s i)) p.advected (omega arith)
