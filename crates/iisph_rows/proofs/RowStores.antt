-- Where the work list's stores go: slots within a row are a run of elements, a slot that is a column is one element;
-- and no two slots stand in one place. Each is the law of the addressing, at the width of a row. Assumes nothing.
use Prim.Native.Nat.{ℕ, ◌+◌, ◌*◌, ◌<◌, ◌≤◌}
use mathlib.Core.Path.{◌≡◌, ap, ◌∙◌}
use mathlib.Core.List.{List, [], ◌∷◌}
use native.Mathlib.Omega.{arith}
use lib.Ieee.{Float}
use lib.ListN.{length, set}
use lib.Seq.{sets}
use Rattle.lists.proofs.Addressings.{Addressing, rows_apart, row_slot, column_slot, rows_and_columns}
use Rattle.lists.proofs.Stores.{slots_one, slots_append, slots_run}
use Rattle.scene_lengths.specs.Lengths.{work_width}
use Rattle.iisph_rows.specs.Rows.{row_at, row_width, volumes_at, slot_at, set_slots}

pub slots_apart : (d n : ℕ) → Addressing n (work_width d) (slot_at d n)
slots_apart d n = rows_and_columns n (work_width d) (row_width d) (omega arith)

-- a column ends before the volumes begin
pub column_within : (d n k : ℕ) → k < work_width d → k * n + n ≤ volumes_at d n
column_within d n k h = omega (arith, rows_apart n h)

-- and a row too
pub row_within : (d : ℕ) {n i : ℕ} → i < n → row_at d i + row_width d ≤ volumes_at d n
row_within d {n} h = omega (arith, rows_apart (row_width d) h)

module _ (d n i k : ℕ) where
  pub in_row : k < row_width d → slot_at d n i k ≡ row_at d i + k
  in_row = row_slot (row_width d) n i k

  pub in_column : row_width d ≤ k → slot_at d n i k ≡ k * n + i
  in_column = column_slot (row_width d) n i k

  pub row_set : (vs l : List Float) → k + length vs ≤ row_width d → set_slots d n i k vs l ≡ sets l (row_at d i + k) vs
  row_set vs l fits =
      slots_run (slot_at d n i) vs l k (row_at d i + k)
      (λ e m. row_slot (row_width d) n i (k + e) (omega arith) ∙ omega arith)

  pub column-set : (v : Float) (l : List Float) → row_width d ≤ k → set_slots d n i k (v ∷ []) l ≡ set l (k * n + i) v
  column-set v l h = slots_one (slot_at d n i) v l k ∙ ap (λ (j : ℕ). set l j v) (in_column h)

  -- the first of several columns
  pub column_first : (v : Float) (vs l : List Float) → row_width d ≤ k
      → set_slots d n i k (v ∷ vs) l ≡ set_slots d n i (k + 1) vs (set l (k * n + i) v)
  column_first v vs l h =
      slots_append (slot_at d n i) (v ∷ []) vs l k ∙ ap (set_slots d n i (k + 1) vs) (column-set v l h)
