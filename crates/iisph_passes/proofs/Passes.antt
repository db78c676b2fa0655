-- What a pass leaves in the work list: its slots, beside other slots and the volumes, and all else as it was; and
-- what the pass at hand finds there. From the laws of stores, for every pass at once. Assumes nothing.
use Prim.Native.Nat.{ℕ, ◌+◌, ◌<◌, ◌≤◌}
use mathlib.Core.Path.{◌≡◌, subst}
use mathlib.Core.List.{List}
use mathlib.Core.Logic.{◌⊎◌}
use native.Mathlib.Omega.{arith}
use lib.Ieee.{Float, nan}
use lib.ListN.{length, get_or, drop, length-drop}
use lib.Seq.{ext_get_or, get_or-drop}
use Rattle.math.specs.Vector.{Axes}
use Rattle.scene_format.specs.Format.{axes_of}
use Rattle.scene_format.specs.Scene.{Scene, fluid_size}
use Rattle.scene_format.specs.SceneOf.{scene_of}
use Rattle.scene_lengths.specs.Lengths.{work_width}
use Rattle.iisph_rows.specs.Rows.{volumes_at, slot_at, stored, Rows, Behind}
use Rattle.iisph_rows.specs.Passes.{CoefficientsReady}
use Rattle.iisph_pressures.specs.IterationRows.{Iterating, DijReady}
use Rattle.iisph_passes.specs.Traverse.{slot_of, row_of, Ready}
use Rattle.iisph_passes.specs.declared.traverse.Pass.{Pass}
use Rattle.iisph_passes.specs.declared.traverse.Pass.TheVariants.{Coefficients, DijPjl, NextPressures}
use Rattle.iisph_rows.proofs.RowStores.{slots_apart}
use Rattle.lists.proofs.Stores.{stored_beyond, stored-rows}
use Rattle.iisph_passes.proofs.Traversal.{row_length, row_fits, row_length_lem, pass_kept, volumes_kept, length-kept}

-- equal lengths, and equal elements from k on
pub drop_same : (k : ℕ) (x y : List Float) → length x ≡ length y → ((j : ℕ) → k ≤ j → get_or x j nan ≡ get_or y j nan)
    → drop k x ≡ drop k y
drop_same k x y l h =
    ext_get_or nan (drop k x) (drop k y) (simp length-drop (omega arith))
    (λ j m. rw (get_or-drop k x, get_or-drop k y) (h (k + j) (omega arith)))

module _ (b : List ℕ) {d n : ℕ} (is : d ≡ axes_of b) (axes : Axes d) (size : n ≡ fluid_size (scene_of b)) (pass : Pass)
    (l : List Float) where
  pub pass_rows : volumes_at d n ≤ length l
      → Rows d n (slot_of d pass) (row_of d (scene_of b) l pass)
      (stored d n (slot_of d pass) (row_of d (scene_of b) l pass) l)
  pass_rows room =
      stored-rows nan (slot_at d n) (slot_of d pass) (row_of d (scene_of b) l pass) l n (work_width d) (slots_apart d n)
      (row_length d pass) (row_length_lem b is axes size l pass) (row_fits axes pass) room

  pub pass_keeps : (k c : ℕ) {g : ℕ → List Float} → ((i : ℕ) → i < n → length (g i) ≡ c) → k + c ≤ work_width d
      → (k + c ≤ slot_of d pass) ⊎ (slot_of d pass + row_length d pass ≤ k) → Rows d n k g l
      → Rows d n k g (stored d n (slot_of d pass) (row_of d (scene_of b) l pass) l)
  pass_keeps k c wide fits apart q = pass_kept b is axes size pass n (omega arith) l k c wide fits apart q

  pub pass_part : {xs : List Float} → Behind d n xs l
      → Behind d n xs (stored d n (slot_of d pass) (row_of d (scene_of b) l pass) l)
  pass_part q = volumes_kept b is axes size pass n (omega arith) l q

  pub pass_beyond : (j : ℕ) → volumes_at d n ≤ j →
      get_or (stored d n (slot_of d pass) (row_of d (scene_of b) l pass) l) j nan
      ≡ get_or l j nan
  pass_beyond j h =
      stored_beyond nan (slot_at d n) (slot_of d pass) (row_of d (scene_of b) l pass) l n (work_width d)
      (slots_apart d n)
      (row_length d pass) (row_length_lem b is axes size l pass) (row_fits axes pass) n (omega arith) j h

  pub pass_drop : (k : ℕ) → volumes_at d n ≤ k → drop k (stored d n (slot_of d pass) (row_of d (scene_of b) l pass) l)
      ≡ drop k l
  pass_drop k h =
      drop_same k _ l (length-kept b is axes size pass n (omega arith) l) (λ j m. pass_beyond j (omega arith))

-- ---- of the pass at hand

module _ (s : Scene) {pass : Pass} (d n : ℕ) (work : List Float) (q : Ready s d n work pass) where
  pub coefficients_ready : pass ≡ Coefficients → CoefficientsReady s d n work
  unfolding Ready
  coefficients_ready e = subst (Ready s d n work) e q

  pub dij_ready : pass ≡ DijPjl → DijReady s d n work
  unfolding Ready
  dij_ready e = subst (Ready s d n work) e q

  pub next_ready : pass ≡ NextPressures → Iterating s d n work
  unfolding Ready
  next_ready e = subst (Ready s d n work) e q
