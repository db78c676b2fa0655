-- What stands behind the answers in a list does not show in the lines: every element that a line reads is an answer.
-- Line by line, from the doubles up. Assumes nothing.
use Prim.Native.Nat.{ℕ, ◌+◌, ◌*◌, ◌≤◌}
use mathlib.Core.Path.{◌≡◌, refl, ap}
use mathlib.Core.List.{List, ◌++◌, flatten}
use native.Mathlib.Omega.{arith}
use lib.ListN.{length, get_or, get_or-append}
use lib.Ieee.{Float, nan}
use Rattle.lists.proofs.Lists.{table_same}
use Rattle.scene_format.specs.Format.{axes_of, model_number, counts_of, keeps_of}
use Rattle.scene_format.specs.declared.Kind.{Kind}
use Rattle.scene_lengths.specs.Lengths.{width_in, answers_before, answers_in}
use Rattle.iisph_words.specs.Words.{double_text, doubles_text}
use Rattle.iisph_lines.specs.Lines.{particle_line, model_text, models_upto, models_text}
use Rattle.iisph_lines.proofs.ModelLines.{turn_fits, model_fits}

module _ (xs rest : List Float) where
  doubles-behind : (k w : ℕ) → k + w ≤ length xs → doubles_text (xs ++ rest) k w ≡ doubles_text xs k w
  unfolding doubles_text
  doubles-behind k w h =
      ap flatten
      (table_same w _ _ (λ e l. ap double_text (get_or-append xs rest nan (k + e) (omega arith))))

  model_behind : (κ : Kind) (m n w k : ℕ) → k + w * n ≤ length xs
      → model_text κ m n w k (xs ++ rest) ≡ model_text κ m n w k xs
  unfolding model_text
  model_behind κ m n w k h =
      ap flatten
      (table_same n _ _
      (λ i l. ap (particle_line κ m i) (doubles-behind (k + w * i) w (turn_fits w k l refl h))))

  models_behind : (n d : ℕ) (κ : Kind) (keeps counts : List ℕ) (k : ℕ)
      → k + answers_before d κ keeps counts n ≤ length xs
      → models_upto n d κ keeps counts k (xs ++ rest) ≡ models_upto n d κ keeps counts k xs
  unfolding models_upto
  models_behind n d κ keeps counts k h =
      ap flatten
      (table_same n _ _
      (λ m l.
      model_behind κ m (get_or counts m 0) (width_in d κ keeps m) (k + answers_before d κ keeps counts m)
      (model_fits d κ keeps counts k m refl refl refl l h)))

  pub text_behind : (κ : Kind) (b : List ℕ) (k : ℕ) → k + answers_in κ b ≤ length xs
      → models_text κ b k (xs ++ rest) ≡ models_text κ b k xs
  text_behind κ b k h = models_behind (model_number κ b) (axes_of b) κ (keeps_of κ b) (counts_of κ b) k h
