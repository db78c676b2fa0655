-- `iisph_lines::lines::put_models` meets its contract. The loop's invariant: the lines of the first m models are
-- written. Assumes nothing.
use Prim.Native.Nat.{◌+◌}
use mathlib.Core.Path.{◌≡◌}
use Rattle.iisph_words.specs.Texts.{Adds}
use Rattle.scene_format.specs.Format.{axes_of, counts_of, keeps_of}
use Rattle.scene_lengths.specs.Lengths.{answers_before}
use Rattle.iisph_lines.specs.Lines.{models_upto}
use Rattle.iisph_lines.proofs.lines.put_models.Given as goal

abbrev pub invariant-loop-m : goal.invariant-loop-m
invariant-loop-m l =
    (l.from ≡ l.k + answers_before (axes_of l.scene) l.kind (keeps_of l.kind l.scene) (counts_of l.kind l.scene) l.m)
    × Adds l.initial.text (models_upto l.m (axes_of l.scene) l.kind (keeps_of l.kind l.scene)
    (counts_of l.kind l.scene) l.k l.xs) l.text
