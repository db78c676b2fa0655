-- `scene_lengths::boundary_answers` meets its contract: boundary by boundary, each read at the head that the layout
-- has. Assumes nothing.
use Prim.Native.Nat.{◌*◌, ◌≤◌}
use mathlib.Core.Path.{◌≡◌}
use Rattle.math.specs.Vector.{space}
use Rattle.scene_format.specs.Format.{axes_of, most_particles, counts_of, keeps_of}
use Rattle.scene_format.specs.declared.Kind.TheVariants.{Boundary}
use Rattle.scene_lengths.specs.Lengths.{kept_answer_width, answers_before}
use Rattle.scene_lengths.proofs.boundary_answers.Given as goal

abbrev pub invariant-loop-head : goal.invariant-loop-head
invariant-loop-head l =
    (l.needed ≤ kept_answer_width space * most_particles * l.head-index)
    × (l.needed ≡ answers_before (axes_of l.scene) Boundary (keeps_of Boundary l.scene) (counts_of Boundary l.scene)
    l.head-index)
