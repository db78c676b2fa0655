-- `scene_lengths::lengths_of` meets its contract: the layout's totals are the scene's. Assumes nothing.
use Prim.Native.Nat.{◌+◌, ◌*◌, ◌≤◌}
use mathlib.Core.Path.{ap, ◌∙◌}
use native.Mathlib.Omega.{arith}
use Rattle.math.specs.Vector.{space}
use Rattle.scene_check.proofs.Accepted.{accepted_header}
use Rattle.scene_format.specs.Format.{most_of_a_kind}
use Rattle.scene_lengths.specs.Lengths.{fluid_answer_width, work_width, added_width}
use Rattle.scene_lengths.proofs.Needed.{fluids_few, boundaries_few, width_few, answers_few, lengths_are}
use Rattle.scene_lengths.proofs.lengths_of.Goals as goal

pub boundary_answers-behind-requires : goal.boundary_answers-behind-requires
boundary_answers-behind-requires c = c.requires

pub summation-requires : goal.summation-requires
summation-requires c = omega (arith, accepted_header _ c.requires.walk)

pub overflow_mul-result : goal.overflow_mul-result
overflow_mul-result c =
    let answers : c.fluid_answer_width.result * c.args.layout.fluids.total ≤ fluid_answer_width space * most_of_a_kind
    = answers_few _ c.fluid_answer_width.ensures.0 c.axes-dim.ensures.1.most (fluids_few c.requires) in
    omega (arith, answers)

pub overflow_add-result : goal.overflow_add-result
overflow_add-result c =
    let answers : c.fluid_answer_width.result * c.args.layout.fluids.total ≤ fluid_answer_width space * most_of_a_kind
    = answers_few _ c.fluid_answer_width.ensures.0 c.axes-dim.ensures.1.most (fluids_few c.requires) in
    omega (arith, answers, c.boundary_answers-behind.ensures.0)

pub overflow_mul-result-2 : goal.overflow_mul-result-2
overflow_mul-result-2 c =
    let rows : (c.work_width.result + c.added_width.result) * c.args.layout.fluids.total ≤ (work_width space + 1)
    * most_of_a_kind = width_few _ c.work_width.ensures.0 c.axes-dim.ensures.1.most c.added_width.ensures.1
    (fluids_few c.requires) in
    omega (arith, rows)

pub overflow_add-result-2 : goal.overflow_add-result-2
overflow_add-result-2 c =
    let rows : (c.work_width.result + c.added_width.result) * c.args.layout.fluids.total ≤ (work_width space + 1)
    * most_of_a_kind = width_few _ c.work_width.ensures.0 c.axes-dim.ensures.1.most c.added_width.ensures.1
    (fluids_few c.requires) in
    omega (arith, rows, boundaries_few c.requires)

pub returns : goal.returns
returns c =
    let axes = c.axes-dim.ensures.0 in
    lengths_are c.requires (c.fluid_answer_width.ensures.0 ∙ ap fluid_answer_width axes)
    (c.work_width.ensures.0 ∙ ap work_width axes) c.boundary_answers-behind.ensures.1
    (c.added_width.ensures.0 ∙ ap added_width c.summation.ensures)
