-- `iisph_motion::answers::put_answer` meets its contract: the stores one after the other are those of the rule's
-- answers. Assumes nothing.
use mathlib.Core.Path.{◌≡◌, ap, ◌∙◌}
use native.Mathlib.Omega.{arith}
use lib.ListN.{length}
use lib.Seq.{length-sets}
use Rattle.iisph_motion.proofs.Accelerations.{pass_axes}
use Rattle.iisph_motion.proofs.Motions.{answer_room, answer_made}
use Rattle.iisph_motion.proofs.answers.put_answer.Goals as goal

pub put_vector-requires : goal.put_vector-requires
put_vector-requires c =
    let room = answer_room c.args.over.dim c.args.i c.fluid_answer_width.ensures.0 c.requires.i_lt_n.1 in (
      pass_axes c.requires.driven_pass.0.timed.over,
      omega (arith, room, c.fluid_answer_width.ensures.0),
    )

pub put_vector-requires-2 : goal.put_vector-requires-2
put_vector-requires-2 c =
    let room = answer_room c.args.over.dim c.args.i c.fluid_answer_width.ensures.0 c.requires.i_lt_n.1 in
    let kept : length c.put_vector.new.work ≡ length c.args.answers.now = ap length c.put_vector.ensures
    ∙ simp length-sets in (
      pass_axes c.requires.driven_pass.0.timed.over,
      omega (arith, kept, room, c.fluid_answer_width.ensures.0, c.from-axes.ensures),
    )

pub returns : goal.returns
returns c =
    let a = c.args in
    answer_made (pass_axes c.requires.driven_pass.0.timed.over).most a.work.now c.requires.i_lt_n.0
    c.motion_of-motion.ensures
    a.answers.now
    c.fluid_answer_width.ensures.0
    c.from-axes.ensures
    c.row_at.ensures.0
    c.pressure_slot.ensures
    c.put_vector.ensures
    c.put_vector-2.ensures
