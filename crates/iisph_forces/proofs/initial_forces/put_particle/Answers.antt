-- `iisph_forces::initial_forces::put_particle` meets its contract: the volume stands in the work list, and the record
-- has a force if it is kept. Assumes nothing.
use mathlib.Core.Path.{◌∙◌}
use native.Mathlib.Omega.{arith}
use lib.ListN.{length-set}
use Rattle.scene_format.specs.Scene.{size_of}
use Rattle.scene_format.specs.SceneOf.{scene_of}
use Rattle.iisph_motion.proofs.Accelerations.{pass_axes}
use Rattle.iisph_forces.proofs.InitialAnswers.{width_some, force_finite, force_here}
use Rattle.iisph_forces.proofs.InitialAnswers.{volume_read, initial_kept, initial_not_kept}
use Rattle.iisph_forces.proofs.Offsets.{width_kept, width_not_kept}
use Rattle.iisph_forces.proofs.initial_forces.put_particle.Goals as goal

pub bounds-answers-at : goal.bounds-answers-at
bounds-answers-at c =
    omega (arith, c.requires.fact.2, width_some c.args.over.dim (scene_of c.args.over.scene.now) c.args.j)

pub record_of-record-requires : goal.record_of-record-requires
unfolding size_of
record_of-record-requires c = let p = c.requires in (p.pass_over.0.indexed, p.fact.0)

pub overflow_add-record : goal.overflow_add-record
overflow_add-record c =
    let p = c.requires in
    let over = p.pass_over.0 in
    let finite =
    force_finite over.indexed c.args.j p.fact.0 (p.fact.1 ∙ c.if-keeps.true) over.axes
    c.record_of-record.ensures c.vector_width.ensures.0 in
    omega (arith, (finite.each 0 (omega (arith, (pass_axes over).least))).present)

pub vector-force-requires : goal.vector-force-requires
vector-force-requires c =
    let p = c.requires in
    let over = p.pass_over.0 in (
      pass_axes over,
      force_finite over.indexed c.args.j p.fact.0 (p.fact.1 ∙ c.if-keeps.true) over.axes
          c.record_of-record.ensures c.vector_width.ensures.0,
    )

pub put_vector-requires : goal.put_vector-requires
put_vector-requires c =
    let p = c.requires in
    let wide =
    width_kept c.args.over.dim (scene_of c.args.over.scene.now) c.args.j (p.fact.1 ∙ c.if-keeps.true) in
    (pass_axes p.pass_over.0, simp length-set (omega (arith, wide, p.fact.2)))

pub returns-then-keeps : goal.returns-then-keeps
returns-then-keeps c =
    let a = c.args in
    let p = c.requires in
    let over = p.pass_over.0 in
    let s = scene_of a.over.scene.now in
    let kept = p.fact.1 ∙ c.if-keeps.true in (
      omega (arith, width_kept a.over.dim s a.j kept, c.kept_answer_width-width.ensures.0),
      c.put_vector.ensures
          ∙ initial_kept s a.j a.answers.now a.at
          (volume_read s a.over.dim a.over.n p.pass_over.1.volume a.j p.fact.0 c.volume_at.ensures.0)
          kept
          (c.vector-force.ensures
          ∙ force_here over.indexed a.j p.fact.0 kept over.axes c.record_of-record.ensures c.vector_width.ensures.0),
    )

pub returns : goal.returns
returns c =
    let a = c.args in
    let p = c.requires in
    let s = scene_of a.over.scene.now in
    let none = p.fact.1 ∙ c.if-keeps.false in (
      omega (arith, width_not_kept a.over.dim s a.j none),
      initial_not_kept s a.j a.answers.now a.at
          (volume_read s a.over.dim a.over.n p.pass_over.1.volume a.j p.fact.0 c.volume_at.ensures.0)
          none,
    )
