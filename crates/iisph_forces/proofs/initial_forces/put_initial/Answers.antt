-- `iisph_forces::initial_forces::put_initial` meets its contract: boundary by boundary, each read at the head that the
-- layout has. Assumes nothing.
use Rattle.std.proofs.Common.{ℕ, ◌*◌, ap, sym, ◌∙◌, arith}
use Rattle.scene_check.proofs.Checks.{boundary_turn, boundary-number}
use Rattle.scene_index.proofs.Runs.{turn_run}
use Rattle.scene_lengths.specs.Lengths.{fluid_answer_width}
use Rattle.iisph_forces.proofs.InitialAnswers.{no_boundaries, boundary-room, one_more_boundary}
use Rattle.iisph_forces.proofs.InitialAnswers.{all_boundaries}
use Rattle.iisph_forces.proofs.initial_forces.put_initial.Goals as goal

pub loop-m-init : goal.loop-m-init
loop-m-init c =
    let d = c.args.over.dim in
    no_boundaries _ _ _ _
    (ap (λ (w : ℕ). w * c.args.over.n) c.fluid_answer_width.ensures.0
    ∙ ap (λ (n : ℕ). fluid_answer_width d * n) c.requires.pass_over.0.size)

pub bounds-heads-m : goal.bounds-heads-m
bounds-heads-m c = (boundary_turn c.requires.passed.0 _ c.loop-m-test.true).small

pub particles-count-requires : goal.particles-count-requires
particles-count-requires c = (boundary_turn c.requires.passed.0 _ c.loop-m-test.true).within.head_room

pub keeps-kept-requires : goal.keeps-kept-requires
keeps-kept-requires c = (boundary_turn c.requires.passed.0 _ c.loop-m-test.true).within.head_room

pub overflow_add-to : goal.overflow_add-to
overflow_add-to c =
    let p = c.requires in
    let run =
    turn_run p.passed.0 (boundary_turn p.passed.0 _ c.loop-m-test.true) c.loop-m.invariant.start
    c.particles-count.ensures.0 (sym c.keeps-kept.ensures) in
    omega (arith, boundary-room _ _ _ _ c.loop-m.invariant p.pass_over.0.axes run, p.passed.2)

pub put_boundary-to-requires-clause-fact : goal.put_boundary-to-requires-clause-fact
put_boundary-to-requires-clause-fact c =
    let p = c.requires in
    let inv = c.loop-m.invariant in (
      turn_run p.passed.0 (boundary_turn p.passed.0 _ c.loop-m-test.true) inv.start c.particles-count.ensures.0
          (sym c.keeps-kept.ensures),
      inv.next,
      omega (arith, inv.long, p.passed.2),
    )

pub overflow_add-first : goal.overflow_add-first
overflow_add-first c =
    let p = c.requires in
    let run =
    turn_run p.passed.0 (boundary_turn p.passed.0 _ c.loop-m-test.true) c.loop-m.invariant.start
    c.particles-count.ensures.0 (sym c.keeps-kept.ensures) in
    omega (arith, run.within, p.pass_over.0.indexed.few_boundary)

pub loop-m-preserved : goal.loop-m-preserved
loop-m-preserved c =
    let p = c.requires in
    let turn = boundary_turn p.passed.0 _ c.loop-m-test.true in
    let run =
    turn_run p.passed.0 turn c.loop-m.invariant.start c.particles-count.ensures.0 (sym c.keeps-kept.ensures) in
    one_more_boundary _ _ _ _ c.loop-m.invariant turn.below turn p.pass_over.0.axes p.passed.0.walk _ run
    c.particles-count.ensures.0
    (sym c.keeps-kept.ensures)
    c.then_some.ensures
    c.put_boundary-to.ensures.0
    c.put_boundary-to.ensures.1

pub returns : goal.returns
returns c =
    let p = c.requires in
    rw p.pass_over.0.size
    (all_boundaries _ _ _ _ c.loop-m.invariant
    (rw (← boundary-number _ p.passed.0.layout_is) c.loop-m-test.false))
