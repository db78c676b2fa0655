-- `iisph_iterations::pressure_solve::pressure_solve` meets its contract. The invariant: what remains from this
-- iteration on is the whole. Assumes nothing.
use Rattle.std.proofs.Common.{◌≡◌, sym, refl, ap, ◌∙◌, arith}
use lib.Ieee
use Rattle.scene_format.specs.SceneOf.{scene_of}
use Rattle.iisph_iterations.proofs.Solving.{none_solved, next_solved, solved_early, solved, is_last_lem}
use Rattle.iisph_iterations.proofs.Solving.{not_least, not_small}
use Rattle.iisph_iterations.proofs.pressure_solve.pressure_solve.Goals as goal

pub loop-i-init : goal.loop-i-init
loop-i-init c =
    let p = c.requires in
    let over = p.driven_pass.0.timed.over in
    none_solved c.args.over.scene.now over.axes over.size _ p.work_value p.passed.1 _

pub iterate-error-requires-clause-passed : goal.iterate-error-requires-clause-passed
iterate-error-requires-clause-passed c = (c.requires.passed.0, c.loop-i.invariant.ready)

pub returns-then-i-least : goal.returns-then-i-least
returns-then-i-least c =
    let stopping = c.requires.driven_pass.1 in
    let over = c.requires.driven_pass.0.timed.over in
    let small = sym (ap (λ x. Ieee.le c.iterate-error.result.value x) stopping.limit) ∙ c.if-error-limit.true in
    solved_early c.args.over.scene.now over.axes over.size _ c.loop-i.invariant
    (omega (arith, c.loop-i-test.true, stopping.most)) c.iterate-error.ensures
    (is_last_lem (scene_of c.args.over.scene.now) c.loop-i.i c.iterate-error.result.value small
    (omega (arith, stopping.least, c.if-i-least.true)))
    refl
    refl

pub loop-i-preserved : goal.loop-i-preserved
loop-i-preserved c =
    let stopping = c.requires.driven_pass.1 in
    let over = c.requires.driven_pass.0.timed.over in
    next_solved c.args.over.scene.now over.axes over.size _ c.loop-i.invariant
    (omega (arith, c.loop-i-test.true, stopping.most)) c.iterate-error.ensures
    (elim c.else-error-limit.branch [
      | goal.else-error-limit-via-then-error-limit+else-i-least w ↦
          not_least (scene_of c.args.over.scene.now) c.loop-i.i c.iterate-error.result.value
          (omega (arith, stopping.least, w.if-i-least.false))
      | goal.else-error-limit-via-else-error-limit w ↦
          not_small (scene_of c.args.over.scene.now) c.loop-i.i c.iterate-error.result.value
          (sym (ap (λ x. Ieee.le c.iterate-error.result.value x) stopping.limit) ∙ w.if-error-limit.false)
    ])

pub returns : goal.returns
returns c =
    let p = c.requires in
    let over = p.driven_pass.0.timed.over in
    let stopping = p.driven_pass.1 in
    let done : c.loop-i.i ≡ c.args.stopping.max_pressure_iter =
    omega (arith, c.loop-i-test.false, stopping.most, c.loop-i.invariant.within) in
    solved c.args.over.scene.now over.axes over.size _ c.loop-i.invariant
    (omega (arith, c.loop-i-test.false, stopping.most)) (sym done)
    (rw done c.ending_after.ensures)
