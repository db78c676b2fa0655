-- `iisph_lent::step_long` meets its contract: the passes prepare the work list and may refuse, and what follows
-- finishes the step. Assumes nothing.
use mathlib.Core.Path.{◌≡◌, sym, ap, ◌∙◌}
use native.Mathlib.Omega.{arith}
use Rattle.std.proofs.Common.{rules, Err}
use Rattle.iisph_preparation.specs.Prepare.{work_prepared}
use Rattle.iisph_rules.specs.Step.{Readiness}
use Rattle.iisph_preparation.proofs.Prepared.{prepared_ready, prepared_long}
use Rattle.scene_check.proofs.Checks.{fluid-total}
use Rattle.iisph_lent.proofs.Stepped.{zero-steps, done_steps}
use Rattle.iisph_lent.proofs.step_long.Goals as goal

pub step_header-header-requires : goal.step_header-header-requires
step_header-header-requires c = c.requires.passed.0.walk

pub prepare-requires : goal.prepare-requires
prepare-requires c =
    let p = c.requires in
    record {
      passed = (p.passed.0, c.step_header-header.ensures);
      scene_in_bounds =
          (p.scene_in_bounds, p.passed.1.enough_work);
    }

pub finish-requires : goal.finish-requires
finish-requires c =
    let passed = c.requires.passed.0 in
    let size = fluid-total passed in
    let is = c.axes.ensures.0 in
    let ready = c.in_ok-prepare.was in
    let list = c.prepare.ensures.list in
    let long = prepared_long c.args.scene.now c.args.work.now ready list in
    record {
      pass_over = (
        record { indexed = c.prepare.ensures.indexed; axes = is; size = size },
        c.step_header-header.ensures,
      );
      passed = (
        passed,
        record {
          enough_answers = c.requires.passed.1.enough_answers;
          enough_work = omega (arith, long, c.requires.passed.1.enough_work);
        },
      );
      iteration_ready = prepared_ready c.args.scene.now is size c.args.work.now c.requires.passed.1.enough_work ready
          list;
    }

pub returns-in_err-prepare : goal.returns-in_err-prepare
returns-in_err-prepare c =
    let b = c.args.scene.now in
    let w = c.args.work.now in
    let e : c.from_residual.result ≡ Err c.in_err-prepare.field-0.0 = search rules in
    rw e (zero-steps b c.args.answers.now w c.requires.passed.0.walk c.requires.passed.1
    (sym c.in_err-prepare.was ∙ c.prepare.ensures.answer)
    (c.prepare.ensures.list ∙ ap (λ (x : Readiness). work_prepared b x w) c.in_err-prepare.was))

pub returns : goal.returns
returns c =
    let b = c.args.scene.now in
    let w = c.args.work.now in
    done_steps b c.args.answers.now w c.requires.passed.0.walk c.requires.passed.1
    (sym c.in_ok-prepare.was ∙ c.prepare.ensures.answer)
    (c.prepare.ensures.list ∙ ap (λ (x : Readiness). work_prepared b x w) c.in_ok-prepare.was)
    c.finish.ensures
