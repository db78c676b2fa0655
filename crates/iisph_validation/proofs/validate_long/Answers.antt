-- `iisph_validation::validate_long` meets its contract: the rows are prepared, and the list is cleared, by the
-- preparation where it refuses. Assumes nothing.
use mathlib.Core.Path.{◌≡◌, sym, ap, ◌∙◌}
use Rattle.std.proofs.Common.{rules, Err}
use Rattle.iisph_preparation.specs.Prepare.{work_prepared}
use Rattle.iisph_rules.specs.Step.{Readiness}
use Rattle.iisph_validation.proofs.Validated.{zero_validates, ready_validates}
use Rattle.iisph_validation.proofs.validate_long.Goals as goal

pub returns : goal.returns
returns c =
    let b = c.args.scene.now in
    let w = c.args.work.now in
    ready_validates b w c.requires.passed.0.walk c.requires.passed.1
    (sym c.in_ok-prepare.was ∙ c.prepare.ensures.answer)
    (c.prepare.ensures.list ∙ ap (λ (x : Readiness). work_prepared b x w) c.in_ok-prepare.was)
    (ap (λ n. n.work) c.lengths_of-needed.ensures)
    c.clear.ensures

pub returns-in_err-prepare : goal.returns-in_err-prepare
returns-in_err-prepare c =
    let b = c.args.scene.now in
    let w = c.args.work.now in
    let e : c.from_residual.result ≡ Err c.in_err-prepare.field-0.0 = search rules in
    rw e (zero_validates b w c.requires.passed.0.walk c.requires.passed.1
    (sym c.in_err-prepare.was ∙ c.prepare.ensures.answer)
    (c.prepare.ensures.list ∙ ap (λ (x : Readiness). work_prepared b x w) c.in_err-prepare.was))
