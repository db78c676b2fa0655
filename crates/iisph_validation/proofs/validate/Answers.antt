-- `iisph_validation::validate` meets its contract: by the verdict of the check. Assumes nothing.
use mathlib.Core.Path.{◌≡◌}
use Rattle.std.proofs.Common.{rules, Err}
use native.Mathlib.Omega.{arith}
use Rattle.scene_format.specs.Bytes.{Bytes}
use Rattle.scene_check.proofs.Checks.{verdict_refused, verdict_accepted}
use Rattle.iisph_validation.proofs.Validated.{refused_validates}
use Rattle.iisph_validation.proofs.validate.Goals as goal

pub validate_sized-requires : goal.validate_sized-requires
validate_sized-requires c =
    let bytes : Bytes c.args.scene.now = λ i. omega (arith, c.type_inv.scene i) in
    verdict_accepted _ c.check.ensures bytes c.in_ok-layout.was

pub returns-in_err-layout : goal.returns-in_err-layout
returns-in_err-layout c =
    let e : c.from_residual.result ≡ Err c.in_err-layout.field-0.0 = search rules in
    rw e (refused_validates c.args.scene.now c.args.work.now (verdict_refused _ c.check.ensures c.in_err-layout.was))
