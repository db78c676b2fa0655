-- `iisph_lent::step_lent` meets its contract: by the verdict of the check. Assumes nothing.
use mathlib.Core.Path.{◌≡◌, refl}
use native.Mathlib.Omega.{arith}
use Rattle.std.proofs.Common.{rules, Err}
use Rattle.scene_format.specs.Bytes.{Bytes}
use Rattle.scene_check.proofs.Checks.{verdict_refused, verdict_accepted}
use Rattle.iisph_lent.proofs.LentSteps.{refused_clears, early_lent}
use Rattle.iisph_lent.proofs.Stepped.{refused_steps_lem}
use Rattle.iisph_lent.specs.Lent.{answered}
use Rattle.iisph_lent.specs.declared.LentRefusal.TheVariants.{Refused}
use Rattle.iisph_lent.proofs.step_lent.Goals as goal

pub step_accepted-requires : goal.step_accepted-requires
step_accepted-requires c =
    let bytes : Bytes c.args.scene.now = λ i. omega (arith, c.type_inv.scene i) in
    verdict_accepted _ c.check.ensures bytes c.in_ok-layout.was

pub returns-in_err-layout : goal.returns-in_err-layout
unfolding answered
returns-in_err-layout c =
    let a = c.args in
    let e : c.from_residual.result ≡ Err (Refused c.in_err-layout.field-0.0) = search rules in
    let q = verdict_refused _ c.check.ensures c.in_err-layout.was in
    let scene = a.scene.now in
    let answers = a.answers.now in
    let work = a.work.now in
    record {
      steps_lent =
          rw e (early_lent scene answers work _ (refused_clears scene q) (refused_steps_lem scene answers work q));
      index_after = λ _. refl;
    }
