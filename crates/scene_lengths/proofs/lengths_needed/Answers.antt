-- `scene_lengths::lengths_needed` meets its contract: by the verdict of the check. Assumes nothing.
use native.Mathlib.Omega.{arith}
use Rattle.std.proofs.lemmas.Result.{err_from_is_err_and}
use Rattle.scene_check.specs.Check.{Passed}
use Rattle.scene_check.proofs.Checks.{verdict_refused, verdict_accepted}
use Rattle.scene_lengths.proofs.Needed.{refused_needs, accepted_needs}
use Rattle.scene_lengths.proofs.lengths_needed.Goals as goal
use Rattle.scene_lengths.proofs.lengths_needed.Goals.{In_ok-layout}

passed_here : (c : In_ok-layout) → Passed c.args.scene.now c.in_ok-layout.layout
passed_here c = verdict_accepted _ c.check.ensures (λ i. omega (arith, c.type_inv.scene i)) c.in_ok-layout.was

pub returns-in_err-layout : goal.returns-in_err-layout
returns-in_err-layout c =
    let p = err_from_is_err_and c.from_residual.result c.from_residual.ensures.1 in
    rw (p.1, p.2) (refused_needs _ (verdict_refused _ c.check.ensures c.in_err-layout.was))

pub lengths_of-requires : goal.lengths_of-requires
lengths_of-requires c = passed_here (goal.at.lengths_of-requires c).In_ok-layout

pub returns : goal.returns
returns c = accepted_needs (passed_here (goal.at.returns c).In_ok-layout) c.lengths_of.ensures
