-- `scene_check::walk_names::models_names` meets its contract: what remains from here is the whole, model by model, with
-- the models that are left within the bytes. Assumes nothing.
use mathlib.Core.Path.{sym, ◌∙◌}
use Rattle.std.proofs.lemmas.Result.{err_from_is_err_and}
use Rattle.scene_check.specs.Walk.{models_names_of}
use Rattle.scene_fields.proofs.Walks.{none_done, one_more_done, turn_refused, all_done, none_stepped}
use Rattle.scene_fields.proofs.Walks.{one_more_stepped, holds_here}
use Rattle.scene_check.proofs.Accepted.{model_names-steps}
use Rattle.scene_check.proofs.walk_names.models_names.Goals as goal

pub loop-init : goal.loop-init
loop-init c =
    let p = c.requires in
    (p.n_value.0, none_done, rw (p.n_value.0, p.n_value.1) (none_stepped p.models_within.models))

pub model_names-requires : goal.model_names-requires
model_names-requires c =
    record { counts_are = c.requires.counts_are; model_within = holds_here c.loop.invariant.2 c.loop-test.true }

pub returns-in_err-at : goal.returns-in_err-at
unfolding models_names_of
returns-in_err-at c =
    let p = err_from_is_err_and c.from_residual.result c.from_residual.ensures.1 in
    rw (p.1, p.2, ← c.loop.invariant.0)
    (sym c.in_err-at.was ∙ turn_refused c.loop.invariant.1 c.loop-test.true c.model_names.ensures c.in_err-at.was)

pub loop-preserved : goal.loop-preserved
loop-preserved c =
    let inv = c.loop.invariant in
    let h = c.loop-test.true in
    let e = c.model_names.ensures in
    let q = c.in_ok-at.was in
    (inv.0, one_more_done inv.1 h e q, one_more_stepped inv.2 h (model_names-steps _ _ _ _ (sym e ∙ q)).0)

pub returns : goal.returns
unfolding models_names_of
returns c = rw (← c.loop.invariant.0) (all_done c.loop.invariant.1 c.loop-test.false)
