-- `scene_check::walk_names::model_names` meets its contract: what remains from here is the whole, record by record,
-- with the records that are left within the bytes. Assumes nothing.
use mathlib.Core.Path.{sym, ◌∙◌}
use Rattle.std.proofs.lemmas.Result.{err_from_is_err_and}
use Rattle.scene_check.specs.Walk.{model_names_of}
use Rattle.scene_fields.proofs.Walks.{none_done, one_more_done, turn_refused, all_done, none_stepped}
use Rattle.scene_fields.proofs.Walks.{one_more_stepped, holds_here}
use Rattle.scene_check.proofs.Accepted.{record_names-steps}
use Rattle.scene_check.proofs.walk_names.model_names.Goals as goal

pub loop-init : goal.loop-init
loop-init c = (
  none_done,
  none_stepped
      (rw (c.particles-end.ensures.0, c.first_record-at.ensures) c.requires.model_within.records),
)

pub record_names-requires : goal.record_names-requires
record_names-requires c =
    record { counts_are = c.requires.counts_are; record_within = holds_here c.loop.invariant.1 c.loop-test.true }

pub returns-in_err-at : goal.returns-in_err-at
unfolding model_names_of
returns-in_err-at c =
    let p = err_from_is_err_and c.from_residual.result c.from_residual.ensures.1 in
    rw (p.1, p.2)
    (sym c.in_err-at.was
    ∙ turn_refused c.loop.invariant.0 c.loop-test.true c.record_names.ensures c.in_err-at.was
    ∙ rw (c.particles-end.ensures.0, c.first_record-at.ensures))

pub loop-preserved : goal.loop-preserved
loop-preserved c =
    let inv = c.loop.invariant in
    let h = c.loop-test.true in
    let e = c.record_names.ensures in
    let q = c.in_ok-at.was in
    (one_more_done inv.0 h e q, one_more_stepped inv.1 h (record_names-steps _ _ _ _ _ (sym e ∙ q)).0)

pub returns : goal.returns
unfolding model_names_of
returns c =
    all_done c.loop.invariant.0 c.loop-test.false
    ∙ rw (c.particles-end.ensures.0, c.first_record-at.ensures)
