-- `scene_check::check` meets its contract: the fields decide, and then the names, by the counts of the layout. Accepted
-- fields end with the bytes. Assumes nothing.
use mathlib.Core.Path.{sym, ◌∙◌}
use Rattle.std.proofs.lemmas.Result.{err_from_is_err_and}
use Rattle.scene_check.proofs.Checks.{fields_passed, fields_refused, names_decide, checks_refused, checks_accepted}
use Rattle.scene_check.proofs.check.Goals as goal

pub returns-in_err-fields : goal.returns-in_err-fields
returns-in_err-fields c =
    let p = err_from_is_err_and c.from_residual.result c.from_residual.ensures.1 in
    rw (p.1, p.2) (checks_refused _ (fields_refused _ (sym c.fields.ensures ∙ c.in_err-fields.was)))

pub layout_of-layout-requires : goal.layout_of-layout-requires
layout_of-layout-requires c = fields_passed _ c.fields.ensures c.in_ok-fields.was

pub all_names-requires : goal.all_names-requires
all_names-requires c = (fields_passed _ c.fields.ensures c.in_ok-fields.was, c.layout_of-layout.ensures)

pub returns-in_err-all_names : goal.returns-in_err-all_names
returns-in_err-all_names c =
    let p = err_from_is_err_and c.from_residual-in_err-all_names.result c.from_residual-in_err-all_names.ensures.1 in
    let passed = fields_passed _ c.fields.ensures c.in_ok-fields.was in
    rw (p.1, p.2)
    (checks_refused _ (names_decide _ passed ∙ sym c.all_names.ensures ∙ c.in_err-all_names.was))

pub returns : goal.returns
returns c =
    let passed = fields_passed _ c.fields.ensures c.in_ok-fields.was in
    checks_accepted _ (names_decide _ passed ∙ sym c.all_names.ensures ∙ c.in_ok-all_names.was)
    c.layout_of-layout.ensures
