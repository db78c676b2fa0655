-- `scene_fields::fields::double` meets its contract: present or not, then finite or not. Assumes nothing.
use mathlib.Core.Path.{sym, ◌∙◌}
use Rattle.lists.specs.Lists.{choose}
use Rattle.scene_fields.specs.Fields.{refused_if, double}
use Rattle.scene_fields.proofs.Reached.{plain-steps}
use Rattle.scene_fields.proofs.Walks.{field_there, field_refused, same_walk}
use Rattle.scene_fields.proofs.fields.double.Goals as goal

pub returns-in_err-next : goal.returns-in_err-next
unfolding double
returns-in_err-next c =
    same_walk c.from_residual.ensures.1 c.in_err-next.was ∙ field_refused _ _ _ _ c.plain.ensures c.in_err-next.was

pub non_finite-requires : goal.non_finite-requires
non_finite-requires c = (plain-steps _ _ _ _ (sym c.plain.ensures ∙ c.in_ok-next.was)).1

pub returns-then-non_finite : goal.returns-then-non_finite
unfolding double refused_if choose
returns-then-non_finite c =
    let h = plain-steps _ _ _ _ (sym c.plain.ensures ∙ c.in_ok-next.was) in
    rw (field_there _ _ _ _ h.1, ← c.non_finite.ensures, c.if-non_finite.true)

pub returns : goal.returns
unfolding double refused_if choose
returns c =
    let h = plain-steps _ _ _ _ (sym c.plain.ensures ∙ c.in_ok-next.was) in
    rw (field_there _ _ _ _ h.1, ← c.non_finite.ensures, c.if-non_finite.false, h.0)
