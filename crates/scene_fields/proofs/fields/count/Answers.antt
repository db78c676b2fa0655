-- `scene_fields::fields::count` meets its contract: present or not, then over 4,096 or not. Assumes nothing.
use mathlib.Core.Path.{sym, ◌∙◌}
use borrow.Author.Tests.{lt-ltb, le-ltb}
use Rattle.lists.specs.Lists.{choose}
use Rattle.scene_fields.specs.Fields.{refused_if, count}
use Rattle.scene_fields.proofs.Reached.{plain-steps}
use Rattle.scene_fields.proofs.Walks.{field_there, field_refused, same_walk}
use Rattle.scene_fields.proofs.fields.count.Goals as goal

pub returns-in_err-next : goal.returns-in_err-next
unfolding count
returns-in_err-next c =
    same_walk c.from_residual.ensures.1 c.in_err-next.was ∙ field_refused _ _ _ _ c.plain.ensures c.in_err-next.was

pub particles-requires : goal.particles-requires
particles-requires c = (plain-steps _ _ _ _ (sym c.plain.ensures ∙ c.in_ok-next.was)).1

pub returns-then-particles-gt-MAX_PARTICLES : goal.returns-then-particles-gt-MAX_PARTICLES
unfolding count refused_if choose
returns-then-particles-gt-MAX_PARTICLES c =
    let h = plain-steps _ _ _ _ (sym c.plain.ensures ∙ c.in_ok-next.was) in
    rw (field_there _ _ _ _ h.1, ← c.particles.ensures.0, lt-ltb _ _ c.if-particles-gt-MAX_PARTICLES.true)

pub returns : goal.returns
unfolding count refused_if choose
returns c =
    let h = plain-steps _ _ _ _ (sym c.plain.ensures ∙ c.in_ok-next.was) in
    rw (field_there _ _ _ _ h.1, ← c.particles.ensures.0, le-ltb _ _ c.if-particles-gt-MAX_PARTICLES.false, h.0)
