-- `scene_fields::fields::halves` meets its contract: present or not, then half by half. Assumes nothing.
use mathlib.Core.Path.{sym, ◌∙◌}
use native.Mathlib.Omega.{arith}
use Rattle.scene_fields.specs.Fields.{halves}
use Rattle.scene_fields.proofs.Reached.{plain-steps}
use Rattle.scene_fields.proofs.Walks.{field_there, field_refused, handed_on, same_walk}
use Rattle.scene_fields.proofs.fields.halves.Goals as goal

pub returns-in_err-next : goal.returns-in_err-next
unfolding halves
returns-in_err-next c =
    same_walk c.from_residual.ensures.1 c.in_err-next.was ∙ field_refused _ _ _ _ c.plain.ensures c.in_err-next.was

pub byte-b-requires : goal.byte-b-requires
byte-b-requires c = omega (arith, (plain-steps _ _ _ _ (sym c.plain.ensures ∙ c.in_ok-next.was)).1)

pub returns-in_err-half_byte : goal.returns-in_err-half_byte
unfolding halves
returns-in_err-half_byte c =
    let h = plain-steps _ _ _ _ (sym c.plain.ensures ∙ c.in_ok-next.was) in
    handed_on c.from_residual-in_err-half_byte.ensures.1
    ∙ rw (field_there _ _ _ _ h.1, ← c.byte-b.ensures.0, c.half_byte.ensures, c.in_err-half_byte.was)

pub returns-in_err-half_byte-2 : goal.returns-in_err-half_byte-2
unfolding halves
returns-in_err-half_byte-2 c =
    let h = plain-steps _ _ _ _ (sym c.plain.ensures ∙ c.in_ok-next.was) in
    handed_on c.from_residual-in_err-half_byte-2.ensures.1
    ∙ rw (
      field_there _ _ _ _ h.1,
      ← c.byte-b.ensures.0,
      c.half_byte.ensures,
      c.in_ok-half_byte.was,
      c.half_byte-2.ensures,
      c.in_err-half_byte-2.was,
    )

pub returns : goal.returns
unfolding halves
returns c =
    let h = plain-steps _ _ _ _ (sym c.plain.ensures ∙ c.in_ok-next.was) in
    rw (
      field_there _ _ _ _ h.1,
      ← c.byte-b.ensures.0,
      c.half_byte.ensures,
      c.in_ok-half_byte.was,
      c.half_byte-2.ensures,
      c.in_ok-half_byte-2.was,
      h.0,
    )
