-- `scene_walk::header` meets its contract: field by field, up to the first refusal. Assumes nothing.
use mathlib.Core.Path.{sym, ◌∙◌}
use native.Mathlib.Omega.{arith}
use Rattle.scene_fields.specs.Fields.{◌▹◌}
use Rattle.scene_fields.proofs.Reached.{halves-steps}
use Rattle.scene_fields.proofs.Walks.{handed_on}
use Rattle.scene_walk.specs.Walk.{header}
use Rattle.scene_walk.proofs.header.Goals as goal

pub returns-in_err-boundaries : goal.returns-in_err-boundaries
unfolding header ◌▹◌
returns-in_err-boundaries c =
    handed_on c.from_residual.ensures.1 ∙ rw (sym c.halves.ensures ∙ c.in_err-boundaries.was)

-- the first byte is there
pub most_rule-requires : goal.most_rule-requires
most_rule-requires c =
    let first = halves-steps _ _ _ _ _ (sym c.halves.ensures ∙ c.in_ok-boundaries.was) in
    omega (arith, first.1.0)

pub returns-in_err-min_pressure_iter : goal.returns-in_err-min_pressure_iter
unfolding header ◌▹◌
returns-in_err-min_pressure_iter c =
    handed_on c.from_residual-in_err-min_pressure_iter.ensures.1
    ∙ rw (
      sym c.halves.ensures ∙ c.in_ok-boundaries.was,
      ← c.most_rule.ensures,
      sym c.halves-2.ensures ∙ c.in_err-min_pressure_iter.was,
    )

pub returns-in_err-max_pressure_iter : goal.returns-in_err-max_pressure_iter
unfolding header ◌▹◌
returns-in_err-max_pressure_iter c =
    handed_on c.from_residual-in_err-max_pressure_iter.ensures.1
    ∙ rw (
      sym c.halves.ensures ∙ c.in_ok-boundaries.was,
      ← c.most_rule.ensures,
      sym c.halves-2.ensures ∙ c.in_ok-min_pressure_iter.was,
      sym c.plain.ensures ∙ c.in_err-max_pressure_iter.was,
    )

pub returns-in_err-numbers : goal.returns-in_err-numbers
unfolding header ◌▹◌
returns-in_err-numbers c =
    handed_on c.from_residual-in_err-numbers.ensures.1
    ∙ rw (
      sym c.halves.ensures ∙ c.in_ok-boundaries.was,
      ← c.most_rule.ensures,
      sym c.halves-2.ensures ∙ c.in_ok-min_pressure_iter.was,
      sym c.plain.ensures ∙ c.in_ok-max_pressure_iter.was,
      sym c.plain-2.ensures ∙ c.in_err-numbers.was,
    )

pub returns : goal.returns
unfolding header ◌▹◌
returns c =
    rw (
      sym c.halves.ensures ∙ c.in_ok-boundaries.was,
      ← c.most_rule.ensures,
      sym c.halves-2.ensures ∙ c.in_ok-min_pressure_iter.was,
      sym c.plain.ensures ∙ c.in_ok-max_pressure_iter.was,
      sym c.plain-2.ensures ∙ c.in_ok-numbers.was,
      ← c.axes.ensures.0,
      ← c.header_doubles.ensures,
    )
    c.doubles.ensures
