-- `iisph_c::iisph_step_lent` meets its contract: by the lengths of the two small lists; then the step's answer is
-- written, or the length that its index must have. Assumes nothing.
use mathlib.Core.Path.{refl, ap, ◌∙◌}
use native.Mathlib.Omega.{arith}
use Rattle.std.specs.declared.result.Result.TheVariants.{Err}
use Rattle.iisph_c.proofs.Calls.{numbers_short_lent, counts_short_lent, reported_to, refused_to, short_to}
use Rattle.iisph_c.proofs.Calls.{index_after}
use Rattle.iisph_c.proofs.iisph_step_lent.Goals as goal

pub returns-then-numbers-lt-NUMBERS : goal.returns-then-numbers-lt-NUMBERS
returns-then-numbers-lt-NUMBERS c =
    record {
      lent_to = numbers_short_lent _ _ _ _ _ _ (omega (arith, c.if-numbers-lt-NUMBERS.true));
      lent_index = λ _. refl;
    }

pub returns-then-counts-lt-COUNTS : goal.returns-then-counts-lt-COUNTS
returns-then-counts-lt-COUNTS c =
    record {
      lent_to =
          counts_short_lent _ _ _ _ _ _ (omega (arith, c.if-numbers-lt-NUMBERS.false))
          (omega (arith, c.if-counts-lt-COUNTS.true));
      lent_index = λ _. refl;
    }

pub write_report-requires : goal.write_report-requires
write_report-requires c =
    (omega (arith, c.if-numbers-lt-NUMBERS.false), omega (arith, c.if-counts-lt-COUNTS.false))

pub write_refusal-requires : goal.write_refusal-requires
write_refusal-requires c = omega (arith, c.if-counts-lt-COUNTS.false)

pub write_index-requires : goal.write_index-requires
write_index-requires c = omega (arith, c.if-counts-lt-COUNTS.false)

pub returns-in-Ok : goal.returns-in-Ok
returns-in-Ok c =
    let told = c.write_report.ensures in
    record {
      lent_to =
          reported_to _ _ _ _ _ _ (omega (arith, c.if-numbers-lt-NUMBERS.false))
          (omega (arith, c.if-counts-lt-COUNTS.false))
          c.step_lent.ensures.steps_lent c.in-Ok.is told.0 told.1 told.2;
      lent_index =
          index_after _ c.args.answers.now c.args.work.now _ _ _
          (omega (arith, c.if-numbers-lt-NUMBERS.false)) (omega (arith, c.if-counts-lt-COUNTS.false))
          c.step_lent.ensures.index_after;
    }

pub returns-in-Err-Refused : goal.returns-in-Err-Refused
returns-in-Err-Refused c =
    let told = c.write_refusal.ensures in
    record {
      lent_to =
          refused_to _ _ _ _ _ _ (omega (arith, c.if-numbers-lt-NUMBERS.false))
          (omega (arith, c.if-counts-lt-COUNTS.false))
          c.step_lent.ensures.steps_lent (c.in-Err-Refused.is ∙ ap Err c.in-Err-Refused.field-0-is) told.0 told.1;
      lent_index =
          index_after _ c.args.answers.now c.args.work.now _ _ _
          (omega (arith, c.if-numbers-lt-NUMBERS.false)) (omega (arith, c.if-counts-lt-COUNTS.false))
          c.step_lent.ensures.index_after;
    }

pub returns-in-Err-ShortIndex : goal.returns-in-Err-ShortIndex
returns-in-Err-ShortIndex c =
    let told = c.write_index.ensures in
    record {
      lent_to =
          short_to _ _ _ _ _ _ (omega (arith, c.if-numbers-lt-NUMBERS.false))
          (omega (arith, c.if-counts-lt-COUNTS.false))
          c.step_lent.ensures.steps_lent (c.in-Err-ShortIndex.is ∙ ap Err c.in-Err-ShortIndex.field-0-is) told.0 told.1;
      lent_index =
          index_after _ c.args.answers.now c.args.work.now _ _ _
          (omega (arith, c.if-numbers-lt-NUMBERS.false)) (omega (arith, c.if-counts-lt-COUNTS.false))
          c.step_lent.ensures.index_after;
    }
