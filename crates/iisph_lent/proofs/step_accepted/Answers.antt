-- `iisph_lent::step_accepted` meets its contract: lists that are too short are 8, an index that is too short is
-- said before the passes begin, and else the step is taken. Assumes nothing.
use Prim.Native.Nat.{◌≤◌}
use mathlib.Core.Path.{◌≡◌, refl, sym, ◌∙◌}
use Rattle.std.proofs.Common.{rules, Err}
use native.Mathlib.Omega.{arith}
use lib.ListN.{length}
use Rattle.iisph_rules.proofs.Reports.{long_lists}
use Rattle.iisph_rules.specs.Answer.{clears_work, LongEnough}
use Rattle.scene_index.specs.Index.{index_needed}
use Rattle.iisph_lent.specs.Lent.{answered}
use Rattle.iisph_lent.specs.declared.LentRefusal.TheVariants.{Refused}
use Rattle.iisph_lent.proofs.LentSteps.{scratch, steps_lent, early_lent, short_lent}
use Rattle.iisph_lent.proofs.Stepped.{short_steps}
use Rattle.iisph_lent.proofs.step_accepted.Goals as goal

pub returns-then-lists_short : goal.returns-then-lists_short
unfolding clears_work answered
returns-then-lists_short c =
    let scene = c.args.scene.now in
    let answers = c.args.answers.now in
    let work = c.args.work.now in
    record {
      steps_lent =
          early_lent scene answers work _ refl
          (short_steps scene answers work c.requires.walk (sym c.lists_short.ensures ∙ c.if-lists_short.true));
      index_after = λ _. refl;
    }

pub returns-then-index-needed : goal.returns-then-index-needed
returns-then-index-needed c =
    let long : let a = c.args in LongEnough a.scene.now (length a.answers.now) (length a.work.now) =
    long_lists _ _ _ (sym c.lists_short.ensures ∙ c.if-lists_short.false) in
    let e = c.index_needed-needed.ensures in
    record {
      steps_lent =
          rw e
          (short_lent c.args.scene.now c.args.answers.now c.args.work.now _ c.requires.walk
          long (omega (arith, c.if-index-needed.true, e)));
      index_after = λ _. refl;
    }

pub step_long-requires : goal.step_long-requires
step_long-requires c =
    let long : let a = c.args in LongEnough a.scene.now (length a.answers.now) (length a.work.now) =
    long_lists _ _ _ (sym c.lists_short.ensures ∙ c.if-lists_short.false) in
    let room : let a = c.args in index_needed a.scene.now ≤ length a.index.now =
    omega (arith, c.if-index-needed.false, c.index_needed-needed.ensures) in
    record { passed = (c.requires, long); scene_in_bounds = room }

pub returns-in_err-step_long : goal.returns-in_err-step_long
unfolding answered
returns-in_err-step_long c =
    let long : let a = c.args in LongEnough a.scene.now (length a.answers.now) (length a.work.now) =
    long_lists _ _ _ (sym c.lists_short.ensures ∙ c.if-lists_short.false) in
    let room : let a = c.args in index_needed a.scene.now ≤ length a.index.now =
    omega (arith, c.if-index-needed.false, c.index_needed-needed.ensures) in
    let scene = c.args.scene.now in
    let answers = c.args.answers.now in
    let work = c.args.work.now in
    let e : c.from_residual.result ≡ Err (Refused c.in_err-step_long.field-0.0) = search rules in
    record {
      steps_lent = rw e (steps_lent scene answers work _ room (rw c.in_err-step_long.was at c.step_long.ensures));
      index_after = scratch answers work c.requires.walk long room;
    }

pub returns : goal.returns
unfolding answered
returns c =
    let long : let a = c.args in LongEnough a.scene.now (length a.answers.now) (length a.work.now) =
    long_lists _ _ _ (sym c.lists_short.ensures ∙ c.if-lists_short.false) in
    let room : let a = c.args in index_needed a.scene.now ≤ length a.index.now =
    omega (arith, c.if-index-needed.false, c.index_needed-needed.ensures) in
    let scene = c.args.scene.now in
    let answers = c.args.answers.now in
    let work = c.args.work.now in
    record {
      steps_lent = steps_lent scene answers work _ room (rw c.in_ok-step_long.was at c.step_long.ensures);
      index_after = scratch answers work c.requires.walk long room;
    }
