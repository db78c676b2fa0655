-- `iisph_text::step_short` meets its contract: lists that are too short are 8; else the index is long enough, as it is
-- for every scene of so few bytes. Assumes nothing.
use Prim.Native.Nat.{ℕ, ◌≤◌}
use mathlib.Core.Path.{sym, ◌∙◌}
use native.Mathlib.Omega.{arith}
use lib.ListN.{length, replicate, length-replicate}
use Rattle.iisph_rules.proofs.Reports.{long_lists}
use Rattle.iisph_lent.proofs.Stepped.{short_steps}
use Rattle.iisph_text.specs.Run.{enough_index}
use Rattle.iisph_text.proofs.Texts.{index_enough}
use Rattle.iisph_text.proofs.step_short.Goals as goal

long : enough_index ≤ length (replicate {A = ℕ} enough_index 0)
long = omega (arith, length-replicate {A = ℕ} enough_index 0)

pub returns-then-lists_short : goal.returns-then-lists_short
returns-then-lists_short c =
    short_steps c.args.scene.now c.args.answers.now c.args.work.now c.requires.0.walk
    (sym c.lists_short.ensures ∙ c.if-lists_short.true)

pub step_long-requires : goal.step_long-requires
step_long-requires c =
    let p = c.requires in record {
      passed = (
        p.0,
        long_lists _ _ _
            (sym c.lists_short.ensures ∙ c.if-lists_short.false),
      );
      scene_in_bounds =
          omega (arith, index_enough p.0 p.1, long);
    }
