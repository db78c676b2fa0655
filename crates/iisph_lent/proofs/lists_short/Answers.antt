-- `iisph_lent::lists_short` meets its contract: each list is held to its needed length. Assumes nothing.
use mathlib.Core.Path.{ap}
use native.Mathlib.Omega.{arith}
use borrow.Author.Tests.{lt-ltb, le-ltb}
use Rattle.scene_format.specs.SceneOf.{scene_of}
use Rattle.scene_lengths.specs.Lengths.{answers_needed}
use Rattle.iisph_lent.proofs.lists_short.Goals as goal

pub lengths_of-needed-requires : goal.lengths_of-needed-requires
lengths_of-needed-requires c = c.requires

pub returns-then-answers-needed : goal.returns-then-answers-needed
returns-then-answers-needed c =
    let a = c.args in
    let least = answers_needed (scene_of a.scene.now) in
    let e = ap (λ n. n.answers) c.lengths_of-needed.ensures in
    rw (e, lt-ltb a.answers least (omega (arith, c.if-answers-needed.true, e)))

pub returns-else-answers-needed : goal.returns-else-answers-needed
returns-else-answers-needed c =
    let a = c.args in
    let n = c.lengths_of-needed.ensures in
    let least = answers_needed (scene_of a.scene.now) in
    rw (
      ap (λ n. n.work) n,
      le-ltb a.answers least (omega (arith, c.if-answers-needed.false, ap (λ n. n.answers) n)),
    )
