-- `iisph_iterations::errors::max_error` meets its contract. The invariant: the error so far, with the averages of the
-- fluids that remain, comes to the whole. Assumes nothing.
use Rattle.std.proofs.Common.{◌≡◌, ◌+◌, ◌<◌, ◌≤◌, length, get_or, sym, ◌∙◌, arith}
use Rattle.std.proofs.lemmas.List.{length-take-le}
use Rattle.scene_check.proofs.Accepted.{accepted_header}
use Rattle.scene_check.proofs.Checks.{fluid-number}
use Rattle.scene_format.specs.Format.{counts_of}
use Rattle.scene_format.specs.declared.Kind.TheVariants.{Fluid}
use Rattle.scene_layout.proofs.Locations.{length_counts, scene_counts, scene_criterion, scene_summation}
use Rattle.scene_layout.proofs.Locations.{fluid_size-sum}
use Rattle.iisph_iterations.proofs.Averages.{none_averaged, next_rows, next_averaged, all_averaged}
use Rattle.iisph_iterations.proofs.Heads.{fluids-few, head_turn}
use Rattle.iisph_iterations.proofs.errors.max_error.Goals as goal

pub criterion-criterion-requires : goal.criterion-criterion-requires
criterion-criterion-requires c = omega (arith, accepted_header _ c.requires.passed.walk)

pub summation-summation-requires : goal.summation-summation-requires
summation-summation-requires c = omega (arith, accepted_header _ c.requires.passed.walk)

pub shared_ref_as_front-head-items : goal.shared_ref_as_front-head-items
shared_ref_as_front-head-items c = fluids-few c.requires.passed

pub loop-head-init : goal.loop-head-init
loop-head-init c =
    none_averaged _ _ _ _ _ _ (sym (c.requires.axes.1 ∙ fluid_size-sum c.args.over.scene.now))

pub particles-count-requires : goal.particles-count-requires
particles-count-requires c =
    (head_turn c.requires.passed c.loop-head.head-index c.loop-head-test.true).within.head_room

pub with_fluid-error-requires : goal.with_fluid-error-requires
with_fluid-error-requires c =
    let turn = head_turn c.requires.passed c.loop-head.head-index c.loop-head-test.true in
    let below : c.loop-head.head-index < length (counts_of Fluid c.args.over.scene.now) =
    rw (length_counts Fluid c.args.over.scene.now) turn.below in
    let count : c.particles-count.result ≡ get_or (counts_of Fluid c.args.over.scene.now) c.loop-head.head-index 0 =
    c.particles-count.ensures.0 ∙ turn.count in
    let room : c.loop-head.from + c.particles-count.result ≤ c.args.over.n =
    omega (arith, next_rows _ _ _ _ _ _ c.loop-head.invariant below, count) in
    let p = c.requires.axes in (p.0, room, p.2)

pub loop-head-preserved : goal.loop-head-preserved
loop-head-preserved c =
    let turn = head_turn c.requires.passed c.loop-head.head-index c.loop-head-test.true in
    let below : c.loop-head.head-index < length (counts_of Fluid c.args.over.scene.now) =
    rw (length_counts Fluid c.args.over.scene.now) turn.below in
    next_averaged _ _ _ _ _ _ c.loop-head.invariant below (c.particles-count.ensures.0 ∙ turn.count)
    c.with_fluid-error.ensures

pub returns : goal.returns
returns c =
    let b = c.args.over.scene.now in
    let fluids = c.args.layout.fluids in
    let all = length-take-le fluids.number fluids.heads (omega (arith, fluids-few c.requires.passed)) in
    rw (
      scene_counts b,
      scene_criterion b,
      scene_summation b,
      ← c.criterion-criterion.ensures,
      ← c.summation-summation.ensures,
    )
    (c.unwrap_or.ensures
    ∙ all_averaged _ _ _ _ _ _ c.loop-head.invariant
    (omega (arith, all, length_counts Fluid b, fluid-number b c.requires.passed.layout_is, c.loop-head-test.false)))
