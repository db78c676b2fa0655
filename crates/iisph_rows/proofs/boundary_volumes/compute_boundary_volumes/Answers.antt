-- `iisph_rows::boundary_volumes::compute_boundary_volumes` meets its contract: boundary by boundary, each a run of
-- volumes behind those done. Assumes nothing.
use Prim.Native.Nat.{◌*◌}
use mathlib.Core.Path.{◌≡◌, sym, ◌∙◌}
use native.Mathlib.Nat.{mul-le-mul_right}
use native.Mathlib.Omega.{arith}
use lib.ListN.{take}
use Rattle.scene_format.specs.Format.{bit}
use Rattle.scene_format.specs.declared.Kind.TheVariants.{Boundary}
use Rattle.scene_index.specs.Runs.{BoundaryRun}
use Rattle.scene_index.proofs.Runs.{turn_run}
use Rattle.scene_layout.proofs.Turns.{Turn}
use Rattle.iisph_rows.specs.Rows.{volumes_at}
use Rattle.iisph_rows.proofs.Volumes.{none_stored, one_more_stored, all_stored}
use Rattle.iisph_rows.proofs.Volumes.{few_boundaries, length_front, turn_in_front}
use Rattle.iisph_rows.proofs.boundary_volumes.compute_boundary_volumes.Goals as goal
use Rattle.iisph_rows.proofs.boundary_volumes.compute_boundary_volumes.Goals.{After-keeps}

turn : (c : After-keeps) → let l = c.args.layout.boundaries in
    Turn Boundary c.args.over.scene.now (take l.number l.heads) c.loop-head.head-index
turn c = turn_in_front c.requires.indexed.1 _ c.loop-head-test.true

run : (c : After-keeps)
    → BoundaryRun c.args.over.scene.now c.loop-head.first c.particles-count.result (bit c.keeps.result)
run c =
    turn_run c.requires.indexed.1 (turn c) c.loop-head.invariant.start c.particles-count.ensures.0
    (sym c.keeps.ensures)

behind_is : (c : After-keeps) → c.work_width.result * c.args.over.n ≡ volumes_at c.args.over.dim c.args.over.n
behind_is c = rw c.work_width.ensures.0

pub shared_ref_as_front-head-items : goal.shared_ref_as_front-head-items
shared_ref_as_front-head-items c = few_boundaries c.requires.indexed.1

pub loop-head-init : goal.loop-head-init
loop-head-init c = none_stored _ _ _

pub particles-count-requires : goal.particles-count-requires
particles-count-requires c = (turn_in_front c.requires.indexed.1 _ c.loop-head-test.true).within.head_room

pub keeps-requires : goal.keeps-requires
keeps-requires c = (turn_in_front c.requires.indexed.1 _ c.loop-head-test.true).within.head_room

pub overflow_add-behind : goal.overflow_add-behind
overflow_add-behind c =
    let w = c.work_width.ensures.1 in
    omega (
      arith,
      mul-le-mul_right c.args.over.n w,
      c.requires.n_value.0,
      c.requires.indexed.0.few_fluid,
      c.requires.indexed.0.few_boundary,
      (run (goal.at.overflow_add-behind c).After-keeps).within,
    )

pub put_volumes-requires-clause-boundary_run : goal.put_volumes-requires-clause-boundary_run
put_volumes-requires-clause-boundary_run c =
    let here = (goal.at.put_volumes-requires-clause-boundary_run c).After-keeps in
    (run here, omega (arith, behind_is here, c.requires.n_value.1, (run here).within, c.loop-head.invariant.long))

pub overflow_add-first : goal.overflow_add-first
overflow_add-first c =
    omega (arith, (run (goal.at.overflow_add-first c).After-keeps).within, c.requires.indexed.0.few_boundary)

pub loop-head-preserved : goal.loop-head-preserved
loop-head-preserved c =
    let here = turn (goal.at.loop-head-preserved c).After-keeps in
    one_more_stored _ _ _ c.loop-head.invariant here.below (c.particles-count.ensures.0 ∙ here.count)
    c.put_volumes.ensures

pub returns : goal.returns
returns c =
    rw c.work_width.ensures.0 at
    (all_stored _ _ _ c.loop-head.invariant (omega (arith, length_front c.requires.indexed.1, c.loop-head-test.false)))
