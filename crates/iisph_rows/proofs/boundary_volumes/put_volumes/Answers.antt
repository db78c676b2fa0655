-- `iisph_rows::boundary_volumes::put_volumes` meets its contract: particle by particle. Assumes nothing.
use mathlib.Core.Path.{◌∙◌}
use Rattle.lists.proofs.Fills.{none_stored, one_more_stored}
use Rattle.iisph_rows.proofs.Volumes.{run_asked, record_ok, volume_here}
use Rattle.iisph_rows.proofs.boundary_volumes.put_volumes.Goals as goal

pub loop-p-init : goal.loop-p-init
loop-p-init c = none_stored _ _ _ _

pub record_of-at-requires : goal.record_of-at-requires
record_of-at-requires c = let p = c.requires in run_asked p.indexed p.boundary_run.0 c.loop-p-test.true

pub volume-requires : goal.volume-requires
volume-requires c =
    let p = c.requires in
    record_ok p.indexed p.boundary_run.0 c.loop-p-test.true c.record_of-at.ensures

pub loop-p-preserved : goal.loop-p-preserved
loop-p-preserved c =
    let p = c.requires in
    one_more_stored _ _ _ _ c.loop-p.invariant c.loop-p-test.true
    (c.volume.ensures ∙ volume_here p.indexed p.boundary_run.0 c.loop-p-test.true c.record_of-at.ensures)
