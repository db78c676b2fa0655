-- `iisph_rows::boundary_volumes::compute_boundary_volumes` meets its contract: boundary by boundary, each a run of
-- volumes behind those done. Assumes nothing.
use Rattle.iisph_rows.proofs.Volumes.{Stored}
use Rattle.iisph_rows.proofs.boundary_volumes.compute_boundary_volumes.Given as goal

abbrev pub invariant-loop-head : goal.invariant-loop-head
invariant-loop-head l = Stored l.over.scene.now l.initial.work l.behind l.first l.head-index l.work
