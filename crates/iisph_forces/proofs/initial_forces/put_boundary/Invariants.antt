-- `iisph_forces::initial_forces::put_boundary` meets its contract: particle by particle. Assumes nothing.
use Rattle.std.proofs.Common.{◌-◌}
use Rattle.iisph_forces.proofs.InitialAnswers.{BoundaryPut}
use Rattle.iisph_forces.proofs.initial_forces.put_boundary.Given as goal

abbrev pub invariant-loop-j : goal.invariant-loop-j
invariant-loop-j l =
    BoundaryPut l.over.dim l.over.scene.now l.initial.answers l.first l.count (l.j - l.first) l.to l.answers
