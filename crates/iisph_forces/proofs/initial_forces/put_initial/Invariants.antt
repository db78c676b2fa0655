-- `iisph_forces::initial_forces::put_initial` meets its contract: boundary by boundary, each read at the head that the
-- layout has. Assumes nothing.
use Rattle.iisph_forces.proofs.InitialAnswers.{InitialPut}
use Rattle.iisph_forces.proofs.initial_forces.put_initial.Given as goal

abbrev pub invariant-loop-m : goal.invariant-loop-m
invariant-loop-m l =
    InitialPut l.over.dim l.over.scene.now l.initial.forces l.initial.answers l.first l.to l.m l.forces l.answers
