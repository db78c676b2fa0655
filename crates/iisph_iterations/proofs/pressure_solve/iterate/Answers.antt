-- `iisph_iterations::pressure_solve::iterate` meets its contract: each pass finds what it needs, which the earlier ones
-- stored, and the error is that of the terms in their column. Assumes nothing.
use Rattle.std.proofs.Common.{arith}
use Rattle.iisph_pressures.proofs.IterationTerms.{axes-are}
use Rattle.iisph_passes.specs.Traverse.{Ready}
use Rattle.iisph_iterations.proofs.Iterated.{quotients_there, dij_there, next_room, iterated_ready}
use Rattle.iisph_iterations.proofs.Iterated.{iterates_made}
use Rattle.iisph_iterations.proofs.pressure_solve.iterate.Goals as goal

pub traverse-requires-clause-room : goal.traverse-requires-clause-room
unfolding Ready
traverse-requires-clause-room c = (c.requires.passed.1.room, tt)

pub traverse-requires-2-clause-room : goal.traverse-requires-2-clause-room
unfolding Ready
traverse-requires-2-clause-room c =
    let over = c.requires.driven_pass.timed.over in
    let there = quotients_there c.args.over.scene.now over.axes over.size _ c.requires.passed.1 c.traverse.ensures in
    (there.room, there)

pub traverse-requires-3-clause-room : goal.traverse-requires-3-clause-room
unfolding Ready
traverse-requires-3-clause-room c =
    let over = c.requires.driven_pass.timed.over in
    let there = dij_there c.args.over.scene.now over.axes over.size _ c.requires.passed.1 c.traverse.ensures
    c.traverse-2.ensures in
    (there.room, there)

pub traverse-requires-4-clause-room : goal.traverse-requires-4-clause-room
unfolding Ready
traverse-requires-4-clause-room c =
    let over = c.requires.driven_pass.timed.over in (
      next_room c.args.over.scene.now over.axes over.size _ c.requires.passed.1 c.traverse.ensures c.traverse-2.ensures
          c.traverse-3.ensures,
      tt,
    )

pub max_error-requires-clause-axes : goal.max_error-requires-clause-axes
max_error-requires-clause-axes c =
    let over = c.requires.driven_pass.timed.over in
    let ready = iterated_ready c.args.over.scene.now over.axes over.size _ c.requires.passed.1 c.traverse.ensures
    c.traverse-2.ensures c.traverse-3.ensures c.traverse-4.ensures in
    (axes-are c.args.over.scene.now over.axes, over.size, omega (arith, ready.room))

pub returns : goal.returns
returns c =
    let over = c.requires.driven_pass.timed.over in
    iterates_made c.args.over.scene.now over.axes over.size _ c.requires.passed.1 c.traverse.ensures
    c.traverse-2.ensures c.traverse-3.ensures c.traverse-4.ensures c.max_error.ensures
