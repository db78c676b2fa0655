-- `iisph_preparation::fill_rows` meets its contract: the first pass needs nothing of the list, and stores what the
-- coefficients need. Assumes nothing.
use Rattle.iisph_passes.specs.Traverse.{Ready}
use Rattle.iisph_pressures.proofs.IterationTerms.{axes-are}
use Rattle.iisph_preparation.proofs.RowsFilled.{advected_ready, rows_filled_lem}
use Rattle.iisph_preparation.proofs.fill_rows.Goals as goal

pub traverse-requires-clause-room : goal.traverse-requires-clause-room
unfolding Ready
traverse-requires-clause-room c = (c.requires.room.0, tt)

pub traverse-requires-2-clause-room : goal.traverse-requires-2-clause-room
unfolding Ready
traverse-requires-2-clause-room c =
    let over = c.requires.driven_pass.timed.over in
    let room = c.requires.room in
    let ready = advected_ready _ over.axes (axes-are _ over.axes) over.size _ room.0 room.1 c.traverse.ensures in
    (ready.room, ready)

pub returns : goal.returns
returns c =
    let over = c.requires.driven_pass.timed.over in
    rows_filled_lem _ over.axes (axes-are _ over.axes) over.size _ c.traverse.ensures c.traverse-2.ensures
