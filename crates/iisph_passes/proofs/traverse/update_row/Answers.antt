-- `iisph_passes::traverse::update_row` meets its contract, pass by pass: what a pass asks of the list it has, and what
-- it stores are the slots of the particle. Assumes nothing.
use mathlib.Core.Path.{◌≡◌, ap, ◌∙◌}
use native.Mathlib.Omega.{arith}
use lib.ListN.{length, length-set}
use Rattle.math.proofs.Vectors.{coordinates_sized}
use Rattle.scene_format.specs.SceneOf.{scene_of}
use Rattle.iisph_passes.proofs.Turns.{row_asked, quotient_asked}
use Rattle.iisph_passes.proofs.Turns.{advection_stored, coefficients-stored, quotient-stored}
use Rattle.iisph_passes.proofs.Turns.{dij-stored, next_stored, exchange_stored, share_stored}
use Rattle.iisph_passes.proofs.Passes.{coefficients_ready, dij_ready, next_ready}
use Rattle.iisph_passes.proofs.traverse.update_row.Goals as goal

-- ---- what the passes ask

pub put_in_row-requires-clause-axes : goal.put_in_row-requires-clause-axes
put_in_row-requires-clause-axes c = row_asked c.requires.driven_pass c.requires.room.0

pub coefficients_of-c-requires-clause-coefficients_ready : goal.coefficients_of-c-requires-clause-coefficients_ready
coefficients_of-c-requires-clause-coefficients_ready c =
    coefficients_ready _ _ _ _ c.requires.room.1 c.in-Coefficients.is

pub put_coefficients-requires : goal.put_coefficients-requires
put_coefficients-requires c = row_asked c.requires.driven_pass c.requires.room.0

pub put_column-requires : goal.put_column-requires
put_column-requires c =
    quotient_asked (row_asked c.requires.driven_pass c.requires.room.0) c.quotient_column.ensures

pub dij_pjl_of-d-requires-clause-dij_ready : goal.dij_pjl_of-d-requires-clause-dij_ready
dij_pjl_of-d-requires-clause-dij_ready c = dij_ready _ _ _ _ c.requires.room.1 c.in-DijPjl.is

pub put_vector-requires : goal.put_vector-requires
put_vector-requires c =
    ((row_asked c.requires.driven_pass c.requires.room.0).0, omega (arith, c.row_at-row.ensures.1))

pub next_pressure_of-next-requires-clause-iterating : goal.next_pressure_of-next-requires-clause-iterating
next_pressure_of-next-requires-clause-iterating c = next_ready _ _ _ _ c.requires.room.1 c.in-NextPressures.is

pub put_column-requires-in-NextPressures : goal.put_column-requires-in-NextPressures
put_column-requires-in-NextPressures c =
    quotient_asked (row_asked c.requires.driven_pass c.requires.room.0) c.quotient_column-in-NextPressures.ensures

pub put_column-requires-in-NextPressures-2 : goal.put_column-requires-in-NextPressures-2
put_column-requires-in-NextPressures-2 c =
    let asked = row_asked c.requires.driven_pass c.requires.room.0 in
    let kept : length c.put_column-in-NextPressures.new.work ≡ length c.args.work.now =
    ap length c.put_column-in-NextPressures.ensures ∙ simp length-set in
    (omega (arith, c.next_pressure_column.ensures, asked.0), asked.1, omega (arith, asked.2, kept))

pub exchange-requires : goal.exchange-requires
exchange-requires c = row_asked c.requires.driven_pass c.requires.room.0

pub put_column-requires-in-Shares : goal.put_column-requires-in-Shares
put_column-requires-in-Shares c =
    quotient_asked (row_asked c.requires.driven_pass c.requires.room.0) c.quotient_column-in-Shares.ensures

-- ---- what they store

pub returns-in-Advection : goal.returns-in-Advection
returns-in-Advection c =
    let a = c.args in
    let o = a.over in
    let axes = (row_asked c.requires.driven_pass c.requires.room.0).0 in
    advection_stored (scene_of o.scene.now) o.dim o.n a.i a.work.now
    c.in-Advection.is
    c.mass_of-m.ensures
    c.advected_of-v.ensures (coordinates_sized o.dim _ axes.most)
    c.put_in_row.ensures

pub returns-in-Coefficients : goal.returns-in-Coefficients
returns-in-Coefficients c =
    let a = c.args in
    let o = a.over in
    coefficients-stored (scene_of o.scene.now) o.dim o.n a.i a.work.now
    c.in-Coefficients.is
    c.coefficients_of-c.ensures
    c.first_pressure-pressure.ensures c.put_coefficients.ensures

pub returns-in-Quotients : goal.returns-in-Quotients
returns-in-Quotients c =
    let a = c.args in
    let o = a.over in
    quotient-stored (scene_of o.scene.now) o.dim o.n a.i a.work.now
    c.requires.driven_pass.0.timed.over.size c.in-Quotients.is
    c.quotient_of-q.ensures
    c.quotient_column.ensures c.put_column.ensures

pub returns-in-DijPjl : goal.returns-in-DijPjl
returns-in-DijPjl c =
    let a = c.args in
    let o = a.over in
    let axes = (row_asked c.requires.driven_pass c.requires.room.0).0 in
    dij-stored (scene_of o.scene.now) o.dim o.n a.i a.work.now
    c.requires.driven_pass.0.timed.over.size
    c.in-DijPjl.is
    c.dij_pjl_of-d.ensures
    (coordinates_sized o.dim _ axes.most) c.row_at-row.ensures.0
    c.put_vector.ensures

pub returns-in-NextPressures : goal.returns-in-NextPressures
returns-in-NextPressures c =
    let a = c.args in
    let o = a.over in
    next_stored (scene_of o.scene.now) o.dim o.n a.i a.work.now
    c.requires.driven_pass.0.timed.over.size c.in-NextPressures.is
    c.next_pressure_of-next.ensures
    c.quotient_column-in-NextPressures.ensures c.next_pressure_column.ensures c.put_column-in-NextPressures.ensures
    c.put_column-in-NextPressures-2.ensures

pub returns-in-Exchange : goal.returns-in-Exchange
returns-in-Exchange c =
    let a = c.args in
    let o = a.over in
    exchange_stored (scene_of o.scene.now) o.dim o.n a.i a.work.now
    c.requires.driven_pass.0.timed.over.size c.in-Exchange.is
    c.exchange.ensures

pub returns-in-Shares : goal.returns-in-Shares
returns-in-Shares c =
    let a = c.args in
    let o = a.over in
    share_stored (scene_of o.scene.now) o.dim o.n a.i a.work.now
    c.requires.driven_pass.0.timed.over.size c.in-Shares.is
    c.share_of-share.ensures
    c.quotient_column-in-Shares.ensures c.put_column-in-Shares.ensures
