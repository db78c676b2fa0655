-- `iisph_pressures::iteration::fluid_pressure_sum` meets its contract: a turn adds the rule's term of the next contact,
-- which the row of what it names gives. Assumes nothing.
use mathlib.Core.Path.{refl, ◌∙◌}
use native.Mathlib.Omega.{arith}
use Rattle.math.specs.Real.{+0}
use Rattle.scene_format.specs.SceneOf.{scene_of}
use Rattle.scene_format.specs.declared.Kind.TheVariants.{Fluid}
use Rattle.scene_index.proofs.ContactLists.{contact_here, target_ready}
use Rattle.iisph_rows.proofs.RowStores.{row_within}
use Rattle.iisph_pressures.specs.IterationRows.{pressures_in, dijs_in, fluid_term}
use Rattle.iisph_pressures.proofs.ContactTurns.{none_passed, fluid_target}
use Rattle.iisph_pressures.proofs.IterationTerms.{fluid_term_lem, term_next}
use Rattle.iisph_pressures.proofs.iteration.fluid_pressure_sum.Goals as goal

pub loop-k-init : goal.loop-k-init
loop-k-init c = none_passed _ _ _ _ _ _

pub fluid_term-sum-requires-clause-dim_in_bounds : goal.fluid_term-sum-requires-clause-dim_in_bounds
fluid_term-sum-requires-clause-dim_in_bounds c =
    let p = c.requires in
    let below = fluid_target c.contact_width-width.ensures.0 c.loop-k-test.true p.contacts_ready c.target_of-j.ensures
    p.pass_over.0.size in
    omega (arith, row_within c.args.over.dim below, p.pass_over.1.room)

pub loop-k-preserved : goal.loop-k-preserved
loop-k-preserved c =
    let l = c.loop-k in
    let a = c.args in
    let d = a.over.dim in
    let n = a.over.n in
    let s = scene_of a.over.scene.now in
    let p = c.requires in
    let w = a.work.now in
    let we = c.contact_width-width.ensures.0 in
    term_next Fluid d _ (fluid_term d s (pressures_in d n w) (dijs_in d n w) a.owner) a.list.at l.k +0 we l.invariant
    (c.fluid_term-sum.ensures
    ∙ fluid_term_lem _ p.pass_over.0.axes p.pass_over.0.size p.pass_over.1 refl
    (target_ready (contact_here p.contacts_ready l.k we c.loop-k-test.true)) c.target_of-j.ensures a.owner)
