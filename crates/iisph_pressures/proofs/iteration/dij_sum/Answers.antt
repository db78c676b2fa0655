-- `iisph_pressures::iteration::dij_sum` meets its contract: a turn adds what the rule adds of the next contact, whose
-- quotient stands in the column. Assumes nothing.
use Prim.Native.Nat.{◌+◌, ◌*◌}
use mathlib.Core.Path.{ap, ◌∙◌}
use native.Mathlib.Omega.{arith}
use Rattle.math.specs.Vector.{coordinates, origin}
use Rattle.scene_format.specs.Format.{starts_of}
use Rattle.scene_format.specs.SceneOf.{contact_at, scene_of}
use Rattle.scene_format.specs.declared.Kind.TheVariants.{Fluid}
use Rattle.scene_index.proofs.ContactLists.{fold_next}
use Rattle.iisph_pressures.specs.IterationRows.{pressures_in, quotient, with_dij}
use Rattle.iisph_pressures.proofs.ContactTurns.{none_passed, fluid_target}
use Rattle.iisph_pressures.proofs.IterationTerms.{dij_step, quotient_there}
use Rattle.iisph_pressures.proofs.iteration.dij_sum.Goals as goal

pub loop-k-init : goal.loop-k-init
loop-k-init c =
    c.zero-sum.ensures c.args.over.dim c.requires.contacts_ready.axes.most ∙ none_passed _ _ _ _ _ _

pub column_at-place-requires : goal.column_at-place-requires
column_at-place-requires c =
    let p = c.requires in (
      omega (arith, c.quotient_column-quotients.ensures, p.contacts_ready.axes.least),
      fluid_target c.contact_width-width.ensures.0 c.loop-k-test.true p.contacts_ready c.target_of-j.ensures
          p.pass_over.0.size,
      omega (arith, p.pass_over.1.room),
    )

pub loop-k-preserved : goal.loop-k-preserved
unfolding contact_at
loop-k-preserved c =
    let l = c.loop-k in
    let a = c.args in
    let p = c.requires in
    let d = a.over.dim in
    let b = a.over.scene.now in
    let s = scene_of b in
    let ps = pressures_in d a.over.n a.work.now in
    let we = c.contact_width-width.ensures.0 in
    fold_next (with_dij s ps) (origin d) Fluid d b a.list.at l.k we l.invariant
    (dij_step s ps (contact_at d (starts_of Fluid b) b (a.list.at + c.contact_width-width.result * l.k))
    (coordinates d l.sum) (c.add-sum.ensures d) (c.scale.ensures d) c.vector-g.ensures
    (quotient_there s ps d p.pass_over.1.quotients c.quotient_column-quotients.ensures
    (fluid_target we c.loop-k-test.true p.contacts_ready c.target_of-j.ensures p.pass_over.0.size)
    c.column_at-place.ensures.0
    ∙ ap (quotient s ps) c.target_of-j.ensures))
