-- `iisph_pressures::iteration::boundary_pressure_sum` meets its contract: a turn adds the rule's term of the next
-- contact, for which the volume of what it names stands in the work list. Assumes nothing.
use Prim.Native.Nat.{ℕ}
use mathlib.Core.Path.{ap, ◌∙◌}
use native.Mathlib.Omega.{arith}
use Rattle.math.specs.Real.{◌⊗◌}
use Rattle.math.specs.Vector.{coordinates}
use Rattle.scene_format.specs.SceneOf.{scene_of}
use Rattle.scene_format.specs.declared.Kind.TheVariants.{Boundary}
use Rattle.scene_index.proofs.ContactLists.{contact_here, target_ready}
use Rattle.iisph_rows.specs.Rows.{element_at}
use Rattle.iisph_pressures.specs.IterationRows.{boundary_term}
use Rattle.iisph_pressures.proofs.ContactTurns.{none_passed, boundary_target}
use Rattle.iisph_pressures.proofs.IterationTerms.{boundary_term_lem, term_next}
use Rattle.iisph_pressures.proofs.iteration.boundary_pressure_sum.Goals as goal

pub loop-k-init : goal.loop-k-init
loop-k-init c = none_passed _ _ _ _ _ _

pub volume_at-place-requires : goal.volume_at-place-requires
volume_at-place-requires c =
    let p = c.requires in
    omega (
      arith,
      p.pass_over.1.room,
      boundary_target c.contact_width-width.ensures.0 c.loop-k-test.true p.contacts_ready c.target_of-j.ensures,
    )

pub loop-k-preserved : goal.loop-k-preserved
loop-k-preserved c =
    let l = c.loop-k in
    let a = c.args in
    let dim = a.over.dim in
    let s = scene_of a.over.scene.now in
    let d = coordinates dim a.d in
    let p = c.requires in
    let we = c.contact_width-width.ensures.0 in
    term_next Boundary dim _ (boundary_term s a.list.density0 d) a.list.at l.k _ we l.invariant
    (ap (λ (k : ℕ). element_at a.work.now k ⊗ a.list.density0 ⊗ c.dot.result) c.volume_at-place.ensures.0
    ∙ boundary_term_lem _ p.pass_over.0.axes p.pass_over.0.size p.pass_over.1 c.vector-g.ensures
    (target_ready (contact_here p.contacts_ready l.k we c.loop-k-test.true)) c.target_of-j.ensures a.list.density0 d
    c.dot.ensures)
