-- `iisph_coefficients::coefficients::coefficients_of` meets its contract: each sum over the fluid contacts and then the
-- boundary contacts is the rule's, and the work list holds the particle's own mass and velocity. Assumes nothing.
use Prim.Native.Nat.{◌<◌}
use mathlib.Core.Path.{◌∙◌}
use native.Mathlib.Omega.{arith}
use Rattle.scene_format.specs.Scene.{fluid_size, particle}
use Rattle.scene_format.specs.SceneOf.{scene_of}
use Rattle.scene_format.specs.declared.Kind.TheVariants.{Fluid, Boundary}
use Rattle.scene_index.proofs.ContactLists.{ContactsAre, contacts_are, list_ready}
use Rattle.iisph_coefficients.specs.Neighbours.{SumReady}
use Rattle.iisph_coefficients.proofs.BothKinds.{coefficients_made}
use Rattle.iisph_coefficients.proofs.Targets.{pass_axes, own_row, own_mass, own_velocity}
use Rattle.iisph_coefficients.proofs.coefficients.coefficients_of.Goals as goal
use Rattle.iisph_coefficients.proofs.coefficients.coefficients_of.Goals.{Start, After-contacts_of-boundary}

-- ---- the two lists of contacts

below : (c : Start) → c.args.i < fluid_size (scene_of c.args.over.scene.now)
below c = omega (arith, c.requires.timed_pass.0.over.size, c.requires.timed_pass.1)

module _ (c : After-contacts_of-boundary) (h : c.args.i < fluid_size (scene_of c.args.over.scene.now)) where
  fluid : let b = c.args.over.scene.now in
      ContactsAre b Fluid (particle (scene_of b) c.args.i) c.contacts_of-fluid.result
  fluid = contacts_are c.requires.timed_pass.0.over.indexed _ h c.contacts_of-fluid.ensures

  boundary : let b = c.args.over.scene.now in
      ContactsAre b Boundary (particle (scene_of b) c.args.i) c.contacts_of-boundary.result
  boundary = contacts_are c.requires.timed_pass.0.over.indexed _ h c.contacts_of-boundary.ensures

  fluid_ready : SumReady Fluid c.args.over c.args.work.now c.contacts_of-fluid.result
  fluid_ready =
      let over = c.requires.timed_pass.0.over in (over, list_ready over.axes fluid, c.requires.coefficients_ready)

  boundary_ready : SumReady Boundary c.args.over c.args.work.now c.contacts_of-boundary.result
  boundary_ready =
      let over = c.requires.timed_pass.0.over in (over, list_ready over.axes boundary, c.requires.coefficients_ready)

-- ---- the goals

pub contacts_of-fluid-requires : goal.contacts_of-fluid-requires
contacts_of-fluid-requires c =
    let p = c.requires.timed_pass.0.over in
    record { indexed = (p.indexed, p.axes); i_bound = below (goal.at.contacts_of-fluid-requires c).Start }

pub contacts_of-boundary-requires : goal.contacts_of-boundary-requires
contacts_of-boundary-requires c =
    let p = c.requires.timed_pass.0.over in
    record { indexed = (p.indexed, p.axes); i_bound = below (goal.at.contacts_of-boundary-requires c).Start }

pub row_at-row-requires : goal.row_at-row-requires
row_at-row-requires c =
    let p = c.requires in
    own_row p.timed_pass.0.over p.coefficients_ready _ (below (goal.at.row_at-row-requires c).Start)

pub vector_at-v-requires : goal.vector_at-v-requires
vector_at-v-requires c =
    (pass_axes c.requires.timed_pass.0.over, omega (arith, c.row_at-row.ensures.1))

pub densities-part-requires : goal.densities-part-requires
densities-part-requires c =
    let at = goal.at.densities-part-requires c in fluid_ready at.After-contacts_of-boundary (below at.Start)

pub densities-sums-requires : goal.densities-sums-requires
densities-sums-requires c =
    let at = goal.at.densities-sums-requires c in boundary_ready at.After-contacts_of-boundary (below at.Start)

pub dii-part-requires : goal.dii-part-requires
dii-part-requires c =
    let at = goal.at.dii-part-requires c in fluid_ready at.After-contacts_of-boundary (below at.Start)

pub dii-d-requires : goal.dii-d-requires
dii-d-requires c =
    let at = goal.at.dii-d-requires c in boundary_ready at.After-contacts_of-boundary (below at.Start)

pub aii-part-requires : goal.aii-part-requires
aii-part-requires c =
    let at = goal.at.aii-part-requires c in fluid_ready at.After-contacts_of-boundary (below at.Start)

pub aii-a-requires : goal.aii-a-requires
aii-a-requires c =
    let at = goal.at.aii-a-requires c in boundary_ready at.After-contacts_of-boundary (below at.Start)

pub returns : goal.returns
returns c =
    let at = goal.at.returns c in
    let here = below at.Start in
    let p = c.requires in
    let over = p.timed_pass.0.over in
    coefficients_made over.axes (fluid at.After-contacts_of-boundary here) (boundary at.After-contacts_of-boundary here)
    c.vector_at-v.result c.dii-part.result
    p.timed_pass.0.dt_is
    (c.vector_at-v.ensures ∙ own_velocity over p.coefficients_ready _ here c.row_at-row.ensures.0)
    c.densities-part.ensures.0
    c.densities-part.ensures.1
    c.densities-sums.ensures.0
    c.densities-sums.ensures.1
    (rw (c.zero.ensures c.args.over.dim (pass_axes over).most) at c.dii-part.ensures)
    c.dii-d.ensures
    (own_mass over p.coefficients_ready _ here c.row_at-row.ensures.0)
    c.aii-part.ensures
    c.aii-a.ensures
