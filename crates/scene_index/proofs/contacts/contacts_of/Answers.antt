-- `scene_index::contacts::contacts_of` meets its contract: the record that the index finds is the particle's. Assumes
-- nothing.
use Prim.Native.Nat.{◌+◌, ◌*◌, ◌<◌, ◌≤◌}
use mathlib.Core.Path.{◌≡◌, ap, ◌∙◌}
use native.Mathlib.Omega.{arith}
use lib.ListN.{length}
use Rattle.scene_check.specs.Accepted.{FluidParticleOk}
use Rattle.scene_format.specs.Format.{axes_of, contact_count_offset, contact_width}
use Rattle.scene_format.specs.Scene.{size_of}
use Rattle.scene_format.specs.declared.Kind.TheVariants.{Fluid}
use Rattle.scene_format.proofs.Forms.{contacts_fit}
use Rattle.scene_index.proofs.ContactLists.{particle_here, fluid_contacts_lem, boundary_contacts_lem}
use Rattle.scene_index.proofs.contacts.contacts_of.Goals as goal
use Rattle.scene_index.proofs.contacts.contacts_of.Goals.{After-head_of-head, After-contact_counts-counts}
use Rattle.scene_index.proofs.contacts.contacts_of.Goals.{After-contact_width}

-- what a step may use of the particle
here : (c : After-head_of-head)
    → let a = c.args in FluidParticleOk a.scene.now
    (record { head = c.head_of-head.result; at = c.record_of-at.result }) a.i
here c =
    let p = c.requires in
    particle_here p.indexed.0 _ p.i_bound c.record_of-at.ensures c.head_of-head.ensures

-- the bytes of the two counts are there
counted : (c : After-contact_counts-counts)
    → c.record_of-at.result + (c.contact_counts-counts.result + 2) ≤ length c.args.scene.now
counted c =
    let p = c.requires in
    let particle = particle_here p.indexed.0 _ p.i_bound c.record_of-at.ensures c.head_of-head.ensures in
    omega (arith, particle.own.counts, p.indexed.1)

counts_are : (c : After-contact_counts-counts)
    → c.contact_counts-counts.result ≡ contact_count_offset Fluid (axes_of c.args.scene.now)
counts_are c = c.contact_counts-counts.ensures.0 ∙ ap (contact_count_offset Fluid) c.requires.indexed.1

few : (c : After-contact_width) → c.contact_width.result * c.byte-fluids.result < 4096 * (2 * 256)
few c = contacts_fit c.contact_width.ensures.1 (omega (arith, c.byte-fluids.ensures.1))

pub record_of-at-requires : goal.record_of-at-requires
unfolding size_of
record_of-at-requires c = let p = c.requires in (p.indexed.0, p.i_bound)

pub overflow_add-head : goal.overflow_add-head
overflow_add-head c = omega (arith, (here (goal.at.overflow_add-head c).After-head_of-head).density0.present)

pub double-density0-requires : goal.double-density0-requires
double-density0-requires c = (here (goal.at.double-density0-requires c).After-head_of-head).density0

pub overflow_add-at : goal.overflow_add-at
overflow_add-at c = omega (arith, counted (goal.at.overflow_add-at c).After-contact_counts-counts)

pub byte-fluids-requires : goal.byte-fluids-requires
byte-fluids-requires c = omega (arith, counted (goal.at.byte-fluids-requires c).After-contact_counts-counts)

pub overflow_add-result-in-Fluid : goal.overflow_add-result-in-Fluid
overflow_add-result-in-Fluid c =
    omega (arith, counted (goal.at.overflow_add-result-in-Fluid c).After-contact_counts-counts)

pub overflow_add-at-in-Boundary : goal.overflow_add-at-in-Boundary
overflow_add-at-in-Boundary c =
    omega (arith, counted (goal.at.overflow_add-at-in-Boundary c).After-contact_counts-counts)

pub byte-count-requires : goal.byte-count-requires
byte-count-requires c = omega (arith, counted (goal.at.byte-count-requires c).After-contact_counts-counts)

pub overflow_mul-result : goal.overflow_mul-result
overflow_mul-result c = omega (arith, few (goal.at.overflow_mul-result c).After-contact_width)

pub overflow_add-result-in-Boundary-2 : goal.overflow_add-result-in-Boundary-2
overflow_add-result-in-Boundary-2 c =
    omega (arith, counted (goal.at.overflow_add-result-in-Boundary-2 c).After-contact_counts-counts)

pub overflow_add-result-in-Boundary-3 : goal.overflow_add-result-in-Boundary-3
overflow_add-result-in-Boundary-3 c =
    let at = goal.at.overflow_add-result-in-Boundary-3 c in
    omega (arith, few at.After-contact_width, counted at.After-contact_counts-counts)

pub returns-in-Fluid : goal.returns-in-Fluid
returns-in-Fluid c =
    let p = c.requires in
    fluid_contacts_lem p.indexed.0 _ p.i_bound c.record_of-at.ensures c.head_of-head.ensures
    c.double-density0.ensures (counts_are (goal.at.returns-in-Fluid c).After-contact_counts-counts)
    c.byte-fluids.ensures.0 c.in-Fluid.is

pub returns-in-Boundary : goal.returns-in-Boundary
returns-in-Boundary c =
    let p = c.requires in
    boundary_contacts_lem p.indexed.0 _ p.i_bound c.record_of-at.ensures c.head_of-head.ensures
    c.double-density0.ensures (counts_are (goal.at.returns-in-Boundary c).After-contact_counts-counts)
    c.byte-fluids.ensures.0 (c.contact_width.ensures.0 ∙ ap contact_width p.indexed.1) c.byte-count.ensures.0
    c.in-Boundary.is
