-- `scene_format::read::next_record` meets its contract: by the kind; the counts are there, since the record is. Assumes
-- nothing.
use native.Mathlib.Omega.{arith}
use Rattle.scene_format.specs.Format.{own_width, contacts_width, next_record}
use Rattle.scene_format.proofs.Forms.{two_bytes, contacts_fit}
use Rattle.scene_format.proofs.read.next_record.Goals as goal

pub byte-requires : goal.byte-requires
unfolding own_width
byte-requires c =
    omega (arith, rw c.in-Fluid.is at c.requires.own)

pub byte-requires-in-Fluid : goal.byte-requires-in-Fluid
unfolding own_width
byte-requires-in-Fluid c =
    omega (arith, rw c.in-Fluid.is at c.requires.own)

pub byte-contacts-requires : goal.byte-contacts-requires
unfolding own_width
byte-contacts-requires c =
    let axes = c.axes-dim.ensures.0 in
    let inside = rw (axes, ← c.keeps.ensures) at c.boundary_count-count.ensures.0 in
    omega (arith, inside, rw c.in-Boundary.is at c.requires.own)

pub overflow_mul-result : goal.overflow_mul-result
overflow_mul-result c =
    omega (
      arith,
      contacts_fit c.contact_width.ensures.1
          (two_bytes c.byte.ensures.1 c.byte-in-Fluid.ensures.1),
    )

pub overflow_add-result-in-Fluid-2 : goal.overflow_add-result-in-Fluid-2
overflow_add-result-in-Fluid-2 c =
    omega (
      arith,
      contacts_fit c.contact_width.ensures.1
          (two_bytes c.byte.ensures.1 c.byte-in-Fluid.ensures.1),
    )

pub returns-in-Fluid : goal.returns-in-Fluid
unfolding next_record own_width contacts_width
returns-in-Fluid c =
    rw (
      c.in-Fluid.is,
      c.byte-in-Fluid.ensures.0,
      c.byte.ensures.0,
      c.contact_width.ensures.0,
      c.contact_counts-counts.ensures.0,
      c.axes-dim.ensures.0,
    )

pub returns-in-Boundary : goal.returns-in-Boundary
unfolding next_record own_width contacts_width
returns-in-Boundary c =
    rw (
      c.in-Boundary.is,
      c.byte-contacts.ensures.0,
      c.boundary_count-count.ensures.0,
      ← c.keeps.ensures,
      c.axes-dim.ensures.0,
    )
