-- `scene_lists::list_looked` meets its contract: by which contacts the list holds; each list is within its record.
-- Assumes nothing.
use Prim.Native.Nat.{ℕ, ◌+◌, ◌*◌, ◌≤◌}
use mathlib.Core.Path.{◌≡◌, ap, ◌∙◌}
use native.Mathlib.Omega.{arith}
use Rattle.scene_format.specs.Format.{contact_width, contact_count_offset}
use Rattle.scene_format.specs.Format.{record_width, own_width, contacts_width, next_record}
use Rattle.scene_format.specs.declared.Kind.TheVariants.{Fluid}
use Rattle.scene_format.proofs.Forms.{two_bytes, contacts_fit}
use Rattle.scene_lists.specs.Lists.{owner_of, list_width, list_count, list_start, list_looked}
use Rattle.scene_lists.proofs.Listed.{looked_same}
use Rattle.scene_lists.proofs.list_looked.Goals as goal

-- both lists of a fluid record end within the bytes, where the record does
first_within : (at d g : ℕ) {l count width f n : ℕ} → count ≡ contact_count_offset Fluid d → width ≡ contact_width d
    → n ≡ f → at + record_width d + contact_width d * (f + g) ≤ l → at + (count + 2) + width * n ≤ l
first_within at d g e q r h = rw (e, q, r) (omega (arith, h))

second_within : (at d : ℕ) {l count width f g n m : ℕ} → count ≡ contact_count_offset Fluid d → width ≡ contact_width d
    → n ≡ f → m ≡ g → at + record_width d + contact_width d * (f + g) ≤ l
    → at + (count + 2) + width * n + width * m ≤ l
second_within at d e q r t h = rw (e, q, r, t) (omega (arith, h))

pub byte-n-requires : goal.byte-n-requires
unfolding owner_of own_width
byte-n-requires c =
    omega (arith, rw c.in-FluidFluid.is at c.requires.record_within.own)

pub names-requires : goal.names-requires
unfolding owner_of next_record own_width contacts_width
names-requires c =
    let count_is = c.contact_counts-count.ensures.0 ∙ ap (contact_count_offset Fluid) c.axes-dim.ensures.0 in
    let width_is = c.contact_width-width.ensures.0 ∙ ap contact_width c.axes-dim.ensures.0 in
    let ends = rw c.in-FluidFluid.is at c.requires.record_within.ends in
    (omega arith, first_within _ _ _ count_is width_is (rw count_is at c.byte-n.ensures.0) ends)

pub byte-before-requires : goal.byte-before-requires
unfolding owner_of own_width
byte-before-requires c =
    omega (arith, rw c.in-FluidBoundary.is at c.requires.record_within.own)

pub byte-n-requires-in-FluidBoundary : goal.byte-n-requires-in-FluidBoundary
unfolding owner_of own_width
byte-n-requires-in-FluidBoundary c =
    omega (arith, rw c.in-FluidBoundary.is at c.requires.record_within.own)

-- the contacts of both lists are few bytes
pub overflow_mul-width : goal.overflow_mul-width
overflow_mul-width c =
    omega (
      arith,
      contacts_fit c.contact_width-width-in-FluidBoundary.ensures.1
          (two_bytes c.byte-before.ensures.1 c.byte-n-in-FluidBoundary.ensures.1),
    )

pub overflow_add-at-in-FluidBoundary-4 : goal.overflow_add-at-in-FluidBoundary-4
overflow_add-at-in-FluidBoundary-4 c =
    omega (
      arith,
      contacts_fit c.contact_width-width-in-FluidBoundary.ensures.1
          (two_bytes c.byte-before.ensures.1 c.byte-n-in-FluidBoundary.ensures.1),
    )

pub names-requires-in-FluidBoundary : goal.names-requires-in-FluidBoundary
unfolding owner_of next_record own_width contacts_width
names-requires-in-FluidBoundary c =
    let count_is = c.contact_counts-count-in-FluidBoundary.ensures.0 ∙ ap (contact_count_offset Fluid)
    c.axes-dim.ensures.0 in
    let width_is = c.contact_width-width-in-FluidBoundary.ensures.0 ∙ ap contact_width c.axes-dim.ensures.0 in
    let ends = rw c.in-FluidBoundary.is at c.requires.record_within.ends in (
      omega arith,
      second_within _ _ count_is width_is (rw count_is at c.byte-before.ensures.0)
          (rw count_is at c.byte-n-in-FluidBoundary.ensures.0) ends,
    )

pub byte-n-requires-in-BoundaryBoundary : goal.byte-n-requires-in-BoundaryBoundary
unfolding owner_of own_width
byte-n-requires-in-BoundaryBoundary c =
    let count_is = rw (c.axes-dim.ensures.0, ← c.keeps.ensures) at c.boundary_count-count.ensures.0 in
    omega (arith, count_is, rw c.in-BoundaryBoundary.is at c.requires.record_within.own)

pub names-requires-in-BoundaryBoundary : goal.names-requires-in-BoundaryBoundary
unfolding owner_of next_record own_width contacts_width
names-requires-in-BoundaryBoundary c =
    let count_is = rw (c.axes-dim.ensures.0, ← c.keeps.ensures) at c.boundary_count-count.ensures.0 in
    let ends = rw c.in-BoundaryBoundary.is at c.requires.record_within.ends in
    (omega arith, rw (c.byte-n-in-BoundaryBoundary.ensures.0, count_is) ends)

pub returns-in-FluidFluid : goal.returns-in-FluidFluid
unfolding list_looked list_width list_count list_start
returns-in-FluidFluid c =
    let count_is = c.contact_counts-count.ensures.0 ∙ ap (contact_count_offset Fluid) c.axes-dim.ensures.0 in
    let width_is = c.contact_width-width.ensures.0 ∙ ap contact_width c.axes-dim.ensures.0 in
    c.names.ensures ∙ looked_same c.requires.counts_of_kind _ _ _
    ∙ rw (c.in-FluidFluid.is, ← width_is, ← count_is, ← c.byte-n.ensures.0)

pub returns-in-FluidBoundary : goal.returns-in-FluidBoundary
unfolding list_looked list_width list_count list_start
returns-in-FluidBoundary c =
    let count_is = c.contact_counts-count-in-FluidBoundary.ensures.0 ∙ ap (contact_count_offset Fluid)
    c.axes-dim.ensures.0 in
    let width_is = c.contact_width-width-in-FluidBoundary.ensures.0 ∙ ap contact_width c.axes-dim.ensures.0 in
    c.names-in-FluidBoundary.ensures ∙ looked_same c.requires.counts_of_kind _ _ _
    ∙ rw (
      c.in-FluidBoundary.is,
      ← width_is,
      ← count_is,
      ← c.byte-before.ensures.0,
      ← c.byte-n-in-FluidBoundary.ensures.0,
    )

pub returns-in-BoundaryBoundary : goal.returns-in-BoundaryBoundary
unfolding list_looked list_width list_count list_start
returns-in-BoundaryBoundary c =
    let count_is = rw (c.axes-dim.ensures.0, ← c.keeps.ensures) at c.boundary_count-count.ensures.0 in
    c.names-in-BoundaryBoundary.ensures ∙ looked_same c.requires.counts_of_kind _ _ _
    ∙ rw (c.in-BoundaryBoundary.is, ← count_is, ← c.byte-n-in-BoundaryBoundary.ensures.0)
