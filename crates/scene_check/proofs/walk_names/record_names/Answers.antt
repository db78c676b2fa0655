-- `scene_check::walk_names::record_names` meets its contract: by the kind, list by list up to the first refusal; both
-- lists are within the record. Assumes nothing.
use Prim.Native.Nat.{ℕ, ◌+◌, ◌*◌, ◌≤◌}
use mathlib.Core.Path.{◌≡◌, sym, ap, ◌∙◌}
use native.Mathlib.Omega.{arith}
use Rattle.std.proofs.lemmas.Result.{err_from_is_err_and}
use Rattle.scene_fields.specs.Fields.{◌▹◌}
use Rattle.scene_check.specs.Walk.{record_names_of}
use Rattle.scene_format.specs.Format.{contact_width, contact_count_offset}
use Rattle.scene_format.specs.Format.{record_width, own_width, contacts_width, next_record}
use Rattle.scene_format.specs.declared.Kind.TheVariants.{Fluid}
use Rattle.scene_check.proofs.Looks.{walk_is}
use Rattle.scene_check.proofs.Named.{names_end, fluid-names_same, boundary-names_same}
use Rattle.scene_check.proofs.walk_names.record_names.Goals as goal

-- both lists end within the bytes, where the record does
first_within : (at d g : ℕ) {l counts width f n : ℕ} → counts ≡ contact_count_offset Fluid d → width ≡ contact_width d
    → n ≡ f
    → at + record_width d + contact_width d * (f + g) ≤ l → at + (counts + 2) + width * n ≤ l
first_within at d g e q r h = rw (e, q, r) (omega (arith, h))

second_within : (at d : ℕ) {l counts width f g n m from : ℕ} → counts ≡ contact_count_offset Fluid d
    → width ≡ contact_width d
    → n ≡ f → m ≡ g → from ≡ at + (counts + 2) + width * n → at + record_width d + contact_width d * (f + g) ≤ l
    → from + width * m ≤ l
second_within at d e q r t u h = rw (u, e, q, r, t) (omega (arith, h))

pub byte-n-requires : goal.byte-n-requires
unfolding own_width
byte-n-requires c =
    omega (
      arith,
      rw c.in-Fluid.is at
          c.requires.record_within.own,
    )

pub names-requires : goal.names-requires
unfolding next_record own_width contacts_width
names-requires c =
    let counts_are = c.contact_counts-counts.ensures.0 ∙ ap (contact_count_offset Fluid) c.axes-dim.ensures.0 in
    let width_is = c.contact_width-width.ensures.0 ∙ ap contact_width c.axes-dim.ensures.0 in
    let ends = rw c.in-Fluid.is at c.requires.record_within.ends in
    (omega arith, first_within _ _ _ counts_are width_is (rw counts_are at c.byte-n.ensures.0) ends)

pub returns-in_err-middle-in-Fluid : goal.returns-in_err-middle-in-Fluid
unfolding record_names_of ◌▹◌
returns-in_err-middle-in-Fluid c =
    let counts_are = c.contact_counts-counts.ensures.0 ∙ ap (contact_count_offset Fluid) c.axes-dim.ensures.0 in
    let width_is = c.contact_width-width.ensures.0 ∙ ap contact_width c.axes-dim.ensures.0 in
    let p = err_from_is_err_and c.from_residual.result c.from_residual.ensures.1 in
    rw (
      p.1,
      p.2,
      c.in-Fluid.is,
      ← width_is,
      ← counts_are,
      ← c.byte-n.ensures.0,
      sym
          (walk_is _ _ _ _ _ c.names.ensures ∙ fluid-names_same c.requires.counts_are _ _ _)
          ∙ c.in_err-middle-in-Fluid.was,
    )

pub byte-n-requires-in-Fluid : goal.byte-n-requires-in-Fluid
unfolding own_width
byte-n-requires-in-Fluid c =
    omega (arith, rw c.in-Fluid.is at c.requires.record_within.own)

pub names-requires-in-Fluid : goal.names-requires-in-Fluid
unfolding next_record own_width contacts_width
names-requires-in-Fluid c =
    let counts_are = c.contact_counts-counts.ensures.0 ∙ ap (contact_count_offset Fluid) c.axes-dim.ensures.0 in
    let middle = names_end _ _ _ _ _ _ (sym (walk_is _ _ _ _ _ c.names.ensures) ∙ c.in_ok-middle-in-Fluid.was) in
    let width_is = c.contact_width-width.ensures.0 ∙ ap contact_width c.axes-dim.ensures.0 in
    let ends = rw c.in-Fluid.is at c.requires.record_within.ends in (
      omega arith,
      second_within _ _ counts_are width_is (rw counts_are at c.byte-n.ensures.0)
          (rw counts_are at c.byte-n-in-Fluid.ensures.0) middle ends,
    )

pub byte-n-requires-in-Boundary : goal.byte-n-requires-in-Boundary
unfolding own_width
byte-n-requires-in-Boundary c =
    let count_is = rw (c.axes-dim.ensures.0, ← c.keeps.ensures) at c.boundary_count-count.ensures.0 in
    omega (arith, count_is, rw c.in-Boundary.is at c.requires.record_within.own)

pub names-requires-in-Boundary : goal.names-requires-in-Boundary
unfolding next_record own_width contacts_width
names-requires-in-Boundary c =
    let count_is = rw (c.axes-dim.ensures.0, ← c.keeps.ensures) at c.boundary_count-count.ensures.0 in
    let ends = rw c.in-Boundary.is at c.requires.record_within.ends in
    (omega arith, rw (c.byte-n-in-Boundary.ensures.0, count_is) ends)

pub returns-in_ok-middle-in-Fluid : goal.returns-in_ok-middle-in-Fluid
unfolding record_names_of ◌▹◌
returns-in_ok-middle-in-Fluid c =
    let counts_are = c.contact_counts-counts.ensures.0 ∙ ap (contact_count_offset Fluid) c.axes-dim.ensures.0 in
    let width_is = c.contact_width-width.ensures.0 ∙ ap contact_width c.axes-dim.ensures.0 in
    let are = c.requires.counts_are in
    rw (
      c.in-Fluid.is,
      ← width_is,
      ← counts_are,
      ← c.byte-n.ensures.0,
      sym (walk_is _ _ _ _ _ c.names.ensures ∙ fluid-names_same are _ _ _) ∙ c.in_ok-middle-in-Fluid.was,
      ← c.byte-n-in-Fluid.ensures.0,
    )
    (walk_is _ _ _ _ _ c.names-in-Fluid.ensures ∙ boundary-names_same are _ _ _)

pub returns-in-Boundary : goal.returns-in-Boundary
unfolding record_names_of
returns-in-Boundary c =
    let count_is = rw (c.axes-dim.ensures.0, ← c.keeps.ensures) at c.boundary_count-count.ensures.0 in
    rw (c.in-Boundary.is, ← count_is, ← c.byte-n-in-Boundary.ensures.0)
    (walk_is _ _ _ _ _ c.names-in-Boundary.ensures ∙ boundary-names_same c.requires.counts_are _ _ _)
