-- `scene_walk::fluid_contacts` meets its contract: contacts that are there and plainly finite are passed, all others
-- are walked through. Assumes nothing.
use Prim.Native.Nat.{◌+◌, ◌*◌, ◌≤◌}
use mathlib.Core.Path.{sym, ◌∙◌}
use native.Mathlib.Omega.{arith}
use lib.ListN.{length}
use Rattle.scene_fields.proofs.Reached.{plain-steps}
use Rattle.scene_fields.proofs.Walks.{plain_there}
use Rattle.scene_format.specs.Format.{contact_width}
use Rattle.scene_format.proofs.Forms.{contacts_fit}
use Rattle.scene_walk.proofs.Plainly.{fluid_contacts_there}
use Rattle.scene_walk.proofs.fluid_contacts.Goals as goal

pub overflow_mul-contact_width : goal.overflow_mul-contact_width
overflow_mul-contact_width c = omega (arith, contacts_fit c.contact_width.ensures.1 c.requires)

pub contacts_plainly_finite-requires : goal.contacts_plainly_finite-requires
contacts_plainly_finite-requires c =
    let there : let a = c.args in a.from + contact_width a.dim * a.n ≤ length a.s.now =
    rw c.contact_width.ensures.0 at (plain-steps _ _ _ _ (sym c.plain.ensures ∙ c.in-Ok.is)).1 in
    rw c.contact_doubles-d.ensures (omega (arith, there))

pub returns-in-Ok : goal.returns-in-Ok
returns-in-Ok c =
    let there : let a = c.args in a.from + contact_width a.dim * a.n ≤ length a.s.now =
    rw c.contact_width.ensures.0 at (plain-steps _ _ _ _ (sym c.plain.ensures ∙ c.in-Ok.is)).1 in
    let h = there in
    sym c.in-Ok.is ∙ c.plain.ensures ∙ rw c.contact_width.ensures.0 (plain_there _ _ _ h)
    ∙ sym
    (fluid_contacts_there _ (λ i. (c.type_inv.s i).fits) _ _ _ h
    (sym (rw c.contact_doubles-d.ensures at c.contacts_plainly_finite.ensures) ∙ c.if-contacts_plainly_finite.true))
