-- `scene_walk::fluid_record` meets its contract: field by field, each from where the walk has come to; the counts are
-- there once they are passed, and their sum counts both lists of contacts. Assumes nothing.
use Prim.Native.Nat.{ℕ, ◌+◌}
use mathlib.Core.List.{List}
use mathlib.Core.Path.{◌≡◌, sym, ◌∙◌, ap}
use native.Mathlib.Omega.{arith}
use Rattle.scene_fields.specs.Fields.{◌▹◌, times, double}
use Rattle.scene_fields.proofs.Reached.{plain-steps}
use Rattle.scene_fields.proofs.Walks.{handed_on, times-add}
use Rattle.scene_format.specs.Bytes.{byte_at}
use Rattle.scene_format.specs.Format.{axes_of, record_doubles, contact_count}
use Rattle.scene_format.specs.declared.Kind.TheVariants.{Fluid, Boundary}
use Rattle.std.specs.declared.result.Result.TheVariants.{Ok}
use Rattle.scene_walk.specs.Walk.{fluid_record}
use Rattle.scene_walk.proofs.Walked.{doubles-steps}
use Rattle.scene_walk.proofs.fluid_record.Goals as goal
use Rattle.scene_walk.proofs.fluid_record.Goals.{After-doubles}

-- the walk through the record's own doubles
own : (c : After-doubles)
    → times (record_doubles (axes_of c.args.s.now)) (double c.args.s.now) c.args.from ≡ c.doubles.result
own c = sym (rw (c.record_doubles.ensures, c.axes-dim.ensures.0) at c.doubles.ensures)

-- the counts stand where it ends
module _ (b : List ℕ) (at : ℕ) {x : ℕ} (q : times (record_doubles (axes_of b)) (double b) at ≡ Ok x) where
  fluids_here : contact_count Fluid b at ≡ byte_at b x
  fluids_here = let end = (doubles-steps _ _ _ _ q).0 in ap (byte_at b) (omega (arith, end))

  boundaries_here : {y : ℕ} → y ≡ x + 1 → contact_count Boundary b at ≡ byte_at b y
  boundaries_here e = let end = (doubles-steps _ _ _ _ q).0 in ap (byte_at b) (omega (arith, end, e))

pub returns-in_err-fluids : goal.returns-in_err-fluids
unfolding fluid_record ◌▹◌
returns-in_err-fluids c =
    handed_on c.from_residual.ensures.1
    ∙ rw (own (goal.at.returns-in_err-fluids c).After-doubles ∙ c.in_err-fluids.was)

pub returns-in_err-boundaries : goal.returns-in_err-boundaries
unfolding fluid_record ◌▹◌
returns-in_err-boundaries c =
    handed_on c.from_residual-in_err-boundaries.ensures.1
    ∙ rw (
      own (goal.at.returns-in_err-boundaries c).After-doubles ∙ c.in_ok-fluids.was,
      sym c.plain.ensures ∙ c.in_err-boundaries.was,
    )

pub returns-in_err-first : goal.returns-in_err-first
unfolding fluid_record ◌▹◌
returns-in_err-first c =
    handed_on c.from_residual-in_err-first.ensures.1
    ∙ rw (
      own (goal.at.returns-in_err-first c).After-doubles ∙ c.in_ok-fluids.was,
      sym c.plain.ensures ∙ c.in_ok-boundaries.was,
      sym c.plain-2.ensures ∙ c.in_err-first.was,
    )

pub byte-requires : goal.byte-requires
byte-requires c = omega (arith, (plain-steps _ _ _ _ (sym c.plain.ensures ∙ c.in_ok-boundaries.was)).1)

pub byte-requires-2 : goal.byte-requires-2
byte-requires-2 c = omega (arith, (plain-steps _ _ _ _ (sym c.plain-2.ensures ∙ c.in_ok-first.was)).1)

pub returns : goal.returns
unfolding fluid_record ◌▹◌
returns c =
    let here = own (goal.at.returns c).After-doubles ∙ c.in_ok-fluids.was in
    let first = sym c.plain.ensures ∙ c.in_ok-boundaries.was in
    rw (
      here,
      first,
      sym c.plain-2.ensures ∙ c.in_ok-first.was,
      fluids_here _ _ here ∙ sym c.byte.ensures.0,
      boundaries_here _ _ here (plain-steps _ _ _ _ first).0 ∙ sym c.byte-2.ensures.0,
      ← c.axes-dim.ensures.0,
    )
    (c.fluid_contacts.ensures ∙ times-add _ _ _ _)
