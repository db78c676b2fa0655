-- `scene_walk::boundary_record` meets its contract: field by field, each from where the walk has come to; the count is
-- there once it is passed. Assumes nothing.
use Prim.Native.Nat.{ℕ}
use mathlib.Core.List.{List}
use mathlib.Core.Path.{◌≡◌, sym, ◌∙◌, ap}
use native.Mathlib.Omega.{arith}
use Rattle.scene_fields.specs.Fields.{◌▹◌, times, double}
use Rattle.scene_fields.proofs.Reached.{plain-steps}
use Rattle.scene_fields.proofs.Walks.{handed_on}
use Rattle.scene_format.specs.Bytes.{byte_at}
use Rattle.scene_format.specs.Format.{axes_of, bit, boundary_record_doubles, boundary_contact_count}
use Rattle.std.specs.declared.result.Result.TheVariants.{Ok}
use Rattle.scene_walk.specs.Walk.{boundary_record}
use Rattle.scene_walk.proofs.Walked.{doubles-steps}
use Rattle.scene_walk.proofs.boundary_record.Goals as goal
use Rattle.scene_walk.proofs.boundary_record.Goals.{After-doubles}

-- the walk through the record's own doubles
own : (c : After-doubles)
    → times (boundary_record_doubles (axes_of c.args.s.now) (bit c.args.keeps)) (double c.args.s.now) c.args.from
    ≡ c.doubles.result
own c = sym (rw (c.boundary_doubles.ensures, c.axes.ensures.0) at c.doubles.ensures)

-- the count stands where it ends
count_here : (b : List ℕ) (k at : ℕ) {x : ℕ} → times (boundary_record_doubles (axes_of b) k) (double b) at ≡ Ok x
    → boundary_contact_count b k at ≡ byte_at b x
count_here b k at q = let end = (doubles-steps _ _ _ _ q).0 in ap (byte_at b) (omega (arith, end))

pub returns-in_err-count : goal.returns-in_err-count
unfolding boundary_record ◌▹◌
returns-in_err-count c =
    handed_on c.from_residual.ensures.1
    ∙ rw (own (goal.at.returns-in_err-count c).After-doubles ∙ c.in_err-count.was)

pub returns-in_err-first : goal.returns-in_err-first
unfolding boundary_record ◌▹◌
returns-in_err-first c =
    handed_on c.from_residual-in_err-first.ensures.1
    ∙ rw (
      own (goal.at.returns-in_err-first c).After-doubles ∙ c.in_ok-count.was,
      sym c.plain.ensures ∙ c.in_err-first.was,
    )

pub byte-requires : goal.byte-requires
byte-requires c = omega (arith, (plain-steps _ _ _ _ (sym c.plain.ensures ∙ c.in_ok-first.was)).1)

pub returns : goal.returns
unfolding boundary_record ◌▹◌
returns c =
    let here = own (goal.at.returns c).After-doubles ∙ c.in_ok-count.was in
    rw (here, sym c.plain.ensures ∙ c.in_ok-first.was, count_here _ _ _ here ∙ sym c.byte.ensures.0) c.contacts.ensures
