-- `iisph_header::step_header` meets its contract: the header's numbers are found, each is the header's, and the clock
-- is advanced once. Assumes nothing.
use mathlib.Core.Path.{◌≡◌, sym, ap, ◌∙◌}
use mathlib.Core.List.{List}
use Prim.Native.Nat.{ℕ}
use native.Mathlib.Omega.{arith}
use lib.ListN.{length}
use Rattle.scene_check.proofs.Accepted.{accepted}
use Rattle.scene_check.specs.Walk.{checked}
use Rattle.scene_fields.proofs.Found.{numbers_found, found_numbers}
use Rattle.scene_fields.specs.Reading.{header_numbers_of}
use Rattle.std.specs.declared.result.Result.TheVariants.{Ok}
use Rattle.scene_walk.specs.Accepted.{HeaderOk}
use Rattle.iisph_header.proofs.StepHeaders.{gravity_read, step_header_made}
use Rattle.iisph_header.proofs.step_header.Goals as goal
use Rattle.iisph_header.proofs.step_header.Goals.{After-header_numbers}

header : {b : List ℕ} → checked b ≡ Ok (length b) → HeaderOk b
header q = (accepted _ q).fields.header

numbers : (c : After-header_numbers) → c.header_numbers.result ≡ Ok (header_numbers_of c.args.scene.now)
numbers c =
    let h = header c.requires in
    c.header_numbers.ensures ∙ numbers_found _ h.total_step_size h.remaining_time h.max_density_error

pub unwrap-numbers-requires : goal.unwrap-numbers-requires
unwrap-numbers-requires c = rw (numbers (goal.at.unwrap-numbers-requires c).After-header_numbers)

pub vector-gravity-requires : goal.vector-gravity-requires
vector-gravity-requires c = gravity_read _ c.axes.ensures.0 (header c.requires)

pub byte-requires : goal.byte-requires
byte-requires c = omega (arith, (header c.requires).room)

pub byte-requires-2 : goal.byte-requires-2
byte-requires-2 c = omega (arith, (header c.requires).room)

pub returns : goal.returns
unfolding header_numbers_of
returns c =
    let n = found_numbers (sym c.unwrap-numbers.ensures ∙ numbers (goal.at.returns c).After-header_numbers) in
    step_header_made _
    (ap (λ h. h.total_step_size) n)
    (ap (λ h. h.remaining_time) n)
    (ap (λ h. h.max_density_error) n)
    c.advance-clock.ensures
    c.axes.ensures.0
    c.vector-gravity.ensures
    c.byte.ensures
    c.byte-2.ensures
