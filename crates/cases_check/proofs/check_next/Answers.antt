-- `cases_check::check_next` meets its contract: nothing came, or a scene, which is the front of its room. Assumes
-- nothing.
use Prim.Native.Nat.{ℕ, ◌≤◌}
use mathlib.Core.Path.{sym, ap, ◌∙◌}
use lib.ListN.{length, length-replicate}
use lib.Seq.{length-take-le}
use Rattle.cases_list.proofs.Fitting.{scene_fits, nothing_came, scene_came}
use Rattle.cases_check.specs.Printed.{room, line_of}
use Rattle.std.specs.declared.option.Option.TheVariants.{Some}
use Rattle.cases_check.proofs.check_next.Goals as goal

pub slice_bounds-scene-end : goal.slice_bounds-scene-end
slice_bounds-scene-end g c = scene_fits c.in_ok-n.ensures.fits c.in-Some.is

pub slice_bounds-print_check-end : goal.slice_bounds-print_check-end
slice_bounds-print_check-end g c =
    let fits : c.in-Some.n ≤ length c.read_next.new.room = scene_fits c.in_ok-n.ensures.fits c.in-Some.is in
    sym (length-take-le _ _ fits)

pub returns-in_ok-print_check-in-Some-clause-next : goal.returns-in_ok-print_check-in-Some-clause-next
unfolding line_of
returns-in_ok-print_check-in-Some-clause-next g c =
    let fits : c.in-Some.n ≤ length c.read_next.new.room = scene_fits c.in_ok-n.ensures.fits c.in-Some.is in
    scene_came _ _ _ _ _ fits (c.read_next.auto.room ∙ length-replicate {A = ℕ} room 0)
    (ap Some c.in_ok-print_check-in-Some.ensures)

pub returns-in-None-clause-next : goal.returns-in-None-clause-next
returns-in-None-clause-next g c = nothing_came _ _ _
