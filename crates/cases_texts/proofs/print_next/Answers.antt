-- `cases_texts::print_next` meets its contract: nothing came, or a scene, which is the front of its room. Assumes
-- nothing.
use Prim.Native.Nat.{ℕ, ◌≤◌}
use mathlib.Core.Path.{sym, ◌∙◌}
use lib.ListN.{length, length-replicate}
use lib.Seq.{length-take-le}
use Rattle.std.proofs.lemmas.Result.{IfOk-weaker}
use Rattle.std.proofs.Common.{◌+◌, arith}
use Rattle.full_reads.proofs.Given.{gives_within}
use Rattle.cases_list.proofs.Fitting.{scene_fits, nothing_came, scene_came}
use Rattle.cases_texts.specs.Written.{room}
use Rattle.cases_texts.proofs.print_next.Goals as goal

pub slice_bounds-scene-end : goal.slice_bounds-scene-end
slice_bounds-scene-end g c = scene_fits c.in_ok-n.ensures.fits c.in-Some.is

pub slice_bounds-print_text-end : goal.slice_bounds-print_text-end
slice_bounds-print_text-end g c =
    let fits : c.in-Some.n ≤ length c.read_next.new.room = scene_fits c.in_ok-n.ensures.fits c.in-Some.is in
    sym (length-take-le _ _ fits)

pub returns-in_err-n-clause-left : goal.returns-in_err-n-clause-left
returns-in_err-n-clause-left g c =
    gives_within _ _ _ (4 + room) c.in_err-n.ensures.left (omega (arith, length-replicate {A = ℕ} room 0))

pub returns-in-Some-clause-next : goal.returns-in-Some-clause-next
returns-in-Some-clause-next g c =
    let fits : c.in-Some.n ≤ length c.read_next.new.room = scene_fits c.in_ok-n.ensures.fits c.in-Some.is in
    let long = c.read_next.auto.room ∙ length-replicate {A = ℕ} room 0 in
    IfOk-weaker c.print_text.result _ _ (λ n is. scene_came _ _ _ _ _ fits long is) c.print_text.ensures

pub returns-in-Some-clause-left : goal.returns-in-Some-clause-left
returns-in-Some-clause-left g c =
    gives_within _ _ _ (4 + room) c.in_ok-n.ensures.left (omega (arith, length-replicate {A = ℕ} room 0))

pub returns-in-None-clause-next : goal.returns-in-None-clause-next
returns-in-None-clause-next g c = nothing_came _ _ _

pub returns-in-None-clause-left : goal.returns-in-None-clause-left
returns-in-None-clause-left g c =
    gives_within _ _ _ (4 + room) c.in_ok-n.ensures.left (omega (arith, length-replicate {A = ℕ} room 0))
