-- `cases_list::read_next` meets its contract: no length, too long a scene, or what is read in front of the room.
-- Assumes nothing.
use Prim.Native.Nat.{◌+◌, ◌*◌}
use mathlib.Core.Path.{sym}
use lib.ListN.{drop, take}
use lib.Seq.{length-take-le}
use Rattle.std.proofs.lemmas.Result.{IfOk-weaker}
use Rattle.std.proofs.Common.{arith, length}
use Rattle.full_reads.proofs.Given.{gives_front, gives_more}
use Rattle.cases_list.specs.Next.{Fits}
use Rattle.cases_list.proofs.Fitting.{fits_whole}
use Rattle.cases_list.proofs.read_next.Goals as goal

pub returns-then-got-lt4-clause-fits : goal.returns-then-got-lt4-clause-fits
unfolding Fits
returns-then-got-lt4-clause-fits g c = tt

pub returns-then-n-room-clause-fits : goal.returns-then-n-room-clause-fits
unfolding Fits
returns-then-n-room-clause-fits g c = tt

pub slice_bounds-read_scene-end-2 : goal.slice_bounds-read_scene-end-2
slice_bounds-read_scene-end-2 g c = sym (length-take-le _ _ c.if-n-room.false)

pub returns-clause-fits : goal.returns-clause-fits
returns-clause-fits g c =
    let n = c.be16.result * 65536 + c.be16-2.result in
    let room = c.args.room.now in
    IfOk-weaker c.read_scene.result _ _ (λ next. fits_whole next c.read_scene.new.scene (drop n room))
    c.read_scene.ensures.fits

pub returns-in_err-got-clause-left : goal.returns-in_err-got-clause-left
returns-in_err-got-clause-left g c =
    let h = c.in_err-got.ensures.err in
    gives_front _ _ h.0 (4 + length c.args.room.now) c.read_full.new.list h.1 (omega (arith, c.read_full.auto.list)) h.2

pub returns-then-got-lt4-clause-left : goal.returns-then-got-lt4-clause-left
returns-then-got-lt4-clause-left g c =
    let h = c.in_ok-got.ensures in
    gives_front _ _ c.in_ok-got.got (4 + length c.args.room.now) c.read_full.new.list h.within
    (omega (arith, c.read_full.auto.list)) h.came

pub returns-then-n-room-clause-left : goal.returns-then-n-room-clause-left
returns-then-n-room-clause-left g c =
    let h = c.in_ok-got.ensures in
    gives_front _ _ c.in_ok-got.got (4 + length c.args.room.now) c.read_full.new.list h.within
    (omega (arith, c.read_full.auto.list)) h.came

pub returns-clause-left : goal.returns-clause-left
returns-clause-left g c =
    let n = c.be16.result * 65536 + c.be16-2.result in
    let room = c.args.room.now in
    let h = c.in_ok-got.ensures in
    gives_more _ _ _ 4 (length (take n room)) (4 + length room)
    (gives_front _ _ c.in_ok-got.got 4 c.read_full.new.list h.within (omega (arith, c.read_full.auto.list)) h.came)
    c.read_scene.ensures.left
    (rw (length-take-le n room c.if-n-room.false) (omega (arith, c.if-n-room.false)))
