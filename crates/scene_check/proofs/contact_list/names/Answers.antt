-- `scene_check::contact_list::names` meets its contract: what remains from here is the whole, turn by turn, and is
-- within the bytes; and at contact i there were i looks. Assumes nothing.
use Prim.Native.Nat.{ℕ, suc, ◌+◌, ◌*◌, ◌-◌, ◌≤◌, ◌<◌}
use mathlib.Core.Path.{◌≡◌, refl}
use native.Mathlib.Nat.{sub-zero, add-zero, one-mul, mul-zero, mul-suc, mul-le-mul_right}
use native.Mathlib.Omega.{arith}
use lib.ListN.{length}
use borrow.Author.Tests.{le-leb, lt-leb}
use Rattle.lists.specs.Lists.{choose}
use Rattle.scene_fields.specs.Fields.{refused_if}
use Rattle.scene_check.specs.Walk.{name, names}
use Rattle.scene_fields.proofs.Walks.{none_done, one_more_done, turn_refused, all_done}
use Rattle.scene_check.proofs.Looks.{all_looked, looked_up_to}
use Rattle.scene_check.proofs.contact_list.names.Goals as goal
use Rattle.scene_check.proofs.contact_list.names.Goals.{In-loop}

-- one contact and the rest
one_and_rest : (w n i : ℕ) → i < n → w * (n - i) ≡ w * (n - (i + 1)) + w
one_and_rest w n i h = let e : n - i ≡ suc (n - (i + 1)) = omega arith in rw (e, mul-suc)

-- the contact at hand and those behind it end within the bytes
room : (c : In-loop) → let a = c.args in
    c.loop.at + a.w + a.w * (a.n - (c.loop.counter + 1)) ≤ length a.s.now
room c =
    let a = c.args in
    omega (arith, c.loop.invariant.1, one_and_rest a.w a.n c.loop.counter c.loop-test.true)

pub loop-init : goal.loop-init
loop-init c = (none_done, rw sub-zero c.requires.1, rw (mul-zero, add-zero), refl)

pub look-seen-requires : goal.look-seen-requires
look-seen-requires c =
    let within = room (goal.at.look-seen-requires c).In-loop in
    let p = c.requires in
    let a = c.args in
    let few : 1 * a.n ≤ a.w * a.n = mul-le-mul_right a.n (omega (arith, p.0)) in
    (omega (arith, within), omega (arith, few, one-mul a.n, p.1, c.loop.invariant.3, c.loop-test.true))

pub returns-then-counts-model : goal.returns-then-counts-model
unfolding names name refused_if choose
returns-then-counts-model c =
    let l = c.loop in
    let e = c.look-seen.ensures in
    looked_up_to _ _ _ _ _ c.requires.0
    (turn_refused l.invariant.0 c.loop-test.true
    (rw (← e.0.model, ← e.0.particle, le-leb _ _ c.if-counts-model.true)) refl)
    _ l.invariant.2 (rw (← l.invariant.3) e.1)

pub overflow_add-at : goal.overflow_add-at
overflow_add-at c =
    omega (arith, room (goal.at.overflow_add-at c).In-loop)

pub loop-preserved : goal.loop-preserved
unfolding name refused_if choose
loop-preserved c =
    let within = room (goal.at.loop-preserved c).In-loop in
    let l = c.loop in
    let e = c.look-seen.ensures in (
      one_more_done l.invariant.0 c.loop-test.true
          (rw (← e.0.model, ← e.0.particle, lt-leb _ _ c.if-counts-model.false)) refl,
      within,
      omega (arith, l.invariant.2, mul-suc c.args.w l.counter),
      rw (← l.invariant.3) e.1,
    )

pub returns : goal.returns
unfolding names
returns c =
    let l = c.loop in
    all_looked _ _ _ _ _ (all_done l.invariant.0 c.loop-test.false)
    (omega (arith, l.invariant.0.within, l.invariant.3, c.loop-test.false))
