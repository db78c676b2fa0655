-- `scene_check::contact_list::names` meets its contract: what remains from here is the whole, turn by turn, and is
-- within the bytes; and at contact i there were i looks. Assumes nothing.
use Prim.Native.Nat.{◌+◌, ◌*◌, ◌-◌, ◌≤◌}
use mathlib.Core.Path.{◌≡◌}
use lib.ListN.{length}
use Rattle.scene_check.specs.Walk.{name}
use Rattle.scene_fields.proofs.Walks.{Remains}
use Rattle.scene_check.proofs.contact_list.names.Given as goal

abbrev pub invariant-loop : goal.invariant-loop
invariant-loop l =
    Remains (name l.s l.counts l.w) l.n l.from l.counter l.at × (l.at + l.w * (l.n - l.counter) ≤ length l.s)
    × (l.at ≡ l.from + l.w * l.counter) × (l.looks ≡ l.counter)
