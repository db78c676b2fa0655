-- `scene_fields::fields::plain` meets its contract: present or not. Assumes nothing.
use Prim.Native.Nat.{◌+◌, ◌≤◌, ◌<◌}
use mathlib.Core.Path.{sym}
use native.Mathlib.Omega.{arith}
use lib.ListN.{length}
use Rattle.scene_fields.specs.Fields.{plain}
use Rattle.scene_fields.proofs.Walks.{plain_there, field_missing}
use Rattle.scene_fields.proofs.fields.plain.Goals as goal
use Rattle.scene_fields.proofs.fields.plain.Goals.{else-k-s-via-then-k-s+else-at-s, else-k-s-via-else-k-s}

pub returns-then-at-s : goal.returns-then-at-s
returns-then-at-s c =
    let a = c.args in
    let h : a.at + a.k ≤ length a.s.now = omega arith in
    sym (plain_there _ _ _ h)

pub returns : goal.returns
unfolding plain
returns c =
    let a = c.args in
    let h : length a.s.now < a.at + a.k = elim c.else-k-s.branch [
      | else-k-s-via-then-k-s+else-at-s w ↦ omega arith
      | else-k-s-via-else-k-s w ↦ omega arith
    ] in
    sym (field_missing _ _ _ _ h)
