-- `scene_layout::record_offset` meets its contract: record by record, with the records that are left within the bytes.
-- Assumes nothing.
use mathlib.Core.Path.{◌∙◌}
use native.Mathlib.Omega.{arith}
use Rattle.scene_fields.proofs.Walks.{none_stepped, one_more_stepped, holds_here, all_stepped}
use Rattle.scene_layout.proofs.record_offset.Goals as goal

pub loop-init : goal.loop-init
loop-init c =
    let p = c.requires in
    none_stepped (rw c.first_record-at.ensures (λ i l. p.0.records i (omega (arith, p.1))))

pub next_record-at-requires : goal.next_record-at-requires
next_record-at-requires c = holds_here c.loop.invariant c.loop-test.true

pub loop-preserved : goal.loop-preserved
loop-preserved c = one_more_stepped c.loop.invariant c.loop-test.true c.next_record-at.ensures

pub returns : goal.returns
returns c =
    all_stepped c.loop.invariant c.loop-test.false ∙ rw c.first_record-at.ensures
