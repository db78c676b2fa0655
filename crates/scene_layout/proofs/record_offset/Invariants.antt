-- `scene_layout::record_offset` meets its contract: record by record, with the records that are left within the bytes.
-- Assumes nothing.
use Rattle.scene_format.specs.Format.{next_record}
use Rattle.scene_format.specs.Within.{RecordWithin}
use Rattle.scene_fields.proofs.Walks.{Ahead}
use Rattle.scene_layout.proofs.record_offset.Given as goal

abbrev pub invariant-loop : goal.invariant-loop
invariant-loop l =
    Ahead (next_record l.kind l.s l.head) (RecordWithin l.kind l.s l.head) l.j l.initial.at l.counter l.at
