-- `scene_check::walk_names::model_names` meets its contract: what remains from here is the whole, record by record,
-- with the records that are left within the bytes. Assumes nothing.
use Rattle.scene_check.specs.Walk.{record_names_of}
use Rattle.scene_format.specs.Format.{next_record}
use Rattle.scene_format.specs.Within.{RecordWithin}
use Rattle.scene_fields.proofs.Walks.{Remains, Ahead}
use Rattle.scene_check.proofs.walk_names.model_names.Given as goal

abbrev pub invariant-loop : goal.invariant-loop
invariant-loop l =
    Remains (record_names_of l.kind l.s l.head) l.end l.initial.at l.counter l.at
    × Ahead (next_record l.kind l.s l.head) (RecordWithin l.kind l.s l.head) l.end l.initial.at l.counter l.at
