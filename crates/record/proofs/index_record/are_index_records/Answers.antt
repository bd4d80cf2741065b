use Rattle.record.proofs.Fields.{whole_index, other_index}
use Rattle.record.proofs.index_record.are_index_records.Goals as goal

pub returns-then-bytes-records : goal.returns-then-bytes-records
returns-then-bytes-records c = other_index _ _ c.if-bytes-records.true

pub returns : goal.returns
returns c = whole_index _ _ c.if-bytes-records.false
