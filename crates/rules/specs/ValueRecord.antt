-- A value record: its size, its fields, its bytes, and how one is found and read in a table. Nothing else knows the size or where a field lies.
-- Assumes nothing: these are definitions.
use Rattle.std.specs.Prelude.{ℕ, ◌+◌, ◌*◌, ◌/◌, ◌%◌, ◌≤◌, Bool, List, [], ◌∷◌, ◌++◌, length, get_or, leb, eqb}
use Rattle.rules.specs.Choice.{◌and◌}
use Rattle.rules.specs.Bytes.{le, le_at, part, order, is_equal}
use Rattle.rules.specs.declared.table_record.ValueRecord.{ValueRecord}

-- a record's bytes
abbrev pub value_record_size : ℕ
value_record_size = 16

-- where record i starts, and so how many bytes i records have
abbrev pub value_record_start : ℕ → ℕ
value_record_start i = i * value_record_size

-- how many whole records so many bytes hold
abbrev pub value_records_in : ℕ → ℕ
value_records_in bytes = bytes / value_record_size

-- so many bytes are whole records
abbrev pub whole_value_records : ℕ → Bool
whole_value_records bytes = eqb (bytes % value_record_size) 0

-- record i lies in so many bytes
abbrev pub ValueRecordIn : ℕ → ℕ → Type 0
ValueRecordIn i bytes = value_record_start i + value_record_size ≤ bytes

-- the record of these fields
abbrev pub value_record : ℕ → ℕ → ℕ → ℕ → ValueRecord
value_record kind tag size content = record { kind = kind; spare = 0; tag = tag; size = size; content = content }

-- byte 0 kind; byte 1 zero; 2..3 the tag by which the parent chose the node; 4..7 child count or payload length; 8..15 payload start or wire bytes
unfoldable pub layout : ValueRecord → List ℕ
layout r = r.kind ∷ r.spare ∷ (le 2 r.tag ++ (le 4 r.size ++ le 8 r.content))

-- the bytes of records, one after another
unfoldable pub layouts : List ValueRecord → List ℕ
layouts [] = []
layouts (r ∷ rs) = layout r ++ layouts rs

-- record i of a table, as it is read
unfoldable pub value_record_at : List ℕ → ℕ → ValueRecord
value_record_at table i = record {
  kind = get_or table (value_record_start i) 0;
  spare = get_or table (value_record_start i + 1) 0;
  tag = le_at table (value_record_start i + 2) 2;
  size = le_at table (value_record_start i + 4) 4;
  content = le_at table (value_record_start i + 8) 8;
}

-- record i is there, and is r
unfoldable pub is_record : List ℕ → ℕ → ValueRecord → Bool
is_record table i r = leb (value_record_start i + value_record_size) (length table) and is_equal (order (part table (value_record_start i) value_record_size) (layout r))
