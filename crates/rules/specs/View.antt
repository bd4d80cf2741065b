-- The row view: what a host sees from one record on. Each getter answers 1 for a record that is not there, then 18 for one that is bad by
-- itself, as the query does.
-- Assumes nothing: these are definitions.
use Rattle.rules.specs.declared.refusal.Refusal.{Refusal}
use Rattle.std.specs.Prelude.{ℕ, zero, suc, ◌+◌, ◌-◌, Bool, List, length, ltb, eqb, Result, Ok, Err}
use Rattle.rules.specs.Choice.{pick, ◌and◌}
use Rattle.rules.specs.Refusals.{Setting, BadValueTable}
use Rattle.rules.specs.ValueRecord.{value_records_in, value_record_at}
use Rattle.rules.specs.Query.{record_alone, record_there, record_good, record_seen}
use Rattle.rules.specs.declared.table_record.ValueRecord.{ValueRecord}

-- ---- a record's fields

-- how many children a record has: what is no variant, repeated value or tuple has none
unfoldable pub child_count : ValueRecord → ℕ
child_count r = pick (ltb r.kind 15) 0 r.size

-- a number of a record that was seen
unfoldable pub viewed_of : (ValueRecord → ℕ) → Result ValueRecord Refusal → Result ℕ Refusal
viewed_of number (Ok r) = Ok (number r)
viewed_of number (Err r) = Err r

unfoldable pub kind_rule : List ℕ → ℕ → Result ℕ Refusal
kind_rule table i = viewed_of (λ r. r.kind) (record_seen table i)

-- the tag by which the parent chose the node
unfoldable pub tag_rule : List ℕ → ℕ → Result ℕ Refusal
tag_rule table i = viewed_of (λ r. r.tag) (record_seen table i)

unfoldable pub child_count_rule : List ℕ → ℕ → Result ℕ Refusal
child_count_rule table i = viewed_of child_count (record_seen table i)

-- ---- steps

-- past so many trees from record i on, each record looked at once, with so many records left: each record adds its children to the trees that
-- are still to be passed. 18 where a record is bad by itself, or the trees go on behind the last record.
unfoldable pub past_trees : List ℕ → ℕ → ℕ → ℕ → Result ℕ Refusal
past_trees table zero trees i = pick (eqb trees 0) (Ok i) (Err BadValueTable)
past_trees table (suc left) trees i =
    let r = value_record_at table i in
    pick (eqb trees 0) (Ok i)
    (pick (record_alone r) (past_trees table left ((trees - 1) + child_count r) (i + 1)) (Err BadValueTable))

-- as many as the slice has from record i on
abbrev pub records_from : List ℕ → ℕ → ℕ
records_from table i = value_records_in (length table) - i

-- the record behind the tree of record i
unfoldable pub after_seen : List ℕ → ℕ → Result ValueRecord Refusal → Result ℕ Refusal
after_seen table i (Ok r) = past_trees table (records_from table i) 1 i
after_seen table i (Err r) = Err r

unfoldable pub after_rule : List ℕ → ℕ → Result ℕ Refusal
after_rule table i = after_seen table i (record_seen table i)

-- a record that is there
unfoldable pub if_there : List ℕ → Result ℕ Refusal → Result ℕ Refusal
if_there table (Ok i) = pick (ltb i (value_records_in (length table))) (Ok i) (Err BadValueTable)
if_there table (Err r) = Err r

-- only a tuple has fields, as many as it has children
unfoldable pub has_field : ValueRecord → ℕ → Bool
has_field r k = eqb r.kind 17 and ltb k r.size

-- field k of record i, past the fields before it: 1 where record i is not there or has no field k, then 18 where record i or one that is
-- stepped over is bad by itself, or the step leaves the slice
unfoldable pub field_rule : List ℕ → ℕ → ℕ → Result ℕ Refusal
field_rule table i k =
    pick (record_there table i and has_field (value_record_at table i) k)
    (pick (record_good table i) (if_there table (past_trees table (records_from table (i + 1)) k (i + 1))) (Err BadValueTable))
    (Err Setting)
