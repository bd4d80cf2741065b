-- What the walk that writes leaves: the bytes of the value's writing, over what stood there.
-- Assumes nothing: these are definitions.
use Rattle.std.specs.Prelude.{ℕ, ◌+◌, ◌^◌, ◌≤◌, ◌<◌, ◌≡◌, List, [], ◌++◌, length, ltb, leb}
use Rattle.rules.specs.Choice.{pick}
use Rattle.rules.specs.Bytes.{le, part, over}
use Rattle.rules.specs.Wire.{form, width_of}
use Rattle.rules.specs.Block.{node_at}
use Rattle.rules.specs.Walk.{Limits}
use Rattle.rules.specs.Reading.{largest_limit}
use Rattle.rules.specs.ValueRecord.{value_record_at}
use Rattle.rules.specs.ValueTable.{table_value}
use Rattle.rules.specs.Writing.{Wrote, Put, Refused, write, write_row}
use Rattle.leaves.specs.Fields.{payload_of_fixed}
use Rattle.leaves.specs.Shapes.{Shape, as_variant, as_repeated, as_tuple}
use Rattle.read.specs.Ready.{HasNode, SoundNodes}
use Rattle.judge.specs.Table.{IsWhole, whole_value, whole_end, value_standing_at}
use Rattle.write.specs.declared.put.WritePos.{WritePos}

-- ---- steps

-- the child after i others, whose record bears a tag
unfoldable pub child_node : Shape → ℕ → ℕ → ℕ → ℕ
child_node (as_variant w) first i tag = first + tag
child_node (as_repeated w) first i tag = first + tag
child_node as_tuple first i tag = first + i

-- a value without children: its payload bytes, the row's bytes for it, and these
unfoldable pub leaf_kept : ℕ → ℕ → ℕ
leaf_kept code size = pick (ltb code 13) (payload_of_fixed (width_of (form code))) size

unfoldable pub leaf_size : ℕ → ℕ → ℕ
leaf_size code size = pick (ltb code 13) (width_of (form code)) (4 + size)

unfoldable pub leaf_bytes : List ℕ → ℕ → ℕ → ℕ → ℕ → List ℕ
leaf_bytes store code size content from =
    pick (ltb code 13)
    (pick (leb (width_of (form code)) 8) (le (width_of (form code)) content) (part store from (width_of (form code))))
    (le 4 size ++ part store from size)

-- ---- a value

-- bytes were put, and these
unfoldable pub IsPut : Wrote → Type 0
IsPut (Put b) = Unit
IsPut (Refused r) = ⊥

unfoldable pub put_of : Wrote → List ℕ
put_of (Put b) = b
put_of (Refused r) = []

-- limits that refuse no blob of a value table
abbrev pub unlimited : Limits
unlimited = record { charge = 0; string32 = largest_limit; yson32 = largest_limit; row = 0 }

-- the writing of the value that stands at a record, at node i
unfoldable pub written_at : List ℕ → ℕ → ℕ → List ℕ → List ℕ → ℕ → ℕ → Wrote
written_at sch i depth table store at from = write sch unlimited (whole_value (value_standing_at table store depth at from)) i at

-- node i of a sound block, a value that stands in the table and was accepted, and room for its bytes
pub record Writable (sch : List ℕ) (i depth : ℕ) (table store : List ℕ) (p : WritePos) (room : ℕ) : Type 0 where
  pub sound : SoundNodes sch
  pub inside : HasNode sch i
  pub whole : IsWhole (value_standing_at table store depth p.at p.from)
  pub short : length table < 2 ^ 32
  pub within : p.from ≤ length store
  pub accepted : IsPut (written_at sch i depth table store p.at p.from)
  pub fits : p.to + length (put_of (written_at sch i depth table store p.at p.from)) ≤ room

-- a node with children, and how many the value has
pub record Parted (sch : List ℕ) (i code : ℕ) (table : List ℕ) (p : WritePos) (size : ℕ) : Type 0 where
  pub is : code ≡ (node_at sch i).code
  pub compound : 14 < code
  pub count : size ≡ (value_record_at table p.at).size

-- the bytes stand there, over what stood there; q is past them
pub record Placed (sch : List ℕ) (i depth : ℕ) (table store : List ℕ) (p q : WritePos) (out out' : List ℕ) : Type 0 where
  pub at_end : q.at ≡ (whole_end (value_standing_at table store depth p.at p.from)).at
  pub from_end : q.from ≡ (whole_end (value_standing_at table store depth p.at p.from)).from
  pub to_end : q.to ≡ p.to + length (put_of (written_at sch i depth table store p.at p.from))
  pub bytes : out' ≡ over out p.to (put_of (written_at sch i depth table store p.at p.from))

-- ---- a row

-- the bytes of the table's value as a row
unfoldable pub row_bytes : List ℕ → List ℕ → List ℕ → List ℕ
row_bytes sch table store = put_of (write_row sch unlimited (whole_value (table_value table store)))

-- a sound block whose root is a tuple, a value table whose form and whose row were accepted, and room for the row
pub record RowWritable (sch table store : List ℕ) (at room : ℕ) : Type 0 where
  pub sound : SoundNodes sch
  pub root : HasNode sch 0
  pub tuple : (node_at sch 0).code ≡ 19
  pub whole : IsWhole (table_value table store)
  pub short : length table < 2 ^ 32
  pub accepted : IsPut (write_row sch unlimited (whole_value (table_value table store)))
  pub fits : at + length (row_bytes sch table store) ≤ room
