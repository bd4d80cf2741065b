-- What the walk that lists a value table asks and leaves.
-- Assumes nothing: these are definitions.
use Rattle.std.specs.Prelude.{ℕ, ◌+◌, ◌-◌, ◌*◌, ◌^◌, ◌≤◌, ◌<◌, ◌≡◌, List, length}
use Rattle.rules.specs.Value.{Value}
use Rattle.rules.specs.ValueTable.{Parsed, tag_at, value_at}
use Rattle.rules.specs.Listing.{lines_of}
use Rattle.judge.specs.Table.{IsWhole, whole_value, whole_end, value_standing_at}
use Rattle.write.specs.declared.put.WritePos.{WritePos}
use Rattle.listing_lines.specs.declared.rows.RowNode.{RowNode}
use Rattle.lines.specs.Puts.{TextPut}

-- a value stands at a record, with `from` payload bytes before it, at most 64 deep, and there is room for its lines from position `to` on
pub record Listable (table store : List ℕ) (depth at from to room : ℕ) : Type 0 where
  pub whole : IsWhole (value_standing_at table store depth at from)
  pub short : length table < 2 ^ 32
  pub small : length store < 2 ^ 32
  pub within : from ≤ length store
  pub shallow : depth ≤ 64
  pub fits : to + (128 * (whole_end (value_standing_at table store depth at from)).at + 2 * (whole_end (value_standing_at table store depth at from)).from) ≤ room + (128 * at + 2 * from)

-- the lines of the value that stands at a record, which is as deep as there are levels above it
unfoldable pub lines_at : List ℕ → List ℕ → ℕ → ℕ → ℕ → ℕ → List ℕ
lines_at table store depth row at from = lines_of row (65 - depth) (tag_at table store at) (whole_value (value_standing_at table store depth at from))

-- its lines are put, and q is past its records, its payload and its lines, which are no longer than their room
pub record Listed (table store : List ℕ) (depth : ℕ) (n : RowNode) (to : ℕ) (q : WritePos) (text text' : List ℕ) : Type 0 where
  pub at_end : q.at ≡ (whole_end (value_standing_at table store depth n.at n.from)).at
  pub from_end : q.from ≡ (whole_end (value_standing_at table store depth n.at n.from)).from
  pub put : TextPut text to (lines_at table store depth n.row n.at n.from) text' q.to
  pub few : q.to + (128 * n.at + 2 * n.from) ≤ to + (128 * q.at + 2 * q.from)

-- the value whose records begin a table
abbrev pub root_value : List ℕ → List ℕ → Parsed Value
root_value table store = value_at table store 64 0 (record { at = 0; from = 0 })

-- one stands there, in slices of at most 4,096 records and 65,536 bytes of payload
pub record RowListable (table store : List ℕ) (room : ℕ) : Type 0 where
  pub whole : IsWhole (root_value table store)
  pub few : length table ≤ 65536
  pub small : length store ≤ 65536
  pub roomy : 655360 ≤ room
