-- A row of a checked block and a checked value table: what the step answers, and what it leaves in the output.
-- Assumes nothing: these are definitions.
use Rattle.rules.specs.declared.answer.Extent.{Extent}
use Rattle.rules.specs.declared.refusal.Refusal.{Refusal}
use Rattle.std.specs.Prelude.{ℕ, ◌+◌, List, leb, Result, Ok, Err}
use Rattle.rules.specs.Choice.{pick}
use Rattle.rules.specs.Walk.{Limits}
use Rattle.rules.specs.ValueTable.{table_value}
use Rattle.rules.specs.Writing.{write_row, Encoded, placed}
use Rattle.rules.specs.Refusals.{NoOutputRoom}
use Rattle.judge.specs.Table.{whole_value}

-- the row, where so much room holds it, or 21 with its bytes and the output position
unfoldable pub output_room_for : ℕ → ℕ → Extent → Result Extent Refusal
output_room_for at room row = pick (leb (at + row.bytes) room) (Ok row) (Err (NoOutputRoom row.bytes at))

-- the table's value, written as a row from a position of the output on
unfoldable pub placed_row : List ℕ → Limits → List ℕ → List ℕ → List ℕ → ℕ → Encoded
placed_row sch lim table store out at = let v = whole_value (table_value table store) in placed v out at (write_row sch lim v)
