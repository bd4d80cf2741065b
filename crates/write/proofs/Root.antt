-- The row that is written_at: the table's tag, and the value of the whole table at the block's root.
-- Assumes nothing.
use Prim.Native.Nat.{ℕ, ◌+◌, ◌≤◌}
use mathlib.Core.Path.{◌≡◌, refl, ap, ◌∙◌}
use mathlib.Core.List.{List, ◌++◌}
use native.Mathlib.Omega.{arith}
use lib.ListN.{length, length-append}
use Rattle.rules.specs.Bytes.{le, over}
use Rattle.rules.specs.Block.{node_at}
use Rattle.rules.specs.ValueRecord.{value_record_at, ValueRecordIn}
use Rattle.rules.specs.ValueTable.{table_value}
use Rattle.rules.specs.declared.table_record.ValueRecord.{ValueRecord}
use Rattle.rules.specs.Writing as rule
use Rattle.rules.specs.Writing.{Wrote, Put, ◌>>=◌, write_row}
use Rattle.rules.proofs.Over.{over-at}
use Rattle.rules.proofs.Stands.{length-le}
use Rattle.judge.specs.Table.{value_standing_at}
use Rattle.judge.proofs.Standing.{stands, inside}
use Rattle.judge.proofs.Root.{table_stands}
use Rattle.write.specs.Putting.{IsPut, put_of, written_at, Writable, Parted, Placed, RowWritable, row_bytes}
use Rattle.write.specs.declared.put.WritePos.{WritePos}

-- the table's tag, and then the value
row_put : (y : Wrote) → IsPut (y >>= (λ x. Put (le 2 0 ++ x))) → IsPut y × (put_of (y >>= (λ x. Put (le 2 0 ++ x))) ≡ le 2 0 ++ put_of y)
unfolding IsPut put_of ◌>>=◌
row_put (Put b) h = (tt, refl)
row_put (rule.Refused r) h = absurd h

module _ (sch table store : List ℕ) (to room : ℕ) (k : RowWritable sch table store to room) where
  whole_stands : value_standing_at table store 64 0 0 ≡ table_value table store
  whole_stands = table_stands table store (omega (arith, k.short)) k.whole

  parts : IsPut (written_at sch 0 64 table store 0 0) × (row_bytes sch table store ≡ le 2 0 ++ put_of (written_at sch 0 64 table store 0 0))
  unfolding written_at row_bytes write_row
  parts = rw whole_stands (row_put _ k.accepted)

  size : length (row_bytes sch table store) ≡ 2 + length (put_of (written_at sch 0 64 table store 0 0))
  size = ap length parts.1 ∙ simp (length-append, length-le)

  pub tag_fits : to + 2 ≤ room
  tag_fits = omega (arith, size, k.fits)

  pub root_writable : (n : ℕ) → n ≡ room → Writable sch 0 64 table store (record { at = 0; from = 0; to = to + 2 }) n
  root_writable n e = record { sound = k.sound; inside = k.root; whole = rw whole_stands k.whole; short = k.short; within = omega arith; accepted = parts.0; fits = omega (arith, size, k.fits, e) }

  pub root_in : ValueRecordIn 0 (length table)
  root_in = inside table store (omega (arith, k.short)) (stands table store (omega (arith, k.short)) 64 0 0 (omega arith) (rw whole_stands k.whole))

  pub root_parted : (v : ValueRecord) → v ≡ value_record_at table 0 → (code : ℕ) → code ≡ (node_at sch 0).code → Parted sch 0 code table (record { at = 0; from = 0; to = to + 2 }) v.size
  root_parted v m code e = record { is = e; compound = omega (arith, e, k.tuple); count = ap (λ (u : ValueRecord). u.size) m }

  pub row_placed : (q : WritePos) (out out' out'' : List ℕ) → out' ≡ over out to (le 2 0) → Placed sch 0 64 table store (record { at = 0; from = 0; to = to + 2 }) q out' out'' → (q.to ≡ to + length (row_bytes sch table store)) × (out'' ≡ over out to (row_bytes sch table store))
  row_placed q out out' out'' a p = (omega (arith, p.to_end, size), p.bytes ∙ rw (a, parts.1) (over-at (le 2 0) (put_of (written_at sch 0 64 table store 0 0)) out to (to + 2) (rw length-le)))
