-- The columns of a row, put one after another: the root is a tuple, so that its children bear no tag and have no end.
-- Assumes nothing.
use Prim.Native.Nat.{ℕ, ◌+◌, ◌^◌, ◌≤◌, ◌<◌}
use mathlib.Core.Path.{◌≡◌, refl, sym}
use mathlib.Core.List.{List}
use native.Mathlib.Omega.{arith}
use lib.ListN.{length}
use Rattle.rules.specs.Choice.{pick}
use Rattle.rules.specs.Bytes.{over}
use Rattle.rules.specs.Block.{node_at}
use Rattle.rules.specs.ValueRecord.{value_record_at}
use Rattle.leaves.specs.Shapes.{shape_of, as_tuple}
use Rattle.judge.specs.Table.{whole_end, value_standing_at}
use Rattle.judge.specs.Tags.{tag_bytes, closing}
use Rattle.write.specs.Putting.{child_node, put_of, written_at, Writable, Parted, Placed, RowWritable}
use Rattle.write.specs.declared.put.WritePos.{WritePos}
use Rattle.write.proofs.Putting.{Filling, fill_first, placed, sums, may_write, fill_next}
use Rattle.write.proofs.Root.{root_writable}

-- what is left of the columns, put over what stands, makes the row
abbrev pub Columns : (sch table store : List ℕ) (to size : ℕ) → List ℕ → List ℕ → WritePos → ℕ → Type 0
Columns sch table store to size out₀ out q j =
    Filling sch 0 table store as_tuple 63 size (whole_end (value_standing_at table store 64 0 0)) (to + 2) (put_of (written_at sch 0 64 table store 0 0)) out₀ out q j

module _ (sch table store : List ℕ) (to room : ℕ) (k : RowWritable sch table store to room) (size : ℕ) (e : size ≡ (value_record_at table 0).size) where
  parted : Parted sch 0 19 table (record { at = 0; from = 0; to = to + 2 }) size
  parted = record { is = sym k.tuple; compound = omega arith; count = e }

  pub columns_first : (n : ℕ) → n ≡ room → (out : List ℕ) → Columns sch table store to size out out (record { at = 1; from = 0; to = to + 2 }) 0
  unfolding shape_of pick
  columns_first n r out = fill_first sch 0 64 table store _ n (root_writable sch table store to room k n r) 19 size parted out

  module _ (first : ℕ) (f : first ≡ (node_at sch 0).first) {out₀ out : List ℕ} (same : length out₀ ≡ room) {q : WritePos} {j : ℕ} (g : Columns sch table store to size out₀ out q j) where
    -- a turn
    module _ (h : j < size) where
      pub column_sum : length sch < 2 ^ 64 → first + j < 2 ^ 64
      unfolding shape_of pick
      column_sum l = (sums sch 0 64 table store _ room (root_writable sch table store to room k room refl) 19 size parted first f same g h (value_record_at table q.at) refl l).0

      pub column_writable : (n : ℕ) → n ≡ length out → Writable sch (first + j) 63 table store q n
      unfolding shape_of pick child_node tag_bytes
      column_writable n l = may_write sch 0 64 table store _ room (root_writable sch table store to room k room refl) 19 size parted first f same g h (value_record_at table q.at) refl (first + j) q.to refl (omega arith) n l

      pub columns_next : (out'' : List ℕ) (r : WritePos) → Placed sch (first + j) 63 table store q r out out'' → Columns sch table store to size out₀ out'' r (j + 1)
      unfolding shape_of pick child_node tag_bytes over
      columns_next out'' r w = fill_next sch 0 64 table store _ room (root_writable sch table store to room k room refl) 19 size parted first f same g h (value_record_at table q.at) refl (first + j) q.to refl (omega arith) out out'' r refl w

    pub columns_end : size ≤ j → Placed sch 0 64 table store (record { at = 0; from = 0; to = to + 2 }) q out₀ out
    unfolding shape_of pick closing over
    columns_end h = placed sch 0 64 table store _ room (root_writable sch table store to room k room refl) 19 size parted first f same g h q.to out (omega arith) refl
