-- An index record in bytes and as it is read; the index of rows, record by record.
-- Assumes nothing.
use Prim.Native.Nat.{ℕ, ◌+◌, ◌^◌, ◌<◌}
use mathlib.Core.Path.{◌≡◌, refl, sym, ◌∙◌}
use mathlib.Core.List.{List, [], ◌∷◌, ◌++◌, append_assoc}
use native.Mathlib.Omega.{arith}
use lib.ListN.{length, length-append}
use Rattle.rules.specs.Bytes.{Bytes, le, le_at, Stands}
use Rattle.rules.specs.Reading.{row_count}
use Rattle.rules.specs.Index.{index_record_size, index_record_start, IndexRecordIn, index_record, indexed_at, index_of, indexed_rows}
use Rattle.rules.specs.declared.answer.RowSpan.{RowSpan}
use Rattle.rules.proofs.Stands.{length-le, stands_left, stands_right, stands_both, stands_le, le_at-stands}

-- a row that a record can hold
pub record Fits (row : RowSpan) : Type 0 where
  pub offset : row.offset < 256 ^ 8
  pub size : row.size < 256 ^ 4
  pub table : row.table < 256 ^ 4

-- each of them can be held
unfoldable pub AllFit : List RowSpan → Type 0
AllFit [] = Unit
AllFit (row ∷ rows) = Fits row × AllFit rows

-- ---- one record

pub length_record : (row : RowSpan) → length (index_record row) ≡ index_record_size
unfolding index_record
length_record row = simp (length-append, length-le)

module _ (s : List ℕ) (i : ℕ) where
  -- a record that stands there is read as it was written
  pub stands_read : (row : RowSpan) → Fits row → Stands s (index_record_start i) (index_record row) → indexed_at s i ≡ row
  unfolding indexed_at index_record
  stands_read row fits st =
      let at = index_record_start i in
      let l : length (le 8 row.offset) ≡ 8 = length-le 8 row.offset in
      let m : length (le 4 row.size) ≡ 4 = length-le 4 row.size in
      let r : Stands s (at + 8) (le 4 row.size ++ le 4 row.table) = rw l at (stands_right s at (le 8 row.offset) (le 4 row.size ++ le 4 row.table) st) in
      let q : Stands s ((at + 8) + 4) (le 4 row.table) = rw m at (stands_right s (at + 8) (le 4 row.size) (le 4 row.table) r) in
      let z : (at + 8) + 4 ≡ at + 12 = omega arith in
      let a = stands_le s at 8 row.offset fits.offset (stands_left s at (le 8 row.offset) (le 4 row.size ++ le 4 row.table) st) in
      let b = stands_le s (at + 8) 4 row.size fits.size (stands_left s (at + 8) (le 4 row.size) (le 4 row.table) r) in
      let c = stands_le s (at + 12) 4 row.table fits.table (rw z at q) in
      rw (a, b, c)

  -- and what is read there stands there
  pub read_stands : Bytes s → IndexRecordIn i (length s) → (row : RowSpan) → indexed_at s i ≡ row → Stands s (index_record_start i) (index_record row)
  unfolding indexed_at index_record
  read_stands bs h row e =
      let at = index_record_start i in
      let l : length (le 8 (le_at s at 8)) ≡ 8 = length-le 8 (le_at s at 8) in
      let m : length (le 4 (le_at s (at + 8) 4)) ≡ 4 = length-le 4 (le_at s (at + 8) 4) in
      let z : (at + 8) + 4 ≡ at + 12 = omega arith in
      let c : Stands s ((at + 8) + 4) (le 4 (le_at s (at + 12) 4)) = rw z (le_at-stands s bs (at + 12) 4 (omega arith)) in
      let b : Stands s (at + 8) (le 4 (le_at s (at + 8) 4) ++ le 4 (le_at s (at + 12) 4)) =
      stands_both s (at + 8) (le 4 (le_at s (at + 8) 4)) (le 4 (le_at s (at + 12) 4)) (le_at-stands s bs (at + 8) 4 (omega arith)) (rw m c) in
      rw (← e) (stands_both s at (le 8 (le_at s at 8)) (le 4 (le_at s (at + 8) 4) ++ le 4 (le_at s (at + 12) 4)) (le_at-stands s bs at 8 (omega arith)) (rw l b))

-- ---- all records

pub length-index : (rows : List RowSpan) → length (index_of rows) ≡ index_record_start (row_count rows)
unfolding index_of row_count
length-index [] = refl
length-index (row ∷ rows) =
    let a = length_record row in
    let b : length (index_of rows) ≡ index_record_start (row_count rows) = length-index rows in
    length-append (index_record row) (index_of rows) ∙ omega (arith, a, b)

pub index_append : (a b : List RowSpan) → index_of (a ++ b) ≡ index_of a ++ index_of b
unfolding index_of
index_append [] b = refl
index_append (row ∷ a) b = rw (index_append a b) (sym (append_assoc (index_record row) (index_of a) (index_of b)))

-- an index that stands from record i on reads as its rows
pub index_reads : (s : List ℕ) (rows : List RowSpan) (i : ℕ) → AllFit rows → Stands s (index_record_start i) (index_of rows) → indexed_rows s i (row_count rows) ≡ rows
unfolding indexed_rows index_of row_count AllFit
index_reads s [] i fits st = refl
index_reads s (row ∷ rows) i fits st =
    let a = stands_read s i row fits.0 (stands_left s (index_record_start i) (index_record row) (index_of rows) st) in
    let z : index_record_start i + length (index_record row) ≡ index_record_start (i + 1) = omega (arith, length_record row) in
    let b = index_reads s rows (i + 1) fits.1 (rw z at (stands_right s (index_record_start i) (index_record row) (index_of rows) st)) in
    rw (a, b)
