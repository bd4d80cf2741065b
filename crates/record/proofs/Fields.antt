-- Value records and index records are written field by field; how many index records bytes are.
-- Assumes nothing.
use Prim.Native.Nat.{ℕ, ◌+◌, ◌/◌, ◌%◌, ◌<◌}
use mathlib.Core.Path.{◌≡◌, refl, sym}
use mathlib.Core.Bool.{Bool, true, false}
use mathlib.Core.List.{List, [], ◌∷◌, ◌++◌, append_assoc}
use native.Mathlib.Omega.{arith}
use borrow.Author.Tests.{eqb-true, eqb-false, eq-eqb, ne_eqb}
use lib.Dec.{eqb}
use lib.ListN.{length, length-append}
use Rattle.rules.specs.Bytes.{le, over}
use Rattle.rules.specs.ValueRecord.{value_record, layout}
use Rattle.rules.specs.Index.{index_record_size, index_record_start, index_record}
use Rattle.rules.specs.declared.answer.RowSpan.{RowSpan}
use Rattle.rules.proofs.Over.{over-at}
use Rattle.rules.proofs.Stands.{length-le}

-- a byte and a zero, as a number in two bytes
byte_zero : (x : ℕ) → x < 256 → le 2 x ≡ x ∷ 0 ∷ []
unfolding le
byte_zero x h =
    let e : x % 256 ≡ x = omega arith in
    let f : x / 256 ≡ 0 = omega arith in
    rw (e, f)

-- the fields of a record, one after the other
pub record_fields : (s : List ℕ) (at kind tag size x : ℕ) → kind < 256 → over (over (over (over s at (le 2 kind)) (at + 2) (le 2 tag)) (at + 4) (le 4 size)) (at + 8) (le 8 x) ≡ over s at (layout (value_record kind tag size x))
unfolding layout
record_fields s at kind tag size x h =
    let a : length (le 2 kind) ≡ 2 = length-le 2 kind in
    let b : length (le 2 kind ++ le 2 tag) ≡ 4 = simp (length-append, length-le) in
    let c : length ((le 2 kind ++ le 2 tag) ++ le 4 size) ≡ 8 = simp (length-append, length-le) in
    rw (over-at (le 2 kind) (le 2 tag) s at (at + 2) (omega arith), over-at (le 2 kind ++ le 2 tag) (le 4 size) s at (at + 4) (omega arith), over-at ((le 2 kind ++ le 2 tag) ++ le 4 size) (le 8 x) s at (at + 8) (omega arith), byte_zero kind h) (simp append_assoc)

-- the fields of an index record, one after the other
pub index_record_fields : (s : List ℕ) (at : ℕ) (row : RowSpan) → over (over (over s at (le 8 row.offset)) (at + 8) (le 4 row.size)) (at + 12) (le 4 row.table) ≡ over s at (index_record row)
unfolding index_record
index_record_fields s at row =
    let a : length (le 8 row.offset) ≡ 8 = length-le 8 row.offset in
    let b : length (le 8 row.offset ++ le 4 row.size) ≡ 12 = simp (length-append, length-le) in
    rw (over-at (le 8 row.offset) (le 4 row.size) s at (at + 8) (omega arith), over-at (le 8 row.offset ++ le 4 row.size) (le 4 row.table) s at (at + 12) (omega arith)) (simp append_assoc)

-- so many bytes are n records: as many are whole, and nothing is left
pub whole_index : (bytes n : ℕ) → bytes / index_record_size ≡ n → eqb (bytes % index_record_size) 0 ≡ eqb bytes (index_record_start n)
whole_index bytes n e = by (eqb (bytes % index_record_size) 0) refl
  where
    by : (b : Bool) → eqb (bytes % index_record_size) 0 ≡ b → b ≡ eqb bytes (index_record_start n)
    by true q = let z = eqb-true (bytes % index_record_size) 0 q in sym (eq-eqb bytes (index_record_start n) (omega (arith, z, e)))
    by false q = sym (ne_eqb bytes (index_record_start n) (λ z. eqb-false (bytes % index_record_size) 0 q (omega (arith, z))))

pub other_index : (bytes n : ℕ) → (bytes / index_record_size ≡ n → ⊥) → false ≡ eqb bytes (index_record_start n)
other_index bytes n e = sym (ne_eqb bytes (index_record_start n) (λ z. e (omega (arith, z))))
