-- The test for a whole record is the test of its fields, in a table of bytes.
-- Assumes nothing.
use Prim.Native.Nat.{ℕ, ◌+◌, ◌^◌, ◌≤◌, ◌<◌}
use mathlib.Core.Path.{◌≡◌, refl, sym}
use mathlib.Core.Bool.{Bool, true, false}
use mathlib.Core.List.{List, ◌++◌}
use native.Mathlib.Omega.{arith}
use native.Mathlib.Nat.{add_assoc}
use borrow.Author.Tests.{lt-ltb, ltb-true, eqb-true, eq-eqb}
use lib.Dec.{ltb, eqb}
use lib.ListN.{length}
use Rattle.rules.specs.Choice.{◌and◌}
use Rattle.rules.specs.Bytes.{Bytes, le, le_at, Stands}
use Rattle.rules.specs.ValueRecord.{value_record_start, value_records_in, layout, value_record_at, is_record}
use Rattle.rules.specs.declared.table_record.ValueRecord.{ValueRecord}
use Rattle.rules.proofs.Tests.{and_both, and_true}
use Rattle.rules.proofs.Stands.{length-le, le_at-stands, stands_both}
use Rattle.value_laws.proofs.Records.{RecordIs, is_record_lem, record_in, kind_is, spare_is, tag_is, size_is, content_is}

-- two tests that follow from each other are one
pub same_test : (a b : Bool) → (a ≡ true → b ≡ true) → (b ≡ true → a ≡ true) → a ≡ b
same_test true true f g = refl
same_test true false f g = sym (f refl)
same_test false true f g = g refl
same_test false false f g = refl

-- field by field; kind, spare byte and tag, then size and content
unfoldable pub is_each : ValueRecord → ValueRecord → Bool
is_each a b = ((eqb a.kind b.kind and eqb a.spare b.spare) and eqb a.tag b.tag) and (eqb a.size b.size and eqb a.content b.content)

module _ (table : List ℕ) (i : ℕ) where
  module _ (bs : Bytes table) where
    field_stands : (at w x : ℕ) → at + w ≤ length table → le_at table at w ≡ x → Stands table at (le w x)
    field_stands at w x l e = rw (← e) (le_at-stands table bs at w l)

    -- what is read of a record stands there
    record_stands : (r : ValueRecord) → i < value_records_in (length table) →
        (value_record_at table i).kind ≡ r.kind → (value_record_at table i).spare ≡ r.spare → (value_record_at table i).tag ≡ r.tag → (value_record_at table i).size ≡ r.size → (value_record_at table i).content ≡ r.content →
        RecordIs table i r
    unfolding RecordIs value_record_at layout Stands
    record_stands r l k s t z c =
        let at = value_record_start i in
        let content = field_stands (at + 8) 8 r.content (omega arith) c in
        let size = stands_both table (at + 4) (le 4 r.size) (le 8 r.content) (field_stands (at + 4) 4 r.size (omega arith) z) (rw (length-le, add_assoc) content) in
        let tag = stands_both table (at + 2) (le 2 r.tag) (le 4 r.size ++ le 8 r.content) (field_stands (at + 2) 2 r.tag (omega arith) t) (rw (length-le, add_assoc) size) in
        ((omega arith, k), ((omega arith, s), rw (add_assoc at 1 1) tag))

    -- a record stands at i just if there is one, and its fields are these
    pub record_test : (r : ValueRecord) → r.tag < 256 ^ 2 → r.size < 256 ^ 4 → r.content < 256 ^ 8 →
        is_record table i r ≡ ltb i (value_records_in (length table)) and is_each (value_record_at table i) r
    unfolding is_each
    record_test r t z c = same_test _ _
        (λ e.
        let h = (is_record_lem table i r).0 e in
        and_true _ _ (lt-ltb i (value_records_in (length table)) (omega (arith, record_in table i r h)))
        (and_true _ _ (and_true _ _ (and_true _ _ (eq-eqb _ _ (kind_is table i r h)) (eq-eqb _ _ (spare_is table i r h))) (eq-eqb _ _ (tag_is table i r h t)))
        (and_true _ _ (eq-eqb _ _ (size_is table i r h z)) (eq-eqb _ _ (content_is table i r h c)))))
        (λ e.
        let p = and_both _ _ e in
        let q = and_both _ _ p.1 in
        let f = and_both _ _ q.0 in
        let g = and_both _ _ f.0 in
        let d = and_both _ _ q.1 in
        (is_record_lem table i r).1 (record_stands r (ltb-true _ _ p.0) (eqb-true _ _ g.0) (eqb-true _ _ g.1) (eqb-true _ _ f.1) (eqb-true _ _ d.0) (eqb-true _ _ d.1)))
