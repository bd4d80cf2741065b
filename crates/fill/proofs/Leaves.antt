-- Nodes without children: what was read is there, and its record and its payload are what the code writes.
-- Assumes nothing.
use Prim.Native.Nat.{ℕ, ◌+◌, ◌-◌, ◌≤◌, ◌<◌}
use mathlib.Core.Path.{◌≡◌, refl, sym}
use mathlib.Core.Bool.{Bool, true, false}
use mathlib.Core.List.{List, [], ◌∷◌, append-nil}
use native.Mathlib.Omega.{arith}
use native.Mathlib.Nat.{add-zero}
use borrow.Author.Tests.{eqb-true, ltb-true, leb-true, ne_eqb}
use lib.Dec.{ltb, leb, eqb}
use lib.ListN.{length}
use Rattle.rules.specs.Choice.{pick, ◌and◌, all}
use Rattle.rules.specs.Bytes.{le_at, part, over}
use Rattle.rules.specs.Wire.{Form, empty, truth, fixed, raw, sized, variant_form, repeated_form, tuple_form, unknown, form, width_of, wire_types, type_in, type_of, written, written_if}
use Rattle.rules.specs.Value.{tally, records_of, payload_of}
use Rattle.rules.specs.ValueRecord.{value_record_start, ValueRecordIn, value_record, layout, layouts}
use Rattle.rules.specs.ValueTable.{bit, payload_bytes, value_kind, size_of, content_of, head_of, below, heads, flat}
use Rattle.rules.specs.declared.table_record.ValueRecord.{ValueRecord}
use Rattle.rules.proofs.Tests.{all_each, and_both, false_not}
use Rattle.rules.proofs.Over.{over_none}
use Rattle.rules.proofs.Stands.{length_part}
use Rattle.fill.specs.declared.FillPos.{FillPos}
use Rattle.fill.specs.Plain.{IsGot, value_read, end_read, leaf_at}
use Rattle.fill.specs.Filling.{RoomToFill, past_filled, Filled, scalar_of}
use Rattle.leaves.proofs.Codes.{form_sized}
use Rattle.fill.proofs.Got.{number_got, bytes_got}

-- ---- scalars

-- the codes below 13: 0 is nothing, 1 is a boolean, and what is no number in eight bytes is wider
unfoldable scalar_code : Form → ℕ → Bool
scalar_code empty k = eqb k 0
scalar_code truth k = eqb k 1
scalar_code (fixed w) k = ltb 1 k and leb w 8
scalar_code (raw w) k = ltb 8 w
scalar_code sized k = false
scalar_code (variant_form w) k = false
scalar_code (repeated_form w) k = false
scalar_code tuple_form k = false
scalar_code unknown k = false

scalar_code_lem : (code : ℕ) → code < 13 → scalar_code (form code) code ≡ true
unfolding scalar_code all ◌and◌ wire_types type_in type_of written written_if form
scalar_code_lem code h = all_each (λ i. scalar_code (form i) i) 13 code refl h

module _ (inp : List ℕ) (code at : ℕ) where
  -- a value that its record holds
  pub record Narrow (f : Form) : Type 0 where
    pub there : width_of f ≤ length inp - at
    pub ends : end_read (leaf_at inp code f at) ≡ at + width_of f
    pub table : (tag p : ℕ) → heads (value_read (leaf_at inp code f at)) tag p ≡ value_record code tag 0 (scalar_of inp code (width_of f) at) ∷ []
    pub one : records_of (value_read (leaf_at inp code f at)) ≡ 1
    pub load : payload_of (value_read (leaf_at inp code f at)) ≡ 0
    pub bytes : payload_bytes (value_read (leaf_at inp code f at)) ≡ []

  narrow_form : (f : Form) → scalar_code f code ≡ true → width_of f ≤ 8 → IsGot (leaf_at inp code f at) → Narrow f
  unfolding scalar_code leaf_at width_of scalar_of pick le_at value_read end_read heads head_of value_kind size_of content_of below payload_bytes records_of payload_of tally
  narrow_form empty c l h =
      let e : code ≡ 0 = eqb-true code 0 c in
      record { there = omega arith; ends = omega arith; table = λ tag p. rw e; one = refl; load = refl; bytes = refl }
  narrow_form truth c l h =
      let e : code ≡ 1 = eqb-true code 1 c in
      let g = number_got inp 1 at _ h in
      record { there = g.0; ends = rw g.1; table = λ tag p. rw (g.1, e); one = rw g.1; load = rw g.1; bytes = rw g.1 }
  narrow_form (fixed w) c l h =
      let e : eqb code 1 ≡ false = ne_eqb code 1 (λ q. omega (arith, ltb-true 1 code (and_both _ _ c).0)) in
      let g = number_got inp w at _ h in
      record { there = g.0; ends = rw g.1; table = λ tag p. rw (g.1, e); one = rw g.1; load = rw g.1; bytes = rw g.1 }
  narrow_form (raw w) c l h = absurd (omega (arith, ltb-true 8 w c))
  narrow_form sized c l h = false_not c
  narrow_form (variant_form w) c l h = false_not c
  narrow_form (repeated_form w) c l h = false_not c
  narrow_form tuple_form c l h = false_not c
  narrow_form unknown c l h = false_not c

  narrow : code ≤ 12 → width_of (form code) ≤ 8 → IsGot (leaf_at inp code (form code) at) → Narrow (form code)
  narrow c l h = narrow_form (form code) (scalar_code_lem code (omega arith)) l h

  -- ---- values whose n bytes from a position on are payload
  pub record Stored (f : Form) (from n : ℕ) : Type 0 where
    pub there : from + n ≤ length inp
    pub ends : end_read (leaf_at inp code f at) ≡ from + n
    pub table : (tag p : ℕ) → heads (value_read (leaf_at inp code f at)) tag p ≡ value_record code tag n p ∷ []
    pub one : records_of (value_read (leaf_at inp code f at)) ≡ 1
    pub load : payload_of (value_read (leaf_at inp code f at)) ≡ n
    pub bytes : payload_bytes (value_read (leaf_at inp code f at)) ≡ part inp from n

  wide_form : (f : Form) → scalar_code f code ≡ true → 8 < width_of f → IsGot (leaf_at inp code f at) → Stored f at (width_of f)
  unfolding scalar_code leaf_at width_of value_read end_read heads head_of value_kind size_of content_of below payload_bytes records_of payload_of tally
  wide_form empty c l h = absurd (omega arith)
  wide_form truth c l h = absurd (omega arith)
  wide_form (fixed w) c l h = absurd (omega (arith, leb-true w 8 (and_both _ _ c).1))
  wide_form (raw w) c l h =
      let g = bytes_got inp w at _ h in
      let n = length_part inp at w in
      record { there = omega (arith, g.0); ends = rw g.1; table = λ tag p. rw (g.1, n); one = rw g.1 (omega arith); load = rw g.1 (omega (arith, n)); bytes = rw g.1 }
  wide_form sized c l h = false_not c
  wide_form (variant_form w) c l h = false_not c
  wide_form (repeated_form w) c l h = false_not c
  wide_form tuple_form c l h = false_not c
  wide_form unknown c l h = false_not c

  wide_stored : code ≤ 12 → 8 < width_of (form code) → IsGot (leaf_at inp code (form code) at) → Stored (form code) at (width_of (form code))
  wide_stored c l h = wide_form (form code) (scalar_code_lem code (omega arith)) l h

  blob_form : IsGot (leaf_at inp code sized at) → Stored sized (at + 4) (le_at inp at 4)
  unfolding leaf_at value_read end_read heads head_of value_kind size_of content_of below payload_bytes records_of payload_of tally
  blob_form h =
      let a = number_got inp 4 at _ h in
      let b = bytes_got inp (le_at inp at 4) (at + 4) _ (rw a.1 at h) in
      let n = length_part inp (at + 4) (le_at inp at 4) in
      record { there = omega (arith, a.0, b.0); ends = rw (a.1, b.1); table = λ tag p. rw (a.1, b.1, n); one = rw (a.1, b.1) (omega arith); load = rw (a.1, b.1) (omega (arith, n)); bytes = rw (a.1, b.1) }

  blob_stored : 12 < code → code < 15 → IsGot (leaf_at inp code (form code) at) → Stored (form code) (at + 4) (le_at inp at 4)
  blob_stored g l h = let e = form_sized code g l in rw e (blob_form (rw e at h))

-- no bytes hold 0, whatever the code
pub nothing_scalar : (inp : List ℕ) (code w at : ℕ) → w ≡ 0 → 0 ≡ scalar_of inp code w at
unfolding scalar_of le_at
nothing_scalar inp code w at e = rw e (by (eqb code 1))
  where
    by : (b : Bool) → 0 ≡ pick b (bit (ltb 0 0)) 0
    by true = unfold pick bit in refl
    by false = unfold pick in refl

-- ---- what is written is the value's table

-- the bytes of a record alone
one_layout : (r : ValueRecord) → layouts (r ∷ []) ≡ layout r
unfolding layouts
one_layout r = append-nil (layout r)

module _ (inp : List ℕ) (code : ℕ) (s : FillPos) (f : Form) where
  narrow_room : (n m : ℕ) → Narrow inp code s.at f → RoomToFill (leaf_at inp code f s.at) s n m → ValueRecordIn s.records n
  narrow_room n m k r = omega (arith, rw k.one at r.records)

  narrow_fills : (tag w x : ℕ) (rs rs' ps : List ℕ) → Narrow inp code s.at f → w ≡ width_of f → x ≡ scalar_of inp code w s.at → rs' ≡ over rs (value_record_start s.records) (layout (value_record code tag 0 x)) →
      Filled (leaf_at inp code f s.at) tag s (record { at = s.at + w; records = s.records + 1; payload = s.payload }) rs rs' ps ps
  unfolding past_filled flat
  narrow_fills tag w x rs rs' ps k e d h = record {
    spot = rw (k.ends, k.one, k.load, e, add-zero s.payload);
    records = rw (k.table tag s.payload, ← e, ← d, one_layout) h;
    payload = rw k.bytes (sym (over_none ps s.payload));
  }

  -- room for a record and k payload bytes, which stand from a position on
  abbrev StoredHeld : ℕ → ℕ → ℕ → ℕ → Type 0
  StoredHeld from k n m = (from + k ≤ length inp) × (ValueRecordIn s.records n) × (s.payload + k ≤ m)

  -- such a record and those bytes are what fills it
  abbrev StoredFills : ℕ → ℕ → Type 0
  StoredFills from k = (tag : ℕ) (q : FillPos) (rs rs' ps ps' : List ℕ) → q ≡ record { at = from + k; records = s.records + 1; payload = s.payload + k } →
      rs' ≡ over rs (value_record_start s.records) (layout (value_record code tag k s.payload)) → ps' ≡ over ps s.payload (part inp from k) →
      Filled (leaf_at inp code f s.at) tag s q rs rs' ps ps'

  module _ (from k : ℕ) (is : Stored inp code s.at f from k) where
    stored_room : (n m : ℕ) → RoomToFill (leaf_at inp code f s.at) s n m → StoredHeld from k n m
    stored_room n m r = (is.there, omega (arith, rw is.one at r.records), rw is.load at r.payload)

    stored_fills : StoredFills from k
    unfolding past_filled flat
    stored_fills tag q rs rs' ps ps' e g h = record {
      spot = rw (is.ends, is.one, is.load) e;
      records = rw (is.table tag s.payload, one_layout) g;
      payload = rw is.bytes h;
    }

-- ---- a leaf that was read and has room: its bytes are there, and what the code writes fills it

module _ (inp : List ℕ) (code : ℕ) (s : FillPos) (n m : ℕ) (k : (code < 15) × RoomToFill (leaf_at inp code (form code) s.at) s n m) where
  -- in its record alone
  module _ (l : code ≤ 12) (w : ℕ) (is : w ≡ width_of (form code)) (h : w ≤ 8) where
    narrow_read : Narrow inp code s.at (form code)
    narrow_read = narrow inp code s.at l (rw is at h) k.1.is

    pub narrow_held : (w ≤ length inp - s.at) × ValueRecordIn s.records n
    narrow_held = (rw is narrow_read.there, narrow_room inp code s (form code) n m narrow_read k.1)

    pub narrow_filled : (tag x : ℕ) (rs rs' ps : List ℕ) → x ≡ scalar_of inp code w s.at → rs' ≡ over rs (value_record_start s.records) (layout (value_record code tag 0 x)) →
        Filled (leaf_at inp code (form code) s.at) tag s (record { at = s.at + w; records = s.records + 1; payload = s.payload }) rs rs' ps ps
    narrow_filled tag x rs rs' ps = narrow_fills inp code s (form code) tag w x rs rs' ps narrow_read is

  -- and with payload
  module _ (l : code ≤ 12) (w : ℕ) (is : w ≡ width_of (form code)) (h : 8 < w) where
    wide_read : Stored inp code s.at (form code) s.at w
    wide_read = rw is (wide_stored inp code s.at l (rw is at h) k.1.is)

    pub wide_held : StoredHeld inp code s (form code) s.at w n m
    wide_held = stored_room inp code s (form code) s.at w wide_read n m k.1

    pub wide_filled : StoredFills inp code s (form code) s.at w
    wide_filled = stored_fills inp code s (form code) s.at w wide_read

  module _ (l : 12 < code) (b : ℕ) (is : b ≡ le_at inp s.at 4) where
    blob_read : Stored inp code s.at (form code) (s.at + 4) b
    blob_read = rw is (blob_stored inp code s.at l k.0 k.1.is)

    pub blob_held : StoredHeld inp code s (form code) (s.at + 4) b n m
    blob_held = stored_room inp code s (form code) (s.at + 4) b blob_read n m k.1

    pub blob_filled : StoredFills inp code s (form code) (s.at + 4) b
    blob_filled = stored_fills inp code s (form code) (s.at + 4) b blob_read
