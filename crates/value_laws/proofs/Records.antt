-- A value record: how many bytes it has, the test for it, its fields read back, and records one after another.
-- Assumes nothing.
use Rattle.std.specs.declared.cmp.Ordering.{Ordering}
use Prim.Native.Nat.{ℕ, suc, ◌+◌, ◌%◌, ◌^◌, ◌≤◌, ◌<◌}
use mathlib.Core.Path.{◌≡◌, refl, sym, ap, ◌∙◌}
use mathlib.Core.Bool.{Bool, true, false}
use mathlib.Core.List.{List, [], ◌∷◌, ◌++◌, append_assoc}
use mathlib.Core.Logic.{◌↔◌}
use native.Mathlib.Omega.{arith}
use native.Mathlib.Nat.{add-zero, add_assoc}
use borrow.Author.Tests.{le-leb, leb-true, eqb-true, eq-eqb}
use lib.ListN.{length, length-append}
use lib.Dec.{ltb, eqb}
use Rattle.rules.specs.Choice.{pick}
use Rattle.rules.specs.Bytes.{le, part, Stands, order, is_equal}
use Rattle.rules.specs.ValueRecord.{value_record_size, value_record_start, value_records_in, whole_value_records, ValueRecordIn, layout, layouts, value_record_at, is_record}
use Rattle.rules.specs.declared.table_record.ValueRecord.{ValueRecord}
use Rattle.rules.proofs.Tests.{and_both, and_true}
use Rattle.rules.proofs.Stands.{length-le, stands_in, stands_left, stands_right, stands_both, stands_part, part-stands, stands_le, stands_fits, stands_self, stands_whole}

-- equal strings are the same string
pub order_same : (xs ys : List ℕ) → is_equal (order xs ys) ≡ true → xs ≡ ys
unfolding order is_equal pick
order_same [] [] e = refl
order_same [] (y ∷ ys) e = cc
order_same (x ∷ xs) [] e = cc
order_same (x ∷ xs) (y ∷ ys) e = by (eqb x y) refl e (λ h. order_same xs ys h)
  where
    differ : (b : Bool) → is_equal (pick b Ordering.Less Ordering.Greater) ≡ true → x ∷ xs ≡ y ∷ ys
    differ true h = cc
    differ false h = cc

    by : (b : Bool) → eqb x y ≡ b → is_equal (pick b (order xs ys) (pick (ltb x y) Ordering.Less Ordering.Greater)) ≡ true → (is_equal (order xs ys) ≡ true → xs ≡ ys) → x ∷ xs ≡ y ∷ ys
    by true t h k = let a : x ≡ y = eqb-true x y t in let r : xs ≡ ys = k h in cc
    by false t h k = differ (ltb x y) h

-- a string equals itself
pub order_self : (xs : List ℕ) → is_equal (order xs xs) ≡ true
unfolding order is_equal pick
order_self [] = refl
order_self (x ∷ xs) = rw (eq-eqb x x refl) (order_self xs)

-- so many bytes are whole records just if they are the bytes of as many records as they hold
pub whole_records : (n : ℕ) → (whole_value_records n ≡ true) ↔ (n ≡ value_record_start (value_records_in n))
whole_records n = (λ e. omega (arith, eqb-true (n % value_record_size) 0 e), λ e. eq-eqb (n % value_record_size) 0 (omega arith))

-- a record has its bytes
pub length-layout : (r : ValueRecord) → length (layout r) ≡ value_record_size
unfolding layout
length-layout r = simp (length-append, length-le)

-- so have records
pub length-layouts : (rs : List ValueRecord) → length (layouts rs) ≡ value_record_start (length rs)
unfolding layouts
length-layouts [] = refl
length-layouts (r ∷ rs) = length-append (layout r) (layouts rs) ∙ omega (arith, length-layout r, length-layouts rs)

-- the bytes of some records and others after them
pub layouts_append : (rs ss : List ValueRecord) → layouts (rs ++ ss) ≡ layouts rs ++ layouts ss
unfolding layouts
layouts_append [] ss = refl
layouts_append (r ∷ rs) ss = rw (layouts_append rs ss) (sym (append_assoc (layout r) (layouts rs) (layouts ss)))

-- ---- one record

-- record i of the table is r
unfoldable pub RecordIs : List ℕ → ℕ → ValueRecord → Type 0
RecordIs table i r = Stands table (value_record_start i) (layout r)

-- the test says so
pub is_record_lem : (table : List ℕ) (i : ℕ) (r : ValueRecord) → (is_record table i r ≡ true) ↔ RecordIs table i r
unfolding is_record RecordIs
is_record_lem table i r = (
  λ e.
      let p = and_both _ _ e in
      rw (← (order_same (part table (value_record_start i) value_record_size) (layout r) p.1)) (part-stands table (value_record_start i) value_record_size (leb-true _ _ p.0)),
  λ h.
      let e : part table (value_record_start i) value_record_size ≡ layout r = rw (length-layout r) at (stands_part table (value_record_start i) (layout r) h) in
      and_true _ _ (le-leb _ _ (rw (length-layout r) at (stands_in table (value_record_start i) (layout r) h))) (rw e (order_self (layout r))),
)

-- its fields, as they are read. A field that is too large for its bytes is not read back
module _ (table : List ℕ) (i : ℕ) (r : ValueRecord) (h : RecordIs table i r) where
  from_tag : Stands table (value_record_start i + 2) (le 2 r.tag ++ (le 4 r.size ++ le 8 r.content))
  unfolding RecordIs layout Stands
  from_tag = rw (add_assoc (value_record_start i) 1 1) at h.1.1

  from_size : Stands table (value_record_start i + 4) (le 4 r.size ++ le 8 r.content)
  from_size = rw (length-le, add_assoc) at (stands_right table (value_record_start i + 2) (le 2 r.tag) (le 4 r.size ++ le 8 r.content) from_tag)

  tag_stands : Stands table (value_record_start i + 2) (le 2 r.tag)
  tag_stands = stands_left table (value_record_start i + 2) (le 2 r.tag) (le 4 r.size ++ le 8 r.content) from_tag

  size_stands : Stands table (value_record_start i + 4) (le 4 r.size)
  size_stands = stands_left table (value_record_start i + 4) (le 4 r.size) (le 8 r.content) from_size

  content_stands : Stands table (value_record_start i + 8) (le 8 r.content)
  content_stands = rw (length-le, add_assoc) at (stands_right table (value_record_start i + 4) (le 4 r.size) (le 8 r.content) from_size)

  -- it lies in the table
  pub record_in : ValueRecordIn i (length table)
  unfolding RecordIs
  record_in = rw (length-layout r) at (stands_in table (value_record_start i) (layout r) h)

  pub kind_is : (value_record_at table i).kind ≡ r.kind
  unfolding RecordIs value_record_at layout Stands
  kind_is = h.0.1

  -- byte 1
  pub spare_is : (value_record_at table i).spare ≡ r.spare
  unfolding RecordIs value_record_at layout Stands
  spare_is = h.1.0.1

  pub tag_is : r.tag < 256 ^ 2 → (value_record_at table i).tag ≡ r.tag
  unfolding value_record_at
  tag_is l = stands_le table (value_record_start i + 2) 2 r.tag l tag_stands

  pub size_is : r.size < 256 ^ 4 → (value_record_at table i).size ≡ r.size
  unfolding value_record_at
  size_is l = stands_le table (value_record_start i + 4) 4 r.size l size_stands

  pub content_is : r.content < 256 ^ 8 → (value_record_at table i).content ≡ r.content
  unfolding value_record_at
  content_is l = stands_le table (value_record_start i + 8) 8 r.content l content_stands

  -- all of it
  pub fields_are : r.tag < 256 ^ 2 → r.size < 256 ^ 4 → r.content < 256 ^ 8 → value_record_at table i ≡ r
  fields_are t z c = λ j. record { kind = kind_is j; spare = spare_is j; tag = tag_is t j; size = size_is z j; content = content_is c j }

  pub tag_fits : (value_record_at table i).tag < 256 ^ 2
  unfolding value_record_at
  tag_fits = stands_fits table (value_record_start i + 2) 2 r.tag tag_stands

  pub size_fits : (value_record_at table i).size < 256 ^ 4
  unfolding value_record_at
  size_fits = stands_fits table (value_record_start i + 4) 4 r.size size_stands

-- ---- records one after another

-- from record i on the table has these
unfoldable pub Shows : List ℕ → ℕ → List ValueRecord → Type 0
Shows table i [] = Unit
Shows table i (r ∷ rs) = RecordIs table i r × Shows table (i + 1) rs

module _ (table : List ℕ) where
  -- the first part of them
  pub shows_left : (i : ℕ) (rs ss : List ValueRecord) → Shows table i (rs ++ ss) → Shows table i rs
  unfolding Shows
  shows_left i [] ss h = tt
  shows_left i (r ∷ rs) ss h = (h.0, shows_left (i + 1) rs ss h.1)

  -- and the second part
  pub shows_right : (i : ℕ) (rs ss : List ValueRecord) → Shows table i (rs ++ ss) → Shows table (i + length rs) ss
  unfolding Shows
  shows_right i [] ss h = rw (add-zero i) h
  shows_right i (r ∷ rs) ss h =
      let e : i + suc (length rs) ≡ (i + 1) + length rs = omega arith in
      rw e (shows_right (i + 1) rs ss h.1)

  -- two parts, one after the other, are both together
  pub shows_both : (i : ℕ) (rs ss : List ValueRecord) → Shows table i rs → Shows table (i + length rs) ss → Shows table i (rs ++ ss)
  unfolding Shows
  shows_both i [] ss h k = rw add-zero at k
  shows_both i (r ∷ rs) ss h k =
      let e : i + suc (length rs) ≡ (i + 1) + length rs = omega arith in
      (h.0, shows_both (i + 1) rs ss h.1 (rw e at k))

  -- the table does not end before the last of them
  pub shows_end : (i : ℕ) (r : ValueRecord) (rs : List ValueRecord) → Shows table i (r ∷ rs) → value_record_start (i + length (r ∷ rs)) ≤ length table
  unfolding Shows
  shows_end i r [] h = omega (arith, record_in table i r h.0)
  shows_end i r (s ∷ rs) h = omega (arith, shows_end (i + 1) s rs h.1)

  -- they are no more than there is room for
  pub shows_in : (i : ℕ) (rs : List ValueRecord) → Shows table i rs → value_record_start (length rs) ≤ length table
  shows_in i [] h = omega arith
  shows_in i (r ∷ rs) h = omega (arith, shows_end i r rs h)

  -- their bytes stand there
  shows_stand : (i : ℕ) (rs : List ValueRecord) → value_record_start i ≤ length table → Shows table i rs → Stands table (value_record_start i) (layouts rs)
  unfolding Shows layouts RecordIs
  shows_stand i [] l h = unfold Stands in l
  shows_stand i (r ∷ rs) l h =
      let e : value_record_start i + length (layout r) ≡ value_record_start (i + 1) = rw (length-layout r) (omega arith) in
      stands_both table (value_record_start i) (layout r) (layouts rs) h.0 (rw e (shows_stand (i + 1) rs (omega (arith, record_in table i r h.0)) h.1))

  -- and where their bytes stand, they are
  pub stand_shows : (i : ℕ) (rs : List ValueRecord) → Stands table (value_record_start i) (layouts rs) → Shows table i rs
  unfolding Shows layouts RecordIs
  stand_shows i [] h = tt
  stand_shows i (r ∷ rs) h =
      let e : value_record_start i + length (layout r) ≡ value_record_start (i + 1) = rw (length-layout r) (omega arith) in
      (stands_left table (value_record_start i) (layout r) (layouts rs) h, stand_shows (i + 1) rs (rw e at (stands_right table (value_record_start i) (layout r) (layouts rs) h)))

  -- a table is the bytes of just these records
  pub whole_shows : (rs : List ValueRecord) → (table ≡ layouts rs) ↔ (Shows table 0 rs × (length table ≡ value_record_start (length rs)))
  whole_shows rs = (
    λ e. (stand_shows 0 rs (rw (← e) (stands_self table)), ap length e ∙ length-layouts rs),
    λ h. stands_whole table (layouts rs) (shows_stand 0 rs (omega arith) h.0) (h.1 ∙ sym (length-layouts rs)),
  )
