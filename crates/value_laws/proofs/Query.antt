-- In the table of a value the query answers what the tree says: record i is node i in preorder, and is never refused.
-- Assumes nothing.
use Rattle.std.proofs.Common.{Ok, Err}
use Prim.Native.Nat.{ℕ, ◌+◌, ◌^◌, ◌≤◌, ◌<◌}
use mathlib.Core.Path.{◌≡◌, refl, ap, ◌∙◌}
use mathlib.Core.Bool.{Bool, true}
use mathlib.Core.List.{List}
use native.Mathlib.Omega.{arith}
use borrow.Author.Tests.{lt-ltb, le-ltb, le-leb, eq-eqb}
use lib.Dec.{ltb}
use lib.ListN.{length}
use Rattle.rules.specs.Choice.{pick, ◌and◌}
use Rattle.rules.specs.Wire.{form, written, written_if, type_of, type_in, wire_types, width_of}
use Rattle.rules.specs.Value.{Value, nothing, boolean, number, wide, blob, variant, repeated, tuple, Fits, tally, records_of, payload_of}
use Rattle.rules.specs.ValueRecord.{value_record_start, value_records_in, whole_value_records, value_record_at}
use Rattle.rules.specs.ValueTable.{bit, value_kind, size_of, content_of, head_of, below, heads, flat, TableOf}
use Rattle.rules.specs.Refusals.{Setting}
use Rattle.rules.specs.Query.{scalar_alone, parent_alone, record_alone, record_there, record_good, record_seen, scalar_said, record_said, queried_of, query_rule}
use Rattle.rules.specs.View.{child_count, viewed_of, kind_rule, tag_rule, child_count_rule}
use Rattle.rules.specs.Preorder.{ValueNode, value_preorder, NodeIs, value_said, value_children}
use Rattle.value_laws.proofs.Records.{whole_records, RecordIs, record_in, fields_are, Shows, whole_shows}
use Rattle.value_laws.proofs.Sizes.{length_pays, length-below_i, length-below_v, length-heads, items_within, values_within}
use Rattle.value_laws.proofs.Codes.{fixed_code, raw_code, sized_code}
use Rattle.value_laws.proofs.Flat.{test_bit, bit_small, wider, count_fits}
use Rattle.value_laws.proofs.Nodes.{Grown, below_grown, at_node, length-all, some_node}

-- ---- the head of a value

bit_alone : (x : Bool) → ltb (bit x) 2 ≡ true
bit_alone x = lt-ltb (bit x) 2 (bit_small x)

-- it is right by itself
pub head_alone : (v : Value) (tag p : ℕ) → Fits v → record_alone (head_of v tag p) ≡ true
unfolding record_alone scalar_alone parent_alone head_of value_kind size_of content_of Fits pick ◌and◌ form written written_if type_of type_in wire_types
head_alone nothing tag p f = refl
head_alone (boolean x) tag p f = bit_alone x
head_alone (number k x) tag p f = rw (lt-ltb k 15 (fixed_code k f.0 f.1.0).0, f.1.0, lt-ltb x (256 ^ f.0) f.1.1)
head_alone (wide k x) tag p f = rw (lt-ltb k 15 (raw_code k (length x) f), f, eq-eqb (length x) (length x) refl)
head_alone (blob k x) tag p f = rw (lt-ltb k 15 (sized_code k f.0), f.0)
head_alone (variant t v) tag p f = refl
head_alone (repeated is) tag p f = refl
head_alone (tuple vs) tag p f = refl

-- it says what the value says
pub head_says : (v : Value) (tag p : ℕ) → Fits v → record_said (head_of v tag p) ≡ value_said v p
unfolding record_said scalar_said value_said head_of value_kind size_of content_of Fits pick width_of form written written_if type_of type_in wire_types
head_says nothing tag p f = refl
head_says (boolean x) tag p f = rw (test_bit x)
head_says (number k x) tag p f = rw (lt-ltb k 15 (fixed_code k f.0 f.1.0).0, f.1.0)
head_says (wide k x) tag p f = rw (lt-ltb k 15 (raw_code k (length x) f), f)
head_says (blob k x) tag p f = rw (lt-ltb k 15 (sized_code k f.0), f.0)
head_says (variant t v) tag p f = refl
head_says (repeated is) tag p f = refl
head_says (tuple vs) tag p f = refl

-- and how many children it has
pub head_children : (v : Value) (tag p : ℕ) → Fits v → child_count (head_of v tag p) ≡ value_children v
unfolding child_count value_children head_of value_kind size_of Fits pick
head_children nothing tag p f = refl
head_children (boolean x) tag p f = refl
head_children (number k x) tag p f = rw (lt-ltb k 15 (fixed_code k f.0 f.1.0).0)
head_children (wide k x) tag p f = rw (lt-ltb k 15 (raw_code k (length x) f))
head_children (blob k x) tag p f = rw (lt-ltb k 15 (sized_code k f.0))
head_children (variant t v) tag p f = refl
head_children (repeated is) tag p f = refl
head_children (tuple vs) tag p f = refl

-- ---- a node whose records stand

module _ (table : List ℕ) (most : ℕ) (short : length table ≤ 4294967295) (small : most ≤ 4294967295) (i : ℕ) (n : ValueNode) (g : Grown table most i n) where
  head_stands : RecordIs table i (head_of n.value n.tag n.before)
  unfolding Shows heads
  head_stands = g.rows.0

  -- its count or length and its data fit their fields
  size_fits : (v : Value) → Shows table (i + 1) (below v n.before) → n.before + payload_of v ≤ most → Fits v → size_of v < 256 ^ 4
  unfolding size_of below payload_of tally
  size_fits nothing s l f = omega arith
  size_fits (boolean x) s l f = omega arith
  size_fits (number k x) s l f = omega arith
  size_fits (wide k x) s l f = omega (arith, l, small)
  size_fits (blob k x) s l f = omega (arith, l, small)
  size_fits (variant t v) s l f = omega arith
  size_fits (repeated is) s l f = count_fits table table short (i + 1) _ _ s (omega (arith, length-below_i is n.before, items_within is))
  size_fits (tuple vs) s l f = count_fits table table short (i + 1) _ _ s (omega (arith, length-below_v vs n.before, values_within vs))

  content_fits : (v : Value) → n.before + payload_of v ≤ most → Fits v → content_of v n.before < 256 ^ 8
  unfolding content_of Fits
  content_fits nothing l f = omega arith
  content_fits (boolean x) l f = wider 1 8 (bit x) (omega arith) (omega (arith, bit_small x))
  content_fits (number k x) l f = wider f.0 8 x (fixed_code k f.0 f.1.0).1 f.1.1
  content_fits (wide k x) l f = omega (arith, l, small)
  content_fits (blob k x) l f = omega (arith, l, small)
  content_fits (variant t v) l f = omega arith
  content_fits (repeated is) l f = omega arith
  content_fits (tuple vs) l f = omega arith

  -- so its record reads as its head
  pub reads_head : value_record_at table i ≡ head_of n.value n.tag n.before
  unfolding head_of Shows heads
  reads_head = fields_are table i (head_of n.value n.tag n.before) head_stands g.tag_fits (size_fits n.value g.rows.1 g.ends g.fits) (content_fits n.value g.ends g.fits)

  pub stands_in_table : i < value_records_in (length table)
  stands_in_table = omega (arith, record_in table i (head_of n.value n.tag n.before) head_stands)

-- ---- the table of a value

module _ (v : Value) (table store : List ℕ) (is : TableOf v table store) (short : length table ≤ 4294967295) (small : length store ≤ 4294967295) where
  rows_shown : Shows table 0 (heads v 0 0) × (length table ≡ value_record_start (length (heads v 0 0)))
  unfolding flat
  rows_shown = (whole_shows table (heads v 0 0)).0 is.rows

  -- it is whole records, as many as the value has nodes
  pub table_whole : whole_value_records (length table) ≡ true
  table_whole = (whole_records (length table)).1 (omega (arith, rows_shown.1))

  pub table_count : value_records_in (length table) ≡ records_of v
  table_count = omega (arith, rows_shown.1, length-heads v 0 0)

  -- node i of the value has its records from record i on
  pub node_grown : (i : ℕ) (n : ValueNode) → NodeIs (value_preorder v) i n → Grown table (length store) i n
  unfolding value_preorder Shows heads
  node_grown i n h =
      let e : length store ≡ payload_of v = ap length is.payload ∙ length_pays v in
      let z : 0 + i ≡ i = omega arith in
      rw z at (at_node table (length store) v 0 0 1 0 (record { rows = rows_shown.0; fits = is.fits; tag_fits = omega arith; ends = omega (arith, e) })
      (below_grown table (length store) v 0 2 1 rows_shown.0.1 is.fits (omega (arith, e))) i n h)

  module _ (i : ℕ) (n : ValueNode) (h : NodeIs (value_preorder v) i n) where
    -- it is seen
    pub node_seen : record_seen table i ≡ Ok (head_of n.value n.tag n.before)
    unfolding record_there record_good record_seen pick ◌and◌
    node_seen =
        let g = node_grown i n h in
        rw (
          le-leb (length table) 4294967295 short,
          lt-ltb i (value_records_in (length table)) (stands_in_table table (length store) short small i n g),
          table_whole,
          reads_head table (length store) short small i n g,
          head_alone n.value n.tag n.before g.fits,
        )

    -- Record i answers what node i is.
    pub query_says : query_rule table i ≡ Ok (value_said n.value n.before)
    unfolding queried_of query_rule
    query_says = rw (node_seen, head_says n.value n.tag n.before (node_grown i n h).fits)

    -- So do the getters of the row view: kind, tag and child count.
    pub kind_says : kind_rule table i ≡ Ok (value_kind n.value)
    unfolding kind_rule viewed_of head_of
    kind_says = rw node_seen

    pub tag_says : tag_rule table i ≡ Ok n.tag
    unfolding tag_rule viewed_of head_of
    tag_says = rw node_seen

    pub children_say : child_count_rule table i ≡ Ok (value_children n.value)
    unfolding child_count_rule viewed_of
    children_say = rw (node_seen, head_children n.value n.tag n.before (node_grown i n h).fits)

  -- There is a node for each number below the number of nodes, so that none of these is refused.
  pub query_answers : (i : ℕ) → i < records_of v → (n : ValueNode) × (NodeIs (value_preorder v) i n × (query_rule table i ≡ Ok (value_said n.value n.before)))
  query_answers i l = let m = some_node (value_preorder v) i (omega (arith, length-all v)) in (m.0, (m.1, query_says i m.0 m.1))

  -- From there on the record is not there.
  pub query_past : (i : ℕ) → records_of v ≤ i → query_rule table i ≡ Err Setting
  unfolding queried_of query_rule record_there record_seen pick ◌and◌
  query_past i l = rw (le-leb (length table) 4294967295 short, le-ltb i (value_records_in (length table)) (omega (arith, table_count)))
