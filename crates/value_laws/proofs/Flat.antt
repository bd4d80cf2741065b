-- The table of a value is accepted by the rule, with that value. So rule and relation say the same, and a table has one value.
-- Assumes nothing.
use Prim.Native.Nat.{ℕ, zero, suc, ◌+◌, ◌^◌, ◌≤◌, ◌<◌}
use mathlib.Core.Path.{◌≡◌, refl, ap, ◌∙◌}
use mathlib.Core.Bool.{Bool, true, false}
use mathlib.Core.List.{List, []}
use mathlib.Core.Logic.{◌↔◌}
use native.Mathlib.Omega.{arith}
use native.Mathlib.Nat.{pow-le-pow_right, lt_of_lt_of_le}
use borrow.Author.Tests.{lt-ltb, le-leb, eq-eqb}
use lib.ListN.{length}
use lib.Dec.{ltb}
use Rattle.rules.specs.Choice.{pick, ◌and◌}
use Rattle.rules.specs.Bytes.{Stands}
use Rattle.rules.specs.Wire.{form, written, written_if, type_of, type_in, wire_types}
use Rattle.rules.specs.Value.{Value, nothing, boolean, number, wide, blob, variant, repeated, tuple, Items, done, item, Values, none, more, items, values, tall, tall_i, tall_v, Fits, FitsI, FitsV, records_of, payload_of}
use Rattle.rules.specs.ValueRecord.{value_records_in, value_record_at}
use Rattle.rules.specs.ValueTable.{bit, payload_bytes, payload_bytes_i, payload_bytes_v, value_kind, size_of, content_of, head_of, below, below_i, below_v, heads, flat, TableOf, Spot, Parsed, Whole, Broken, ◌>>=◌, kind_of, next, stored_at, scalar_at, tag_at, items_at, values_at, node_value, if_record_is, value_at, if_whole_table, table_end, table_value}
use Rattle.rules.specs.declared.table_record.ValueRecord.{ValueRecord}
use Rattle.rules.proofs.Stands.{stands_in, stands_part, stands_self}
use Rattle.value_laws.proofs.Records.{whole_records, RecordIs, is_record_lem, kind_is, tag_is, size_is, content_is, Shows, shows_in, whole_shows}
use Rattle.value_laws.proofs.Sizes.{length_pays, length-below_i, length-below_v, length-heads, items_within, values_within}
use Rattle.value_laws.proofs.Codes.{fixed_code, raw_code, sized_code}
use Rattle.value_laws.proofs.Span.{Span, left, right, the_record, rest_span, lands, lands_here}
use Rattle.value_laws.proofs.Parse.{Reads, is_table}

-- a boolean as a number, and back
pub test_bit : (x : Bool) → ltb 0 (bit x) ≡ x
unfolding bit
test_bit true = refl
test_bit false = refl

pub bit_small : (x : Bool) → bit x < 2
unfolding bit
bit_small true = omega arith
bit_small false = omega arith

-- what fits in w bytes fits in more
pub wider : (w n x : ℕ) → w ≤ n → x < 256 ^ w → x < 256 ^ n
wider w n x h l = lt_of_lt_of_le l (pow-le-pow_right (omega arith) h)

-- an answer ends where its reading ends
answered : {A : Type 0} (a : A) {p q : Spot} → q ≡ p → Whole a p ≡ Whole a q
answered a e = rw e

-- a value has a level
one_tall : (v : Value) → 1 ≤ tall v
unfolding tall
one_tall nothing = omega arith
one_tall (boolean x) = omega arith
one_tall (number k x) = omega arith
one_tall (wide k x) = omega arith
one_tall (blob k x) = omega arith
one_tall (variant t v) = omega arith
one_tall (repeated is) = omega arith
one_tall (tuple vs) = omega arith

module _ (table store : List ℕ) where
  -- the record of a value, and the rest of it
  the_head : (v : Value) (tag : ℕ) (p q : Spot) → Span table store p q (heads v tag p.from) (payload_bytes v) → RecordIs table p.at (head_of v tag p.from)
  unfolding heads
  the_head v tag p q s = the_record table store (head_of v tag p.from) (below v p.from) (payload_bytes v) s

  the_rest : (v : Value) (tag : ℕ) (p q : Spot) → Span table store p q (heads v tag p.from) (payload_bytes v) → Span table store (next table store p) q (below v p.from) (payload_bytes v)
  unfolding heads
  the_rest v tag p q s = rest_span table store (head_of v tag p.from) (below v p.from) (payload_bytes v) s

  -- a record that stands passes its test
  stood : (v : Value) (tag : ℕ) (p q : Spot) → RecordIs table p.at (head_of v tag p.from) → if_record_is table store tag p (Whole v q) ≡ Whole v q
  unfolding if_record_is pick
  stood v tag p q h = rw ((is_record_lem table p.at (head_of v tag p.from)).1 h)

  -- a value's record says its kind
  pub kind_told : (v : Value) (tag : ℕ) (p : Spot) → RecordIs table p.at (head_of v tag p.from) → (value_record_at table p.at).kind ≡ value_kind v
  unfolding head_of
  kind_told v tag p h = kind_is table p.at (head_of v tag p.from) h

  -- payload bytes that stand are read
  stored_parses : (make : List ℕ → Value) (x : List ℕ) (p q : Spot) → Span table store (next table store p) q [] x → stored_at table store make (length x) p ≡ Whole (make x) q
  unfolding stored_at pick
  stored_parses make x p q s =
      rw (le-leb (p.from + length x) (length store) (stands_in store p.from x s.payload_stands), stands_part store p.from x s.payload_stands)
      (answered (make x) (lands table store (length x) x refl s))

  module _ (short : length table ≤ 4294967295) where
    -- the counts of a table fit their fields, since each child has a record
    pub count_fits : (i n : ℕ) (rows : List ValueRecord) → Shows table i rows → n ≤ length rows → n < 256 ^ 4
    count_fits i n rows h l = omega (arith, shows_in table i rows h)

    -- how a child is read
    Child : ℕ → (ℕ → Spot → Parsed Value) → Type 0
    Child d child = (v : Value) (tag : ℕ) (p q : Spot) → Reads table store d tag p v q → child tag p ≡ Whole v q

    -- the record of a value says by which tag it was chosen
    tag_told : (v : Value) (tag : ℕ) (p q : Spot) → tag < 256 ^ 2 → Span table store p q (heads v tag p.from) (payload_bytes v) → tag_at table store p.at ≡ tag
    unfolding head_of
    tag_told v tag p q l s = tag_is table p.at (head_of v tag p.from) (the_head v tag p q s) l

    -- items that stand, and children of a tuple that stand, are read
    items_parse : (d : ℕ) (child : ℕ → Spot → Parsed Value) → Child d child → (is : Items) (p q : Spot) → Span table store p q (below_i is p.from) (payload_bytes_i is) → FitsI is → tall_i is ≤ d →
        items_at table store child (items is) p ≡ Whole is q
    unfolding Child items_at heads below_i payload_bytes_i FitsI tall_i items ◌>>=◌
    items_parse d child ok done p q s f h = answered done (lands_here table store s)
    items_parse d child ok (item t v is) p q s f h =
        let a = left table store (heads v t p.from) (below_i is (p.from + payload_of v)) (payload_bytes v) (payload_bytes_i is) (records_of v) (payload_of v) (length-heads v t p.from) (length_pays v) s in
        let b = right table store (heads v t p.from) (below_i is (p.from + payload_of v)) (payload_bytes v) (payload_bytes_i is) (records_of v) (payload_of v) (length-heads v t p.from) (length_pays v) s in
        rw (tag_told v t p _ f.0 a, ok v t p _ (record { span = a; fits = f.1.0; depth = omega arith }), items_parse d child ok is _ q b f.1.1 (omega arith))

    values_parse : (d : ℕ) (child : ℕ → Spot → Parsed Value) → Child d child → (vs : Values) (p q : Spot) → Span table store p q (below_v vs p.from) (payload_bytes_v vs) → FitsV vs → tall_v vs ≤ d →
        values_at table store child (values vs) p ≡ Whole vs q
    unfolding Child values_at heads below_v payload_bytes_v FitsV tall_v values ◌>>=◌
    values_parse d child ok none p q s f h = answered none (lands_here table store s)
    values_parse d child ok (more v vs) p q s f h =
        let a = left table store (heads v 0 p.from) (below_v vs (p.from + payload_of v)) (payload_bytes v) (payload_bytes_v vs) (records_of v) (payload_of v) (length-heads v 0 p.from) (length_pays v) s in
        let b = right table store (heads v 0 p.from) (below_v vs (p.from + payload_of v)) (payload_bytes v) (payload_bytes_v vs) (records_of v) (payload_of v) (length-heads v 0 p.from) (length_pays v) s in
        rw (ok v 0 p _ (record { span = a; fits = f.0; depth = omega arith }), values_parse d child ok vs _ q b f.1 (omega arith))

    -- so is a node, if its children are
    node_parses : (d : ℕ) (child : ℕ → Spot → Parsed Value) → Child d child → (v : Value) (tag : ℕ) (p q : Spot) → RecordIs table p.at (head_of v tag p.from) →
        Span table store (next table store p) q (below v p.from) (payload_bytes v) → Fits v → tall v ≤ suc d →
        node_value table store child (kind_of (value_kind v)) (value_record_at table p.at) p ≡ Whole v q
    unfolding Child node_value scalar_at head_of value_kind size_of content_of below heads payload_bytes Fits tall pick ◌>>=◌ kind_of form written written_if type_of type_in wire_types
    node_parses d child ok nothing tag p q h s f l = answered nothing (lands_here table store s)
    node_parses d child ok (boolean x) tag p q h s f l =
        rw (content_is table p.at _ h (wider 1 8 (bit x) (omega arith) (omega (arith, bit_small x))), test_bit x)
        (answered (boolean x) (lands_here table store s))
    node_parses d child ok (number k x) tag p q h s f l =
        let c = fixed_code k f.0 f.1.0 in
        rw (lt-ltb k 15 c.0, f.1.0, content_is table p.at _ h (wider f.0 8 x c.1 f.1.1), kind_is table p.at _ h, lt-ltb x (256 ^ f.0) f.1.1)
        (answered (number k x) (lands_here table store s))
    node_parses d child ok (wide k x) tag p q h s f l = rw (lt-ltb k 15 (raw_code k (length x) f), f, kind_is table p.at _ h) (stored_parses (wide k) x p q s)
    node_parses d child ok (blob k x) tag p q h s f l = rw (lt-ltb k 15 (sized_code k f.0), f.0, kind_is table p.at _ h, size_is table p.at _ h f.1) (stored_parses (blob k) x p q s)
    node_parses d child ok (variant t v) tag p q h s f l =
        rw (tag_told v t (next table store p) q f.0 s, ok v t (next table store p) q (record { span = s; fits = f.1; depth = omega arith }))
    node_parses d child ok (repeated is) tag p q h s f l =
        let n = count_fits _ (items is) (below_i is p.from) s.rows_stand (rw (length-below_i is p.from) (items_within is)) in
        rw (size_is table p.at _ h n, items_parse d child ok is (next table store p) q s f (omega arith))
    node_parses d child ok (tuple vs) tag p q h s f l =
        let n = count_fits _ (values vs) (below_v vs p.from) s.rows_stand (rw (length-below_v vs p.from) (values_within vs)) in
        rw (size_is table p.at _ h n, values_parse d child ok vs (next table store p) q s f (omega arith))

    -- a value whose records and payload stand from a spot on is read there
    pub parses : (d : ℕ) (v : Value) (tag : ℕ) (p q : Spot) → Reads table store d tag p v q → value_at table store d tag p ≡ Whole v q
    unfolding value_at Child
    parses zero v tag p q a = absurd (omega (arith, one_tall v, a.depth))
    parses (suc d) v tag p q a =
        let h = the_head v tag p q a.span in
        ap (λ (k : ℕ). if_record_is table store tag p (node_value table store (value_at table store d) (kind_of k) (value_record_at table p.at) p)) (kind_told v tag p h)
        ∙ ap (if_record_is table store tag p) (node_parses d (value_at table store d) (parses d) v tag p q h (the_rest v tag p q a.span) a.fits a.depth)
        ∙ stood v tag p q h

-- The table of a value is accepted, with that value.
pub accepted : (r y : List ℕ) (v : Value) → length r ≤ 4294967295 → TableOf v r y → table_value r y ≡ Whole v (table_end r y)
unfolding table_value if_whole_table flat pick ◌and◌
accepted r y v short t =
    let a = (whole_shows r (heads v 0 0)).0 t.rows in
    let b : Stands y 0 (payload_bytes v) = rw (← t.payload) (stands_self y) in
    let s : Span r y (record { at = 0; from = 0 }) (table_end r y) (heads v 0 0) (payload_bytes v) = record {
      rows_stand = a.0;
      payload_stands = b;
      at_end = omega (arith, a.1);
      from_end = ap length t.payload ∙ omega arith;
    } in
    rw (
      (whole_records (length r)).1 (omega (arith, a.1)),
      parses r y short 64 v 0 (record { at = 0; from = 0 }) (table_end r y) (record { span = s; fits = t.fits; depth = t.depth }),
      eq-eqb (value_records_in (length r)) (value_records_in (length r)) refl,
      eq-eqb (length y) (length y) refl,
    )

-- The rule answers a value, and the ends of both slices, just if they are that value's table.
pub tables : (r y : List ℕ) (v : Value) → length r ≤ 4294967295 → (table_value r y ≡ Whole v (table_end r y)) ↔ TableOf v r y
tables r y v short = (is_table r y v (table_end r y), accepted r y v short)

-- Two slices are the table of one value only.
pub one_value : (r y : List ℕ) (v w : Value) → length r ≤ 4294967295 → TableOf v r y → TableOf w r y → v ≡ w
one_value r y v w short a b = let e = accepted r y v short a in let f = accepted r y w short b in cc

-- The rule refuses just what is no value's table.
pub no_table : (r y : List ℕ) → length r ≤ 4294967295 → (table_value r y ≡ Broken) ↔ ((v : Value) → TableOf v r y → ⊥)
no_table r y short = (λ e v t. let f = accepted r y v short t in let z : ◌≡◌ {A = ℕ} 0 1 = cc in omega arith, by (table_value r y) refl)
  where
    by : (x : Parsed Value) → table_value r y ≡ x → ((v : Value) → TableOf v r y → ⊥) → x ≡ Broken
    by (Whole v q) e h = absurd (h v (is_table r y v q e))
    by Broken e h = refl
