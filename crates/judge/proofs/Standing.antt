-- What a value that stands in a table tells: its record, where it ends, and its children one after another.
-- Assumes nothing.
use Prim.Native.Nat.{ℕ, suc, ◌+◌, ◌-◌, ◌^◌, ◌≤◌, ◌<◌}
use mathlib.Core.Path.{◌≡◌, refl}
use mathlib.Core.List.{List, append-nil}
use native.Mathlib.Omega.{arith}
use lib.ListN.{length}
use Rattle.rules.specs.Value.{Value, nothing, boolean, number, wide, blob, variant, repeated, tuple, Items, done, item, items, tall, tall_i, Fits, FitsI, records_of, payload_of}
use Rattle.rules.specs.ValueRecord.{value_record_start, ValueRecordIn, value_record_at}
use Rattle.rules.specs.ValueTable.{payload_bytes, payload_bytes_i, value_kind, size_of, head_of, below, below_i, heads, Spot, Parsed, Whole, Broken, tag_at}
use Rattle.value_laws.proofs.Records.{RecordIs, record_in, kind_is, tag_is, size_is, tag_fits, size_fits, shows_in}
use Rattle.value_laws.proofs.Sizes.{length_pays, length-heads, length-below_i, items_within}
use Rattle.value_laws.proofs.Children.{children, below_untagged, pays_untagged, fits_untagged, tall_untagged, count_untagged}
use Rattle.value_laws.proofs.Span.{Span, left, right, onward, the_record, rest_span, span_in}
use Rattle.value_laws.proofs.Parse.{Holds, holds, Reads, ReadsI, reads}
use Rattle.value_laws.proofs.Flat.{count_fits, parses}
use Rattle.judge.specs.Table.{IsWhole, whole_value, whole_end, value_standing_at}
use Rattle.judge.proofs.Codes.{fixed_range, raw_range, sized_range}

abbrev pub spot : ℕ → ℕ → Spot
spot at from = record { at = at; from = from }

pub whole_is : (x : Parsed Value) → IsWhole x → x ≡ Whole (whole_value x) (whole_end x)
unfolding IsWhole whole_value whole_end
whole_is (Whole v q) h = refl
whole_is Broken h = absurd h

-- a value with children
pub record ParentValue (v : Value) : Type 0 where
  pub table : (p : ℕ) → below v p ≡ below_i (children v) p
  pub bytes : payload_bytes v ≡ payload_bytes_i (children v)
  pub fits : FitsI (children v)
  pub depth : tall v ≡ suc (tall_i (children v))
  pub count : size_of v ≡ items (children v)

pub parent : (v : Value) → 15 ≤ value_kind v → Fits v → ParentValue v
unfolding value_kind below payload_bytes children Fits tall size_of items
parent nothing l f = absurd (omega arith)
parent (boolean x) l f = absurd (omega arith)
parent (number k x) l f = absurd (omega (arith, fixed_range k f.0 f.1.0))
parent (wide k x) l f = absurd (omega (arith, raw_range k (length x) f))
parent (blob k x) l f = absurd (omega (arith, sized_range k f.0))
parent (variant t v) l f = record { table = λ p. simp append-nil; bytes = simp append-nil; fits = (f.0, (f.1, tt)); depth = omega arith; count = refl }
parent (repeated is) l f = record { table = λ p. refl; bytes = refl; fits = f; depth = refl; count = refl }
parent (tuple vs) l f = record { table = below_untagged vs; bytes = pays_untagged vs; fits = fits_untagged vs f; depth = rw (tall_untagged vs); count = count_untagged vs }

-- a value has a level
one_tall : (u : Value) → 1 ≤ tall u
unfolding tall
one_tall nothing = omega arith
one_tall (boolean x) = omega arith
one_tall (number k x) = omega arith
one_tall (wide k x) = omega arith
one_tall (blob k x) = omega arith
one_tall (variant t u) = omega arith
one_tall (repeated is) = omega arith
one_tall (tuple vs) = omega arith

module _ (table store : List ℕ) (short : length table ≤ 4294967295) where
  -- ---- a value that stands at a spot

  pub stands : (d at from : ℕ) → from ≤ length store → IsWhole (value_standing_at table store d at from) →
      Reads table store d (tag_at table store at) (spot at from) (whole_value (value_standing_at table store d at from)) (whole_end (value_standing_at table store d at from))
  unfolding value_standing_at
  stands d at from l h = of (rw (whole_is _ h) at (reads table store d (tag_at table store at) (spot at from) l))
    where
      of : {v : Value} {q : Spot} → Holds (Reads table store d (tag_at table store at) (spot at from)) (Whole v q) → Reads table store d (tag_at table store at) (spot at from) v q
      of (holds r) = r

  module _ {d tag at from : ℕ} {v : Value} {z : Spot} (r : Reads table store d tag (spot at from) v z) where
    pub head : RecordIs table at (head_of v tag from)
    unfolding heads
    head = the_record table store (head_of v tag from) (below v from) (payload_bytes v) r.span

    under : Span table store (spot (at + 1) from) z (below v from) (payload_bytes v)
    unfolding heads
    under = rest_span table store (head_of v tag from) (below v from) (payload_bytes v) r.span

    pub inside : ValueRecordIn at (length table)
    inside = record_in table at _ head

    pub kind_told : (value_record_at table at).kind ≡ value_kind v
    unfolding head_of
    kind_told = kind_is table at (head_of v tag from) head

    pub size_small : (value_record_at table at).size < 256 ^ 4
    size_small = size_fits table at _ head

    pub tag_small : (value_record_at table at).tag < 256 ^ 2
    tag_small = tag_fits table at _ head

    pub at_end : z.at ≡ at + records_of v
    at_end = rw (length-heads v tag from) at r.span.at_end

    pub from_end : z.from ≡ from + payload_of v
    from_end = rw (length_pays v) at r.span.from_end

    -- its records are no more than the table has
    pub far : value_record_start (records_of v) ≤ length table
    far = rw (length-heads v tag from) at (shows_in table at (heads v tag from) r.span.rows_stand)

    pub from_in : z.from ≤ length store
    from_in = span_in table store r.span

    pub deep : 0 < d
    deep = omega (arith, one_tall v, r.depth)

    -- the children of a value that has some
    pub below_reads : 15 ≤ value_kind v → ReadsI table store (d - 1) (spot (at + 1) from) (children v) z
    below_reads l =
        let p = parent v l r.fits in
        record { span = rw (← (p.table from), ← p.bytes) under; fits = p.fits; depth = omega (arith, p.depth, r.depth) }

    -- and how many they are
    pub count_told : 15 ≤ value_kind v → (value_record_at table at).size ≡ size_of v
    unfolding head_of
    count_told l =
        let p = parent v l r.fits in
        let n : length (below_i (children v) from) ≡ _ = length-below_i (children v) from in
        size_is table at (head_of v tag from) head (rw p.count (count_fits table store short _ (items (children v)) (below_i (children v) from) (below_reads l).span.rows_stand (omega (arith, n, items_within (children v)))))

  -- a blob's length
  pub length_told : {d tag at from k : ℕ} {x : List ℕ} {z : Spot} → Reads table store d tag (spot at from) (blob k x) z → (value_record_at table at).size ≡ length x
  unfolding head_of size_of Fits
  length_told {tag = tag} {at = at} {from = from} {k = k} {x = x} r = size_is table at (head_of (blob k x) tag from) (head r) r.fits.1

  -- ---- its children, one after another

  pub record Turn (d : ℕ) (p z : Spot) (is : Items) : Type 0 where
    pub tag : ℕ
    pub value : Value
    pub rest : Items
    pub first : is ≡ item tag value rest
    pub bears : tag_at table store p.at ≡ tag
    pub here : Reads table store d tag p value (onward table store (records_of value) (payload_of value) p)
    pub follows : ReadsI table store d (onward table store (records_of value) (payload_of value) p) rest z

  pub turn : (d : ℕ) (p z : Spot) (is : Items) → ReadsI table store d p is z → 0 < items is → Turn d p z is
  unfolding items below_i heads payload_bytes_i FitsI tall_i head_of
  turn d p z done r h = absurd (omega arith)
  turn d p z (item t v is) r h =
      let a = left table store (heads v t p.from) (below_i is (p.from + payload_of v)) (payload_bytes v) (payload_bytes_i is) (records_of v) (payload_of v) (length-heads v t p.from) (length_pays v) r.span in
      let b = right table store (heads v t p.from) (below_i is (p.from + payload_of v)) (payload_bytes v) (payload_bytes_i is) (records_of v) (payload_of v) (length-heads v t p.from) (length_pays v) r.span in
      record {
        tag = t;
        value = v;
        rest = is;
        first = refl;
        bears = tag_is table p.at (head_of v t p.from) (the_record table store (head_of v t p.from) (below v p.from) (payload_bytes v) a) r.fits.0;
        here = record { span = a; fits = r.fits.1.0; depth = omega (arith, r.depth) };
        follows = record { span = b; fits = r.fits.1.1; depth = omega (arith, r.depth) };
      }

  -- the next one stands where the last one ended
  pub turn_stands : (d at from : ℕ) (z : Spot) (is : Items) (t : Turn d (spot at from) z is) → value_standing_at table store d at from ≡ Whole t.value (spot (at + records_of t.value) (from + payload_of t.value))
  unfolding value_standing_at
  turn_stands d at from z is t = rw t.bears (parses table store short d t.value t.tag (spot at from) _ t.here)
