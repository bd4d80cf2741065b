-- What the record of a value tells is what is told of the value.
-- Assumes nothing.
use Prim.Native.Nat.{ℕ, ◌+◌, ◌^◌, ◌≤◌, ◌<◌}
use mathlib.Core.Path.{◌≡◌, refl, sym, ◌∙◌}
use mathlib.Core.Bool.{Bool, true, false, false≢true}
use mathlib.Core.List.{List}
use native.Mathlib.Omega.{arith}
use native.Mathlib.Nat.{lt_of_lt_of_le, pow-le-pow_right}
use borrow.Author.Tests.{lt-ltb, le-ltb, ne_eqb, ltb-true, leb-true}
use lib.Dec.{ltb, leb}
use lib.ListN.{length}
use Rattle.rules.specs.Choice.{pick, ◌and◌, all}
use Rattle.rules.specs.Bytes.{Stands}
use Rattle.rules.specs.Wire.{Form, empty, truth, fixed, raw, sized, variant_form, repeated_form, tuple_form, unknown, wire_types, type_in, type_of, written, written_if, form, width_of}
use Rattle.rules.specs.Value.{Value, nothing, boolean, number, wide, blob, variant, repeated, tuple, items, Fits}
use Rattle.rules.specs.ValueRecord.{value_record_at}
use Rattle.rules.specs.ValueTable.{bit, payload_bytes, value_kind, size_of, content_of, head_of, Spot}
use Rattle.rules.specs.Lines.{decimal}
use Rattle.rules.specs.Numerals.{signed_bytes, integer_text}
use Rattle.rules.specs.Listing.{hex_bytes, value_text, number_text}
use Rattle.rules.specs.declared.table_record.ValueRecord.{ValueRecord}
use Rattle.rules.proofs.Tests.{and_both}
use Rattle.rules.proofs.Codes.{every_form}
use Rattle.rules.proofs.Stands.{stands_part, stands_in, stands_number}
use Rattle.value_laws.proofs.Records.{size_is, content_is}
use Rattle.value_laws.proofs.Parse.{Reads}
use Rattle.judge.proofs.Codes.{fixed_range, sized_range, widest}
use Rattle.value_laws.proofs.Children.{children}
use Rattle.judge.proofs.Standing.{spot, head, kind_told, from_in, from_end, count_told, parent}
use Rattle.texts.specs.Records.{is_stored, kept, IsNumber, Told, payload_text, content_text}
use Rattle.rules.specs.View.{child_count}

-- ---- kinds by their forms

unfoldable sorted : Form → ℕ → Bool
sorted empty k = true
sorted truth k = true
sorted (fixed w) k = ltb 1 k and pick (is_stored k) false true
sorted (raw w) k = (is_stored k and ltb k 8) and (ltb 0 w and leb w 32)
sorted sized k = is_stored k and leb 8 k
sorted (variant_form w) k = true
sorted (repeated_form w) k = true
sorted tuple_form k = true
sorted unknown k = true

sort : (k : ℕ) → sorted (form k) k ≡ true
unfolding sorted is_stored pick all form written written_if type_of type_in wire_types ◌and◌
sort k = every_form sorted refl (λ i. refl) k

isnt : (b : Bool) → pick b false true ≡ true → b ≡ false
unfolding pick
isnt true e = absurd (false≢true e)
isnt false e = refl

number_kind : (k w : ℕ) → form k ≡ fixed w → (1 < k) × (is_stored k ≡ false)
unfolding sorted
number_kind k w e = let h = and_both _ _ (rw e at (sort k)) in (ltb-true 1 k h.0, isnt (is_stored k) h.1)

-- int128 and int256 are the kinds below 8 that are stored, and have 16 and 32 bytes
record WideKind (k w : ℕ) : Type 0 where
  stored : is_stored k ≡ true
  low : k < 8
  some : 0 < w
  few : w ≤ 32

wide_kind : (k w : ℕ) → form k ≡ raw w → WideKind k w
unfolding sorted
wide_kind k w e =
    let h = and_both _ _ (rw e at (sort k)) in
    let a = and_both _ _ h.0 in
    let b = and_both _ _ h.1 in
    record { stored = a.0; low = ltb-true k 8 a.1; some = ltb-true 0 w b.0; few = leb-true w 32 b.1 }

blob_kind : (k : ℕ) → form k ≡ sized → (is_stored k ≡ true) × (8 ≤ k)
unfolding sorted
blob_kind k e = let h = and_both _ _ (rw e at (sort k)) in (h.0, leb-true 8 k h.1)

width_is : (k w : ℕ) → form k ≡ fixed w → width_of (form k) ≡ w
unfolding width_of
width_is k w e = rw e

raw_width : (k w : ℕ) → form k ≡ raw w → width_of (form k) ≡ w
unfolding width_of
raw_width k w e = rw e

-- ---- a record of these fields

-- the payload bytes of the node itself
unfoldable pub own_payload : Value → ℕ
own_payload nothing = 0
own_payload (boolean x) = 0
own_payload (number k x) = 0
own_payload (wide k x) = length x
own_payload (blob k x) = length x
own_payload (variant t v) = 0
own_payload (repeated is) = 0
own_payload (tuple vs) = 0

pub record Tells (u : ValueRecord) (store : List ℕ) (v : Value) : Type 0 where
  pub asked : Told u (length store)
  pub text : content_text u store ≡ value_text v
  pub own : kept u ≡ own_payload v
  pub count : child_count u ≡ items (children v)
  pub size : u.size ≡ own_payload v + items (children v)

module _ (store : List ℕ) (u : ValueRecord) where
  number_text_lem : is_stored u.kind ≡ false → 1 < u.kind → u.kind ≤ 14 → content_text u store ≡ number_text u.kind u.content
  unfolding content_text pick
  number_text_lem h l m = rw (h, le-ltb 14 u.kind m, ne_eqb u.kind 0 (λ e. absurd (omega (arith, e, l))), ne_eqb u.kind 1 (λ e. absurd (omega (arith, e, l))))

  -- nothing of it is in the store
  plain : (v : Value) → is_stored u.kind ≡ false → (1 < u.kind → u.kind < 15 → IsNumber u.kind u.content) → content_text u store ≡ value_text v → own_payload v ≡ 0 → child_count u ≡ items (children v) → u.size ≡ items (children v) → Tells u store v
  unfolding kept pick
  plain v h n t o c s = record {
    asked = record { stored = λ e. absurd (false≢true (sym h ∙ e)); number = λ e l m. n l m };
    text = t;
    own = rw (h, o);
    count = c;
    size = rw o (omega (arith, s));
  }

  -- the text of payload that stands in the store
  wide_text : (k from : ℕ) (x : List ℕ) → k < 8 → Stands store from x → payload_text k store from (length x) ≡ integer_text x
  unfolding payload_text integer_text signed_bytes pick
  wide_text k from x h p = rw (lt-ltb k 8 h, stands_number store from x p)

  blob_text : (k from : ℕ) (x : List ℕ) → 8 ≤ k → Stands store from x → payload_text k store from (length x) ≡ hex_bytes x
  unfolding payload_text pick
  blob_text k from x h p = rw (le-ltb k 8 h, stands_part store from x p)

  -- all of it is in the store
  in_store : (v : Value) (from : ℕ) (x : List ℕ) → is_stored u.kind ≡ true → u.kind < 15 → u.size ≡ length x → u.content ≡ from → Stands store from x → (u.kind < 8 → (0 < length x) × (length x ≤ 32)) → payload_text u.kind store from (length x) ≡ value_text v → own_payload v ≡ length x → items (children v) ≡ 0 → Tells u store v
  unfolding content_text kept child_count pick
  in_store v from x h l s c p i t o n = record {
    asked = record { stored = λ e. record { within = omega (arith, s, c, stands_in store from x p); integer = λ k. rw s (i k) }; number = λ e a b. absurd (false≢true (sym e ∙ h)) };
    text = rw (h, c, s) t;
    own = rw h (s ∙ sym o);
    count = rw (lt-ltb u.kind 15 l) (sym n);
    size = omega (arith, s, o, n);
  }

  -- it has children
  above : (v : Value) → 15 ≤ value_kind v → Fits v → u.kind ≡ value_kind v → is_stored u.kind ≡ false → u.size ≡ size_of v → decimal (size_of v) ≡ value_text v → own_payload v ≡ 0 → Tells u store v
  unfolding content_text child_count pick
  above v l f k h s t o =
      let n = (parent v l f).count in
      let m : 14 < u.kind = omega (arith, k, l) in
      plain v h (λ a b. absurd (omega (arith, m, b))) (rw (h, lt-ltb 14 u.kind m, s) t) o (rw (le-ltb u.kind 15 (omega (arith, m))) (s ∙ n)) (s ∙ n)

  tells_fields : (v : Value) (from : ℕ) → u.kind ≡ value_kind v → u.size ≡ size_of v → u.content ≡ content_of v from → Fits v → Stands store from (payload_bytes v) → Tells u store v
  unfolding value_kind size_of content_of Fits payload_bytes value_text content_text own_payload child_count is_stored children items pick bit
  tells_fields nothing from k s c f p = plain nothing (rw k) (λ l m. absurd (omega (arith, k, l))) (rw k) refl (rw k) s
  tells_fields (boolean x) from k s c f p = plain (boolean x) (rw k) (λ l m. absurd (omega (arith, k, l))) (rw (k, c)) refl (rw k) s
  tells_fields (number j x) from k s c f p =
      let n = number_kind j f.0 f.1.0 in
      let r = fixed_range j f.0 f.1.0 in
      let q : width_of (form j) ≡ f.0 = width_is j f.0 f.1.0 in
      let h : is_stored u.kind ≡ false = rw k n.1 in
      plain (number j x) h (λ l m. rw (k, c) (record { scalar = r.0; narrow = omega (arith, q, r.1); fits = rw q f.1.1 }))
      (number_text_lem h (omega (arith, k, n.0)) (omega (arith, k, r.0)) ∙ rw (k, c)) refl (rw (k, lt-ltb j 15 (omega (arith, r.0)))) s
  tells_fields (wide j x) from k s c f p =
      let n = wide_kind j (length x) f in
      in_store (wide j x) from x (rw k n.stored) (omega (arith, k, n.low)) s c p (λ l. (n.some, n.few)) (rw k (wide_text j from x n.low p)) refl refl
  tells_fields (blob j x) from k s c f p =
      let n = blob_kind j f.0 in
      in_store (blob j x) from x (rw k n.0) (omega (arith, k, (sized_range j f.0).1)) s c p (λ l. absurd (omega (arith, k, l, n.1))) (rw k (blob_text j from x n.1 p)) refl refl
  tells_fields (variant t v) from k s c f p = above (variant t v) (omega arith) f k (rw k) s refl refl
  tells_fields (repeated is) from k s c f p = above (repeated is) (omega arith) f k (rw k) s refl refl
  tells_fields (tuple vs) from k s c f p = above (tuple vs) (omega arith) f k (rw k) s refl refl

-- ---- a record of a table

one_bit : (x : Bool) → bit x < 256 ^ 8
unfolding bit
one_bit true = omega arith
one_bit false = omega arith

module _ (table store : List ℕ) (short : length table ≤ 4294967295) (small : length store < 2 ^ 32) where
  module _ {d tag at from : ℕ} {z : Spot} where
    size_told : (v : Value) → Reads table store d tag (spot at from) v z → (value_record_at table at).size ≡ size_of v
    unfolding size_of head_of value_kind Fits
    size_told nothing r = size_is table at (head_of nothing tag from) (head table store short r) (omega arith)
    size_told (boolean x) r = size_is table at (head_of (boolean x) tag from) (head table store short r) (omega arith)
    size_told (number k x) r = size_is table at (head_of (number k x) tag from) (head table store short r) (omega arith)
    size_told (wide k x) r =
        let w : width_of (form k) ≡ length x = raw_width k (length x) r.fits in
        size_is table at (head_of (wide k x) tag from) (head table store short r) (omega (arith, w, widest k))
    size_told (blob k x) r = size_is table at (head_of (blob k x) tag from) (head table store short r) r.fits.1
    size_told (variant t v) r = count_told table store short r (omega arith)
    size_told (repeated is) r = count_told table store short r (omega arith)
    size_told (tuple vs) r = count_told table store short r (omega arith)

    content_told : (v : Value) → Reads table store d tag (spot at from) v z → (value_record_at table at).content ≡ content_of v from
    unfolding content_of head_of Fits
    content_told nothing r = content_is table at (head_of nothing tag from) (head table store short r) (omega arith)
    content_told (boolean x) r = content_is table at (head_of (boolean x) tag from) (head table store short r) (one_bit x)
    content_told (number k x) r =
        let l : 256 ^ r.fits.0 ≤ 256 ^ 8 = pow-le-pow_right (omega arith) (fixed_range k r.fits.0 r.fits.1.0).1 in
        content_is table at (head_of (number k x) tag from) (head table store short r) (lt_of_lt_of_le r.fits.1.1 l)
    content_told (wide k x) r = content_is table at (head_of (wide k x) tag from) (head table store short r) (omega (arith, from_end table store short r, from_in table store short r, small))
    content_told (blob k x) r = content_is table at (head_of (blob k x) tag from) (head table store short r) (omega (arith, from_end table store short r, from_in table store short r, small))
    content_told (variant t v) r = content_is table at (head_of (variant t v) tag from) (head table store short r) (omega arith)
    content_told (repeated is) r = content_is table at (head_of (repeated is) tag from) (head table store short r) (omega arith)
    content_told (tuple vs) r = content_is table at (head_of (tuple vs) tag from) (head table store short r) (omega arith)

    pub tells : (v : Value) → Reads table store d tag (spot at from) v z → Tells (value_record_at table at) store v
    tells v r = tells_fields store (value_record_at table at) v from (kind_told table store short r) (size_told v r) (content_told v r) r.fits r.span.payload_stands
