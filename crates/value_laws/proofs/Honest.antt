-- What the refusals of writing say: where the walk met a value that its schema node does not take, and why not.
-- Assumes nothing.
use Prim.Native.Nat.{ℕ, ◌+◌, ◌^◌, ◌≤◌, ◌<◌}
use mathlib.Core.Path.{◌≡◌, refl}
use mathlib.Core.List.{List}
use borrow.Author.Tests.{leb-false, eqb-true, eqb-false}
use lib.ListN.{length}
use Rattle.rules.specs.Block.{node_at}
use Rattle.rules.specs.Value.{Value, nothing, boolean, number, wide, blob, variant, repeated, tuple, Items, done, item, Values, none, more, values, records_of, Fits}
use Rattle.rules.specs.ValueRecord.{value_records_in, value_record_at}
use Rattle.rules.specs.ValueTable.{TableOf, value_kind, size_of, head_of, below, below_v, heads, flat}
use Rattle.rules.specs.Walk.{Limits, blob_limit}
use Rattle.rules.specs.Writing.{Refused, write, write_i, write_v, write_row}
use Rattle.rules.specs.declared.refusal.Refusal.{Refusal}
use Rattle.rules.specs.Refusals.{BlobTooLarge, ValueDoesNotMatchSchema, TupleLength, InvalidVariantTag}
use Rattle.rules.proofs.Tests.{either}
use Rattle.value_laws.proofs.Records.{tag_is, size_is, whole_shows}
use Rattle.value_laws.proofs.Sizes.{length-below_v, values_within}
use Rattle.value_laws.proofs.Flat.{count_fits}
use Rattle.value_laws.proofs.Meets.{Has, first, later, HasV, first_v, later_v, Met, itself, in_variant, in_repeated, in_tuple, Kept, has_fits, has_kept, variant_kept, kept_head, kept_below, met_fits, met_kept, kept_in, kept_kind}
use Rattle.value_laws.proofs.Says.{Any, WroteSays, puts, refuses, then, refused, takes, fits, tags}

-- why a value is not written at node i₀, its record being r₀
pub data WriteReason (sch : List ℕ) (lim : Limits) (whole : Value) (i₀ r₀ : ℕ) : Refusal → Type 0 where
  -- 14: a blob is longer than the limit of its kind
  too_large : {k j n : ℕ} {x : List ℕ} →
      Met sch whole i₀ r₀ (blob k x) j n → k ≡ takes sch lim j → blob_limit lim k < length x →
      WriteReason sch lim whole i₀ r₀ (BlobTooLarge k (length x) (blob_limit lim k) n)
  -- 15: the node takes another kind
  mismatch : {j n : ℕ} {v : Value} →
      Met sch whole i₀ r₀ v j n → (value_kind v ≡ takes sch lim j → ⊥) →
      WriteReason sch lim whole i₀ r₀ (ValueDoesNotMatchSchema (node_at sch j).code (value_kind v) n)
  -- 16: a tuple has not one child for each schema child
  wrong_length : {j n : ℕ} {vs : Values} →
      Met sch whole i₀ r₀ (tuple vs) j n → 17 ≡ takes sch lim j → (values vs ≡ (node_at sch j).children → ⊥) →
      WriteReason sch lim whole i₀ r₀ (TupleLength (node_at sch j).children (values vs) n)
  -- 17: a tag names no child; the place is the record that bears it
  stray : {t j n : ℕ} {v : Value} →
      Met sch whole i₀ r₀ (variant t v) j n → 15 ≡ takes sch lim j → (node_at sch j).children ≤ t →
      WriteReason sch lim whole i₀ r₀ (InvalidVariantTag (node_at sch j).code t (node_at sch j).children (n + 1))
  stray_item : {t j n m : ℕ} {is : Items} {v : Value} →
      Met sch whole i₀ r₀ (repeated is) j n → 16 ≡ takes sch lim j → Has is (n + 1) t v m → (node_at sch j).children ≤ t →
      WriteReason sch lim whole i₀ r₀ (InvalidVariantTag (node_at sch j).code t (node_at sch j).children m)

module _ (sch : List ℕ) (lim : Limits) (whole : Value) (i₀ r₀ : ℕ) where
  mutual
    unfolding write value_kind Any

    write_says : (v : Value) (i r : ℕ) → Met sch whole i₀ r₀ v i r → WroteSays Any (WriteReason sch lim whole i₀ r₀) (write sch lim v i r)
    write_says nothing i r m = fits sch lim 0 i r (mismatch m) (λ q. puts tt)
    write_says (boolean x) i r m = fits sch lim 1 i r (mismatch m) (λ q. puts tt)
    write_says (number k x) i r m = fits sch lim k i r (mismatch m) (λ q. puts tt)
    write_says (wide k x) i r m = fits sch lim k i r (mismatch m) (λ q. puts tt)
    write_says (blob k x) i r m = fits sch lim k i r (mismatch m) (λ q. either (WroteSays _ _) _ (λ e. puts tt) (λ e. refuses (too_large m q (leb-false (length x) (blob_limit lim k) e))))
    write_says (variant t v) i r m = fits sch lim 15 i r (mismatch m) (λ q. tags sch lim t i (r + 1) (stray m q) (λ l.
        then (write_says v ((node_at sch i).first + t) (r + 1) (in_variant m l refl refl)) (λ x h. puts tt)))
    write_says (repeated is) i r m = fits sch lim 16 i r (mismatch m) (λ q. write_i_says is i (r + 1) is r m q (λ t v n h. h))
    write_says (tuple vs) i r m = fits sch lim 17 i r (mismatch m) (λ q. either (WroteSays _ _) _
        (λ e. write_v_says vs (node_at sch i).first (r + 1) (λ v j n h. in_tuple m h (eqb-true (values vs) (node_at sch i).children e)))
        (λ e. refuses (wrong_length m q (eqb-false (values vs) (node_at sch i).children e))))

    -- the items that are left are among all items
    write_i_says : (is : Items) (i r : ℕ) (all : Items) (n : ℕ) → Met sch whole i₀ r₀ (repeated all) i n → 16 ≡ takes sch lim i →
        ((t : ℕ) (v : Value) (m : ℕ) → Has is r t v m → Has all (n + 1) t v m) → WroteSays Any (WriteReason sch lim whole i₀ r₀) (write_i sch lim is i r)
    write_i_says done i r all n m q w = puts tt
    write_i_says (item t v is) i r all n m q w = tags sch lim t i r (stray_item m q (w t v r first)) (λ l.
        then (write_says v ((node_at sch i).first + t) r (in_repeated m (w t v r first) l refl)) (λ x h.
        then (write_i_says is i (r + records_of v) all n m q (λ u z k h. w u z k (later h))) (λ y k. puts tt)))

    -- each child that is left is met
    write_v_says : (vs : Values) (j r : ℕ) → ((v : Value) (k n : ℕ) → HasV vs j r v k n → Met sch whole i₀ r₀ v k n) → WroteSays Any (WriteReason sch lim whole i₀ r₀) (write_v sch lim vs j r)
    write_v_says none j r w = puts tt
    write_v_says (more v vs) j r w =
        then (write_says v j r (w v j r first_v)) (λ x h.
        then (write_v_says vs (j + 1) (r + records_of v) (λ u k n h. w u k n (later_v h))) (λ y k. puts tt))

-- A refusal of a row says what the walk met, where, and why that is not written.
pub honest_row : (sch : List ℕ) (lim : Limits) (v : Value) (x : Refusal) → write_row sch lim v ≡ Refused x → WriteReason sch lim v 0 0 x
unfolding write_row Any
honest_row sch lim v x e = refused (rw e at all)
  where
    all : WroteSays Any (WriteReason sch lim v 0 0) (write_row sch lim v)
    all = then (write_says sch lim v 0 0 v 0 0 itself) (λ b h. puts tt)

-- ---- the same against the flat table

-- what a refusal carries is what the record at its place says
pub data Blames (table store : List ℕ) : Refusal → Type 0 where
  -- 14: that record's kind and payload length
  blames_blob : {k len limit n : ℕ} →
      n < value_records_in (length table) → (value_record_at table n).kind ≡ k → (value_record_at table n).size ≡ len → limit < len →
      Blames table store (BlobTooLarge k len limit n)
  -- 15: its kind
  blames_kind : {code k n : ℕ} →
      n < value_records_in (length table) → (value_record_at table n).kind ≡ k →
      Blames table store (ValueDoesNotMatchSchema code k n)
  -- 16: its child count
  blames_tuple : {expected actual n : ℕ} →
      n < value_records_in (length table) → (value_record_at table n).kind ≡ 17 → (value_record_at table n).size ≡ actual → (actual ≡ expected → ⊥) →
      Blames table store (TupleLength expected actual n)
  -- 17: the tag that it bears
  blames_tag : {code t children n : ℕ} →
      n < value_records_in (length table) → (value_record_at table n).tag ≡ t → children ≤ t →
      Blames table store (InvalidVariantTag code t children n)

module _ (sch : List ℕ) (lim : Limits) (table store : List ℕ) (whole : Value) (i₀ : ℕ) (short : length table ≤ 4294967295) (is_table : TableOf whole table store) where
  from_start : Kept table whole 0 0
  from_start = record { before = 0; stands = unfold flat in ((whole_shows table (heads whole 0 0)).0 is_table.rows).0 }

  tag_blamed : (code t children n : ℕ) (v : Value) → children ≤ t → t < 256 ^ 2 → Kept table v t n → Blames table store (InvalidVariantTag code t children n)
  unfolding head_of
  tag_blamed code t children n v l f k = blames_tag (kept_in table v t n k) (tag_is table n (head_of v t k.before) (kept_head table v t n k) f) l

  size_told : (v : Value) (tag n : ℕ) → size_of v < 256 ^ 4 → Kept table v tag n → (value_record_at table n).size ≡ size_of v
  unfolding head_of
  size_told v tag n f k = size_is table n (head_of v tag k.before) (kept_head table v tag n k) f

  reason_blames : {x : Refusal} → WriteReason sch lim whole i₀ 0 x → Blames table store x
  unfolding below Fits value_kind size_of
  reason_blames (too_large {k = k} {n = n} {x = x} m q l) =
      let h = met_kept table sch from_start m in
      blames_blob (kept_in table (blob k x) h.0 n h.1) (kept_kind table (blob k x) h.0 n h.1) (size_told (blob k x) h.0 n (met_fits sch whole i₀ 0 is_table.fits m).1 h.1) l
  reason_blames (mismatch {n = n} {v = v} m q) =
      let h = met_kept table sch from_start m in
      blames_kind (kept_in table v h.0 n h.1) (kept_kind table v h.0 n h.1)
  reason_blames (wrong_length {n = n} {vs = vs} m q l) =
      let h = met_kept table sch from_start m in
      let b = h.1.before in
      let c = count_fits table store short (n + 1) (values vs) (below_v vs b) (kept_below table (tuple vs) h.0 n h.1) (rw (length-below_v vs b) (values_within vs)) in
      blames_tuple (kept_in table (tuple vs) h.0 n h.1) (kept_kind table (tuple vs) h.0 n h.1) (size_told (tuple vs) h.0 n c h.1) l
  reason_blames (stray {t = t} {j = j} {n = n} {v = v} m q l) =
      let h = met_kept table sch from_start m in
      tag_blamed (node_at sch j).code t (node_at sch j).children (n + 1) v l (met_fits sch whole i₀ 0 is_table.fits m).0 (variant_kept table t h.0 n (n + 1) v refl h.1)
  reason_blames (stray_item {t = t} {j = j} {n = n} {m = i} {is = is} {v = v} m q g l) =
      let h = met_kept table sch from_start m in
      tag_blamed (node_at sch j).code t (node_at sch j).children i v l (has_fits g (met_fits sch whole i₀ 0 is_table.fits m)).0 (has_kept table g h.1.before (kept_below table (repeated is) h.0 n h.1))

-- The place of a refusal is a record of the value table, and what the refusal carries of the value is what that record says.
pub blames : (sch : List ℕ) (lim : Limits) (table store : List ℕ) (v : Value) (x : Refusal) → length table ≤ 4294967295 → TableOf v table store → write_row sch lim v ≡ Refused x → Blames table store x
blames sch lim table store v x short t e = reason_blames sch lim table store v 0 short t (honest_row sch lim v x e)
