-- What the rule of value tables accepts is the table of the value that it answers.
-- Assumes nothing.
use Prim.Native.Nat.{ℕ, zero, suc, ◌+◌, ◌^◌, ◌≤◌, ◌<◌}
use mathlib.Core.Path.{◌≡◌, refl, sym, ap, ◌∙◌}
use mathlib.Core.Bool.{Bool, true, false}
use mathlib.Core.List.{List, []}
use native.Mathlib.Omega.{arith}
use borrow.Author.Tests.{ltb-true, leb-true, eqb-true}
use lib.ListN.{length}
use lib.Dec.{ltb, eqb}
use Rattle.rules.specs.Choice.{pick}
use Rattle.rules.specs.Bytes.{part}
use Rattle.rules.specs.Wire.{Form, empty, truth, fixed, raw, sized, variant_form, repeated_form, tuple_form, unknown, form}
use Rattle.rules.specs.Value.{Value, nothing, boolean, number, wide, blob, variant, repeated, tuple, Items, done, item, Values, none, more, tall, tall_i, tall_v, Fits, FitsI, FitsV, payload_of}
use Rattle.rules.specs.ValueRecord.{value_records_in, whole_value_records, value_record_at}
use Rattle.rules.specs.ValueTable.{payload_bytes, payload_bytes_i, payload_bytes_v, head_of, below, below_i, below_v, heads, flat, TableOf, Spot, Parsed, Whole, Broken, ◌>>=◌, Kind, scalar_kind, variant_kind, repeated_kind, tuple_kind, no_kind, kind_of, next, stored_at, scalar_at, tag_at, items_at, values_at, node_value, if_record_is, value_at, if_whole_table, table_value}
use Rattle.rules.specs.declared.table_record.ValueRecord.{ValueRecord}
use Rattle.rules.proofs.Tests.{and_both}
use Rattle.rules.proofs.Stands.{length_part, part-stands, stands_whole}
use Rattle.value_laws.proofs.Records.{whole_records, RecordIs, is_record_lem, tag_fits, size_fits, whole_shows}
use Rattle.value_laws.proofs.Sizes.{length_pays}
use Rattle.value_laws.proofs.Span.{Span, join, record_and, the_record, payload_span, no_span, span_in}

-- what is answered has the property
pub data Holds {A : Type 0} (P : A → Spot → Type 0) : Parsed A → Type 0 where
  holds : {a : A} {q : Spot} → P a q → Holds P (Whole a q)
  fails : Holds P Broken

pub then : {A B : Type 0} {P : A → Spot → Type 0} {Q : B → Spot → Type 0} {x : Parsed A} {k : A × Spot → Parsed B} → Holds P x → ((z : A × Spot) → P z.0 z.1 → Holds Q (k z)) → Holds Q (x >>= k)
unfolding ◌>>=◌
then (holds {a = a} {q = q} h) f = f (a, q) h
then fails f = fails

pub when : {A : Type 0} {P : A → Spot → Type 0} {x : Parsed A} (t : Bool) → (t ≡ true → Holds P x) → Holds P (pick t x Broken)
unfolding pick
when true f = f refl
when false f = fails

held : {A : Type 0} {P : A → Spot → Type 0} {a : A} {q : Spot} → Holds P (Whole a q) → P a q
held (holds h) = h

-- what holds of each kind of record holds of the kind of code k
kinds : (P : Kind → Type 0) (k : ℕ) → P (scalar_kind (form k)) → P variant_kind → P repeated_kind → P tuple_kind → P no_kind → P (kind_of k)
unfolding kind_of
kinds P k a b c d e = by (ltb k 15) a (by (eqb k 15) b (by (eqb k 16) c (by (eqb k 17) d e)))
  where
    by : {x y : Kind} (t : Bool) → P x → P y → P (pick t x y)
    by true u w = unfold pick in u
    by false u w = unfold pick in w

module _ (table store : List ℕ) where
  -- from p to q stand the records and the payload of v, chosen by `tag`, at most d deep
  pub record Reads (d tag : ℕ) (p : Spot) (v : Value) (q : Spot) : Type 0 where
    pub span : Span table store p q (heads v tag p.from) (payload_bytes v)
    pub fits : Fits v
    pub depth : tall v ≤ d

  -- from p to q stand the records and the payload of items
  pub record ReadsI (d : ℕ) (p : Spot) (is : Items) (q : Spot) : Type 0 where
    pub span : Span table store p q (below_i is p.from) (payload_bytes_i is)
    pub fits : FitsI is
    pub depth : tall_i is ≤ d

  -- from p to q stand the records and the payload of children of a tuple
  pub record ReadsV (d : ℕ) (p : Spot) (vs : Values) (q : Spot) : Type 0 where
    pub span : Span table store p q (below_v vs p.from) (payload_bytes_v vs)
    pub fits : FitsV vs
    pub depth : tall_v vs ≤ d

  -- all of v but its own record stands after p; if the record at p is one, it holds what v needs
  record Below (d : ℕ) (p : Spot) (v : Value) (q : Spot) : Type 0 where
    span : Span table store (next table store p) q (below v p.from) (payload_bytes v)
    fits : (r : ValueRecord) → RecordIs table p.at r → Fits v
    depth : tall v ≤ d

  -- n payload bytes that are taken out of the store stand there
  stored_reads : (make : List ℕ → Value) (n d : ℕ) (p : Spot) →
      ((x : List ℕ) → length x ≡ n → (below (make x) p.from ≡ []) × ((payload_bytes (make x) ≡ x) × ((tall (make x) ≤ d) × ((r : ValueRecord) → RecordIs table p.at r → Fits (make x))))) →
      Holds (Below d p) (stored_at table store make n p)
  unfolding stored_at
  stored_reads make n d p is = when _ (λ t.
      let x = part store p.from n in
      let e : length x ≡ n = length_part store p.from n in
      let m = is x e in
      holds (record {
        span = rw (m.0, m.1.0) (payload_span table store (next table store p) n x e (part-stands store p.from n (leb-true _ _ t)));
        fits = m.1.1.1;
        depth = m.1.1.0;
      }))

  scalar_reads : (f : Form) (d : ℕ) (p : Spot) → form (value_record_at table p.at).kind ≡ f → p.from ≤ length store → Holds (Below (suc d) p) (scalar_at table store f (value_record_at table p.at) p)
  unfolding scalar_at below payload_bytes Fits tall
  scalar_reads empty d p e l = holds {a = nothing} (record { span = no_span table store (next table store p) l; fits = λ r h. tt; depth = omega arith })
  scalar_reads truth d p e l = holds {a = boolean (ltb 0 (value_record_at table p.at).content)} (record { span = no_span table store (next table store p) l; fits = λ r h. tt; depth = omega arith })
  scalar_reads (fixed w) d p e l = when _ (λ t.
      let x = (value_record_at table p.at).content in
      holds {a = number (value_record_at table p.at).kind x} (record { span = no_span table store (next table store p) l; fits = λ r h. (w, (e, ltb-true x (256 ^ w) t)); depth = omega arith }))
  scalar_reads (raw w) d p e l = stored_reads (wide (value_record_at table p.at).kind) w (suc d) p (λ x n. (refl, (refl, (omega arith, λ r h. e ∙ ap raw (sym n)))))
  scalar_reads sized d p e l = stored_reads (blob (value_record_at table p.at).kind) (value_record_at table p.at).size (suc d) p (λ x n. (refl, (refl, (omega arith, λ r h. (e, rw n (size_fits table p.at r h))))))
  scalar_reads (variant_form w) d p e l = fails
  scalar_reads (repeated_form w) d p e l = fails
  scalar_reads tuple_form d p e l = fails
  scalar_reads unknown d p e l = fails

  -- how a child is read
  Reader : ℕ → (ℕ → Spot → Parsed Value) → Type 0
  Reader d child = (tag : ℕ) (p : Spot) → p.from ≤ length store → Holds (Reads d tag p) (child tag p)

  -- a tag that a child's record bears fits its two bytes
  bears : {v : Value} {q : Spot} (d tag : ℕ) (p : Spot) → Reads d tag p v q → tag_at table store p.at < 256 ^ 2
  unfolding heads
  bears {v} d tag p a = tag_fits table p.at (head_of v tag p.from) (the_record table store _ _ _ a.span)

  -- the payload of what follows begins where that of v ends
  goes_on_lem : {v : Value} {q : Spot} (d tag : ℕ) (p : Spot) (rest : ℕ → List ValueRecord) → Reads d tag p v q → rest q.from ≡ rest (p.from + payload_of v)
  goes_on_lem {v} {q} d tag p rest a = ap rest (rw (length_pays v) at a.span.from_end)

  items_read : (d : ℕ) (child : ℕ → Spot → Parsed Value) → Reader d child → (n : ℕ) (p : Spot) → p.from ≤ length store → Holds (ReadsI d p) (items_at table store child n p)
  unfolding Reader items_at heads below_i payload_bytes_i FitsI tall_i
  items_read d child ok zero p l = holds {a = done} (record { span = no_span table store p l; fits = tt; depth = omega arith })
  items_read d child ok (suc n) p l =
      let t = tag_at table store p.at in
      then (ok t p l) (λ (v, q) a.
      then (items_read d child ok n q (span_in table store a.span)) (λ (is, r) b.
      holds {a = item t v is} {q = r} (record {
        span = rw (← (goes_on_lem d t p (below_i is) a)) (join table store (heads v t p.from) (below_i is q.from) (payload_bytes v) (payload_bytes_i is) a.span b.span);
        fits = (bears d t p a, (a.fits, b.fits));
        depth = omega (arith, a.depth, b.depth);
      })))

  values_read : (d : ℕ) (child : ℕ → Spot → Parsed Value) → Reader d child → (n : ℕ) (p : Spot) → p.from ≤ length store → Holds (ReadsV d p) (values_at table store child n p)
  unfolding Reader values_at heads below_v payload_bytes_v FitsV tall_v
  values_read d child ok zero p l = holds {a = none} (record { span = no_span table store p l; fits = tt; depth = omega arith })
  values_read d child ok (suc n) p l =
      then (ok 0 p l) (λ (v, q) a.
      then (values_read d child ok n q (span_in table store a.span)) (λ (vs, r) b.
      holds {a = more v vs} {q = r} (record {
        span = rw (← (goes_on_lem d 0 p (below_v vs) a)) (join table store (heads v 0 p.from) (below_v vs q.from) (payload_bytes v) (payload_bytes_v vs) a.span b.span);
        fits = (a.fits, b.fits);
        depth = omega (arith, a.depth, b.depth);
      })))

  node_reads : (d : ℕ) (child : ℕ → Spot → Parsed Value) → Reader d child → (p : Spot) → p.from ≤ length store →
      Holds (Below (suc d) p) (node_value table store child (kind_of (value_record_at table p.at).kind) (value_record_at table p.at) p)
  unfolding Reader node_value below heads payload_bytes Fits tall
  node_reads d child ok p l =
      let r = value_record_at table p.at in
      kinds (λ k. Holds (Below (suc d) p) (node_value table store child k r p)) r.kind
      (scalar_reads (form r.kind) d p refl l)
      (let t = tag_at table store (p.at + 1) in
      then (ok t (next table store p) l) (λ (v, q) a.
      holds {a = variant t v} {q = q} (record { span = a.span; fits = λ x h. (bears d t (next table store p) a, a.fits); depth = omega (arith, a.depth) })))
      (then (items_read d child ok r.size (next table store p) l) (λ (is, q) a.
      holds {a = repeated is} {q = q} (record { span = a.span; fits = λ x h. a.fits; depth = omega (arith, a.depth) })))
      (then (values_read d child ok r.size (next table store p) l) (λ (vs, q) a.
      holds {a = tuple vs} {q = q} (record { span = a.span; fits = λ x h. a.fits; depth = omega (arith, a.depth) })))
      fails

  -- the test of the record makes it whole
  headed_reads : (d tag : ℕ) (p : Spot) (x : Parsed Value) → Holds (Below d p) x → Holds (Reads d tag p) (if_record_is table store tag p x)
  unfolding if_record_is heads
  headed_reads d tag p (Whole v q) a = when _ (λ t.
      let b = held a in
      let h = (is_record_lem table p.at (head_of v tag p.from)).0 t in
      holds {a = v} {q = q} (record { span = record_and table store (head_of v tag p.from) (below v p.from) (payload_bytes v) h b.span; fits = b.fits _ h; depth = b.depth }))
  headed_reads d tag p Broken a = fails

  -- a value that is read at a spot has its records and its payload from there on
  pub reads : (d tag : ℕ) (p : Spot) → p.from ≤ length store → Holds (Reads d tag p) (value_at table store d tag p)
  unfolding value_at Reader
  reads zero tag p l = fails
  reads (suc d) tag p l = headed_reads (suc d) tag p _ (node_reads d (value_at table store d) (reads d) p l)

  exact : Holds (λ v q. TableOf v table store) (table_value table store)
  unfolding table_value
  exact = when _ (λ e. by (value_at table store 64 0 (record { at = 0; from = 0 })) (reads 64 0 (record { at = 0; from = 0 }) (omega arith)) e)
    where
      by : (x : Parsed Value) → Holds (Reads 64 0 (record { at = 0; from = 0 })) x → whole_value_records (length table) ≡ true → Holds (λ v q. TableOf v table store) (if_whole_table table store x)
      by (Whole v q) h m = unfold if_whole_table flat in when _ (λ t.
          let a = held h in
          let b = and_both _ _ t in
          let w = (whole_records (length table)).0 m in
          let i : q.at ≡ value_records_in (length table) = eqb-true _ _ b.0 in
          let f : q.from ≡ length store = eqb-true _ _ b.1 in
          holds (record {
            rows = (whole_shows table (heads v 0 0)).1 (a.span.rows_stand, omega (arith, a.span.at_end));
            payload = stands_whole store (payload_bytes v) a.span.payload_stands (omega (arith, a.span.from_end));
            fits = a.fits;
            depth = a.depth;
          }))
      by Broken h m = unfold if_whole_table in fails

-- What the rule accepts is the table of the value that it answers.
pub is_table : (r y : List ℕ) (v : Value) (q : Spot) → table_value r y ≡ Whole v q → TableOf v r y
is_table r y v q e = held (rw e at (exact r y))
