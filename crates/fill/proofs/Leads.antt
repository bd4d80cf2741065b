-- What a node comes to at once: a leaf that is it, or a leaf that its tag names.
-- Assumes nothing.
use Rattle.std.proofs.Common.{Option, Some, None}
use Prim.Native.Nat.{ℕ, ◌+◌, ◌-◌, ◌≤◌, ◌<◌}
use mathlib.Core.Path.{◌≡◌, refl, sym, subst, ◌∙◌}
use mathlib.Core.List.{List, [], ◌++◌}
use native.Mathlib.Omega.{arith}
use lib.ListN.{length}
use Rattle.rules.specs.Bytes.{le_at, over}
use Rattle.rules.specs.Wire.{variant_form, form, width_of}
use Rattle.rules.specs.Block.{NodeIn, node_at, Closed}
use Rattle.rules.specs.Value.{Value, variant, records_of, payload_of, tally}
use Rattle.rules.specs.ValueRecord.{value_record_start, value_record, layout, layouts}
use Rattle.rules.specs.ValueTable.{payload_bytes, value_kind, size_of, content_of, head_of, below, heads, flat}
use Rattle.rules.specs.declared.table_record.Node.{Node}
use Rattle.rules.proofs.Over.{over-at}
use Rattle.value_laws.proofs.Records.{length-layout}
use Rattle.leaves.proofs.Codes.{form_variant, tag_some}
use Rattle.fill.specs.declared.FillPos.{FillPos}
use Rattle.fill.specs.Plain.{PlainRead, Got, IsGot, value_read, end_read, leaf_at, Reader, by_form, read_at}
use Rattle.fill.specs.Filling.{past_filled}
use Rattle.fill.specs.Leads.{Held, Rest, LeadsToFill}
use Rattle.fill.proofs.Got.{got_from, got_is, read_step, step, number_step, child_step}
use Rattle.fill.proofs.Children.{leaf_read}
use Rattle.fill.proofs.Going.{spot}

-- ---- a variant that was read

-- its tag is there and names a child, whose value is its own
pub record Chosen (inp : List ℕ) (rec : Reader) (n : Node) (w at : ℕ) (v : Value) (z : ℕ) : Type 0 where
  pub there : w ≤ length inp - at
  pub inside : le_at inp at w < n.children
  pub is : IsGot (rec (n.first + le_at inp at w) (at + w))
  pub value : v ≡ variant (le_at inp at w) (value_read (rec (n.first + le_at inp at w) (at + w)))
  pub ends : z ≡ end_read (rec (n.first + le_at inp at w) (at + w))

choose : (inp : List ℕ) (rec : Reader) (n : Node) (w at : ℕ) (v : Value) (z : ℕ) → by_form inp rec n (variant_form w) at ≡ Got v z → Chosen inp rec n w at v z
unfolding by_form value_read end_read
choose inp rec n w at v z e =
    let a = number_step v z inp w at _ e in
    let b = child_step v z rec n (le_at inp at w) (at + w) _ a.1 in
    let s = step _ _ v z b.1 in
    record { there = a.0; inside = b.0; is = got_from _ _ _ s.is; value = rw s.is (cc); ends = rw s.is (cc) }

chosen : (sch inp : List ℕ) (d i at : ℕ) → 14 < (node_at sch i).code → (node_at sch i).code < 17 → IsGot (read_at sch inp d i at) →
    Chosen inp (read_at sch inp (d - 1)) (node_at sch i) (width_of (form (node_at sch i).code)) at (value_read (read_at sch inp d i at)) (end_read (read_at sch inp d i at))
chosen sch inp d i at h l g =
    let e = sym (read_step sch inp d i at g).1 ∙ got_is (read_at sch inp d i at) g in
    choose inp _ _ _ at _ _ (rw (form_variant (node_at sch i).code h l) at e)

-- ---- what is left to fill

self_rest : (x y : PlainRead Value) (tag : ℕ) (s : FillPos) (rs : List ℕ) → x ≡ y → Rest x tag s rs y tag s rs
self_rest x y tag s rs e = record { room = λ n m h. rw e at h; fills = λ r rs'' ps ps' w. rw e w }

module _ (t : ℕ) (v : Value) where
  variant_records : records_of (variant t v) ≡ 1 + records_of v
  unfolding records_of tally
  variant_records = omega arith

  variant_payload : payload_of (variant t v) ≡ payload_of v
  unfolding payload_of tally
  variant_payload = omega arith

  variant_flat : (tag p : ℕ) → flat (variant t v) tag p ≡ layout (value_record 15 tag 1 0) ++ flat v t p
  unfolding flat layouts heads head_of value_kind size_of content_of below
  variant_flat tag p = refl

  variant_pays : payload_bytes (variant t v) ≡ payload_bytes v
  unfolding payload_bytes
  variant_pays = refl

-- of a variant, once its own record is written: its child
variant_rest : (x y : PlainRead Value) (t tag at : ℕ) (s : FillPos) (rs rs' : List ℕ) → IsGot y → value_read x ≡ variant t (value_read y) → end_read x ≡ end_read y →
    rs' ≡ over rs (value_record_start s.records) (layout (value_record 15 tag 1 0)) → Rest x tag s rs y t (spot at (s.records + 1) s.payload) rs'
unfolding past_filled
variant_rest x y t tag at s rs rs' g e f h =
    let v = value_read y in
    let a = layout (value_record 15 tag 1 0) in
    let m : value_record_start (s.records + 1) ≡ value_record_start s.records + length a = rw length-layout (omega arith) in
    let k : (s.records + 1) + records_of v ≡ s.records + (1 + records_of v) = omega arith in
    record {
      room = λ n m r. record {
        is = g;
        records = omega (arith, rw (e, variant_records t v) at r.records);
        payload = rw (e, variant_payload t v) at r.payload;
      };
      fills = λ r rs'' ps ps' w. record {
        spot = rw (f, e, variant_records t v, variant_payload t v, ← k) w.spot;
        records = w.records ∙ rw (h, e, variant_flat t v) (over-at a (flat v t s.payload) rs (value_record_start s.records) (value_record_start (s.records + 1)) m);
        payload = rw (e, variant_pays t v) w.payload;
      };
    }

-- ---- what a node comes to

module _ (sch inp : List ℕ) (d i code : ℕ) (c : code ≡ (node_at sch i).code) (s : FillPos) (tag : ℕ) (rs : List ℕ) where
  -- a leaf is its own
  pub leads_self : (n : ℕ) → Held (read_at sch inp d i s.at) s n → code < 15 → LeadsToFill (read_at sch inp d i s.at) inp code tag s rs rs (Some (code, tag, s))
  unfolding LeadsToFill
  leads_self n k h = (h, self_rest _ _ tag s rs (rw c (leaf_read sch inp d i s.at (rw (← c) h) k.is)))

  pub leads_on : 15 ≤ code → LeadsToFill (read_at sch inp d i s.at) inp code tag s rs rs None
  unfolding LeadsToFill
  leads_on h = (h, refl)

  -- and a variant the leaf that its tag names, once its record is written
  module _ (g : IsGot (read_at sch inp d i s.at)) (h : 14 < code) (l : code < 17) (t w : ℕ) (is : t ≡ le_at inp s.at (width_of (form code))) (p : w ≡ width_of (form code)) (first : ℕ) (f : first ≡ (node_at sch i).first) where
    wide : width_of (form (node_at sch i).code) ≡ w
    wide = rw (← c) (sym p)

    tagged : t ≡ le_at inp s.at w
    tagged = rw p is

    k : Chosen inp (read_at sch inp (d - 1)) (node_at sch i) w s.at (value_read (read_at sch inp d i s.at)) (end_read (read_at sch inp d i s.at))
    k = subst (λ (w : ℕ). Chosen inp (read_at sch inp (d - 1)) (node_at sch i) w s.at (value_read (read_at sch inp d i s.at)) (end_read (read_at sch inp d i s.at))) wide (chosen sch inp d i s.at (rw c at h) (rw c at l) g)

    within : s.at + w ≤ length inp
    within = omega (arith, k.there, p, tag_some code h (omega arith))

    child : (node_at sch i).first + le_at inp s.at w ≡ first + t
    child = omega (arith, tagged, f)

    inside : first + t < (node_at sch i).first + (node_at sch i).children
    inside = omega (arith, k.inside, child)

    pub leads_child : (below : ℕ) → below ≡ (node_at sch (first + t)).code → below < 15 → (rs' : List ℕ) → rs' ≡ over rs (value_record_start s.records) (layout (value_record 15 tag 1 0)) →
        LeadsToFill (read_at sch inp d i s.at) inp code tag s rs rs' (Some (below, t, (spot (s.at + w) (s.records + 1) s.payload)))
    unfolding LeadsToFill
    leads_child below u q rs' z =
        let y = leaf_read sch inp (d - 1) (first + t) (s.at + w) (rw (← u) q) (rw child at k.is) in
        (q, rw (u, ← y) (variant_rest _ _ t tag (s.at + w) s rs rs' (rw child at k.is) (rw (child, ← tagged) at k.value) (rw child at k.ends) z))

-- where a variant was read, its tag is there and names a node of the block
module _ (sch inp : List ℕ) (d i code : ℕ) (s : FillPos) (n : ℕ) (k : Closed sch × NodeIn i (length sch) × (code ≡ (node_at sch i).code) × Held (read_at sch inp d i s.at) s n) (h : 14 < code) (l : code ≤ 16) where
  pub tag_there : (14 < code) × (code < 19) × (s.at + width_of (form code) ≤ length inp)
  tag_there = (h, omega arith, within sch inp d i code k.2 s 0 [] k.3.is h (omega arith) _ _ refl refl _ refl)

  pub child_there : (t : ℕ) → t ≡ le_at inp s.at (width_of (form code)) → (first : ℕ) → first ≡ (node_at sch i).first → NodeIn (first + t) (length sch)
  unfolding Closed
  child_there t is first f =
      let a = inside sch inp d i code k.2 s 0 [] k.3.is h (omega arith) t _ is refl first f in
      omega (arith, a, k.0 i k.1)

-- ---- what the caller learns

module _ (x : PlainRead Value) (inp : List ℕ) (code tag : ℕ) (s : FillPos) (rs rs' : List ℕ) (a : Option (ℕ × ℕ × FillPos)) (l : LeadsToFill x inp code tag s rs rs' a) where
  pub reached_leaf : (c t : ℕ) (q : FillPos) → a ≡ Some (c, t, q) → (c < 15) × Rest x tag s rs (leaf_at inp c (form c) q.at) t q rs'
  unfolding LeadsToFill
  reached_leaf c t q e = subst (λ (y : Option (ℕ × ℕ × FillPos)). LeadsToFill x inp code tag s rs rs' y) e l

  pub reached_children : a ≡ None → (14 < code) × (rs' ≡ rs)
  unfolding LeadsToFill
  reached_children e = subst (λ (y : Option (ℕ × ℕ × FillPos)). LeadsToFill x inp code tag s rs rs' y) e l
