-- The walk that skip makes is the rules' walk, its value forgotten.
-- Assumes nothing.
use Rattle.rules.specs.declared.refusal.Refusal.{Refusal}
use Rattle.std.proofs.Common.{Result, Ok, Err}
use Prim.Native.Nat.{ℕ, zero, suc, ◌+◌, ◌-◌}
use mathlib.Core.Path.{◌≡◌, refl, ◌∙◌}
use mathlib.Core.Bool.{Bool, true, false}
use mathlib.Core.List.{List}
use native.Mathlib.Nat.{add-zero}
use lib.ListN.{length}
use lib.Dec.{ltb, leb}
use Rattle.rules.specs.Choice.{pick}
use Rattle.rules.specs.Bytes.{le_at, part}
use Rattle.rules.specs.Wire.{Form, empty, truth, fixed, raw, sized, variant_form, repeated_form, tuple_form, unknown, form}
use Rattle.rules.specs.Block.{node_at}
use Rattle.rules.specs.Value.{boolean}
use Rattle.rules.specs.Walk as rule
use Rattle.rules.specs.declared.table_record.Node.{Node}
use Rattle.rules.specs.Refusals.{Truncated, RowTooLarge}
use Rattle.leaves.specs.Budget.{spent, longest}
use Rattle.leaves.specs.Fields.{read_number_at}
use Rattle.leaves.specs.Leaf.{◌>>=◌, reading, bytes_past, having, skim_charge, stored, skim_bytes, skim_blob}
use Rattle.read.specs.Skim.{skim_pos, skimmed, counted, Skimmer, skim_child, skim_variant, skim_pairs, skim_fields, skim_form, skim_node, skim}
use Rattle.leaves.specs.declared.leaf.SkipPos.{SkipPos}

module _ (lim : rule.Limits) where
  -- ---- steps

  -- one whose value is forgotten
  drops : {A B : Type 0} (x : rule.Answer A) (k : A × rule.Pos → rule.Answer B) (g : SkipPos → Result SkipPos Refusal) → ((z : A × rule.Pos) → skimmed lim (k z) ≡ g (skim_pos lim z.1)) →
      skimmed lim (rule.◌>>=◌ x k) ≡ skimmed lim x >>= g
  unfolding rule.◌>>=◌ skimmed ◌>>=◌
  drops (rule.Got a q) k g e = e (a, q)
  drops (rule.Refused r) k g e = refl

  -- a last one, whose value is wrapped
  wraps : {A B : Type 0} (x : rule.Answer A) (f : A → B) → skimmed lim (rule.◌>>=◌ x (λ z. rule.Got (f z.0) z.1)) ≡ skimmed lim x
  unfolding rule.◌>>=◌ skimmed
  wraps (rule.Got a q) f = refl
  wraps (rule.Refused r) f = refl

  picks : {A : Type 0} (b : Bool) (x y : rule.Answer A) (u v : Result SkipPos Refusal) → skimmed lim x ≡ u → skimmed lim y ≡ v → skimmed lim (pick b x y) ≡ pick b u v
  unfolding pick
  picks true x y u v e h = e
  picks false x y u v e h = h

  module _ (inp : List ℕ) where
    -- a number that the rest of the walk uses
    number_same : {A : Type 0} (w context : ℕ) (p : rule.Pos) (k : ℕ × rule.Pos → rule.Answer A) (g : ℕ → SkipPos → Result SkipPos Refusal) → ((z : ℕ × rule.Pos) → skimmed lim (k z) ≡ g z.0 (skim_pos lim z.1)) →
        skimmed lim (rule.◌>>=◌ (rule.number_of inp w context p) k) ≡ reading (read_number_at inp w context p.at) (skim_pos lim p) g
    unfolding rule.◌>>=◌ rule.number_of skimmed skim_pos read_number_at reading pick
    number_same w context p k g e = go (leb w (length inp - p.at))
      where
        go : (b : Bool) →
            skimmed lim (rule.◌>>=◌ (pick b (rule.Got (le_at inp p.at w) (rule.onward w p)) (rule.Refused (Truncated context p.at))) k)
            ≡ reading (pick b (Ok ((le_at inp p.at w), (p.at + w))) (Err (Truncated context p.at))) (skim_pos lim p) g
        go true = e (le_at inp p.at w, rule.onward w p)
        go false = refl

    -- one that is wrapped
    bytes_past_same : {A : Type 0} (w context : ℕ) (p : rule.Pos) (f : ℕ → A) → skimmed lim (rule.◌>>=◌ (rule.number_of inp w context p) (λ z. rule.Got (f z.0) z.1)) ≡ bytes_past inp w context (skim_pos lim p)
    unfolding rule.number_of skimmed skim_pos bytes_past
    bytes_past_same w context p f = wraps (rule.number_of inp w context p) f ∙ picks (leb w (length inp - p.at)) _ _ _ _ refl refl

    -- bytes that are payload
    bytes_same : {A : Type 0} (n context : ℕ) (p : rule.Pos) (f : List ℕ → A) → skimmed lim (rule.◌>>=◌ (rule.bytes_of inp n context p) (λ z. rule.Got (f z.0) z.1)) ≡ skim_bytes inp n context n (skim_pos lim p)
    unfolding rule.bytes_of skimmed skim_pos skim_bytes bytes_past stored ◌>>=◌ pick
    bytes_same n context p f = wraps (rule.bytes_of inp n context p) f ∙ go (leb n (length inp - p.at))
      where
        go : (b : Bool) →
            skimmed lim (pick b (rule.Got (part inp p.at n) (record { at = p.at + n; left = p.left; records = p.records; payload = p.payload + n })) (rule.Refused (Truncated context p.at)))
            ≡ pick b (Ok (skim_pos lim (rule.onward n p))) (Err (Truncated context p.at)) >>= (λ q. (Ok (stored n q)))
        go true = refl
        go false = refl

  -- a charge, for r records
  charged_same : {A : Type 0} (cost r place : ℕ) (p : rule.Pos) (k : Unit × rule.Pos → rule.Answer A) (g : SkipPos → Result SkipPos Refusal) →
      ((q : rule.Pos) → skimmed lim (k (tt, record { at = q.at; left = q.left; records = q.records + r; payload = q.payload })) ≡ g (skim_pos lim q)) →
      skimmed lim (rule.◌>>=◌ (rule.charged lim cost r place p) k) ≡ skim_charge cost place (skim_pos lim p) >>= g
  unfolding rule.◌>>=◌ rule.charged skimmed skim_pos skim_charge having spent ◌>>=◌ pick
  charged_same cost r place p k g e = go (leb cost p.left)
    where
      less : rule.Pos
      less = record { at = p.at; left = p.left - cost; records = p.records; payload = p.payload }

      go : (b : Bool) →
          skimmed lim (rule.◌>>=◌ (pick b (rule.Got tt (record { at = p.at; left = p.left - cost; records = p.records + r; payload = p.payload })) (rule.Refused (RowTooLarge lim.row place))) k)
          ≡ having (skim_pos lim p) (pick b (Ok (skim_pos lim less).budget) (Err (RowTooLarge lim.row place))) >>= g
      go true = e less
      go false = refl

  -- ---- values

  module _ (inp : List ℕ) (rec : rule.Walker) (below : Skimmer) (ok : (i : ℕ) (p : rule.Pos) → skimmed lim (rec i p) ≡ below i (skim_pos lim p)) where
    child_same : (n : Node) (tag place : ℕ) (p : rule.Pos) → skimmed lim (rule.child_of rec n tag place p) ≡ skim_child inp below n.code n.first n.children place tag (skim_pos lim p)
    unfolding rule.child_of skim_child skimmed
    child_same n tag place p = picks _ _ _ _ _ (ok _ p) refl

    fields_same : (i n : ℕ) (p : rule.Pos) → skimmed lim (rule.fields_of rec i n p) ≡ skim_fields below i n (skim_pos lim p)
    unfolding rule.fields_of skim_fields skimmed
    fields_same i zero p = refl
    fields_same i (suc n) p = drops (rec i p) _ (λ q. skim_fields below (i + 1) n q) (λ z. wraps _ _ ∙ fields_same (i + 1) n z.1) ∙ rw (ok i p)

    pairs_same : (n : Node) (w enough : ℕ) (p : rule.Pos) → skimmed lim (rule.pairs_of inp rec n w enough p) ≡ skim_pairs inp below n.code n.first n.children w enough (skim_pos lim p)
    unfolding rule.pairs_of skim_pairs skimmed skim_pos
    pairs_same n w zero p = refl
    pairs_same n w (suc enough) p = number_same inp w (14 + w) p _ _ (λ (t, q).
        picks _ _ _ _ _ refl (drops (rule.child_of rec n t p.at q) _ (λ r. skim_pairs inp below n.code n.first n.children w enough r) (λ z. wraps _ _ ∙ pairs_same n w enough z.1) ∙ rw (child_same n t p.at q)))

    blob_same : (code : ℕ) (p : rule.Pos) → skimmed lim (rule.blob_of inp lim code p) ≡ skim_blob inp code (skim_pos lim p)
    unfolding rule.blob_of rule.blob_limit skim_blob longest skimmed skim_pos
    blob_same code p = number_same inp 4 13 p _ _ (λ (n, q).
        picks _ _ _ _ _ (charged_same n 0 p.at q _ _ (λ r. rw (add-zero r.records) (bytes_same inp n 14 r _))) refl)

    value_same : (n : Node) (f : Form) (p : rule.Pos) → skimmed lim (rule.value_of inp lim rec n f p) ≡ skim_form inp below n.code n.first n.children f (skim_pos lim p)
    unfolding rule.value_of skim_form skim_variant skimmed skim_pos
    value_same n empty p = refl
    value_same n truth p = bytes_past_same inp 1 n.code p (λ x. boolean (ltb 0 x))
    value_same n (fixed w) p = bytes_past_same inp w n.code p _
    value_same n (raw w) p = bytes_same inp w n.code p _
    value_same n sized p = blob_same n.code p
    value_same n (variant_form w) p = number_same inp w (14 + w) p _ _ (λ (t, q). wraps _ _ ∙ child_same n t p.at q)
    value_same n (repeated_form w) p = wraps _ _ ∙ pairs_same n w (suc (length inp - p.at)) p
    value_same n tuple_form p = wraps _ _ ∙ fields_same n.first n.children p
    value_same n unknown p = refl

  pub skim_same : (sch inp : List ℕ) (d i : ℕ) (p : rule.Pos) → skimmed lim (rule.walk sch inp lim d i p) ≡ skim sch inp lim.charge d i (skim_pos lim p)
  unfolding rule.walk skim skimmed skim_pos skim_node counted
  skim_same sch inp zero i p = refl
  skim_same sch inp (suc d) i p = charged_same lim.charge 1 p.at p _ _ (λ q.
      value_same inp (rule.walk sch inp lim d) (skim sch inp lim.charge d) (skim_same sch inp d) (node_at sch i) (form (node_at sch i).code) (record { at = q.at; left = q.left; records = q.records + 1; payload = q.payload }))
