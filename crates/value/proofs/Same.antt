-- The walk of the check is the rules' reading of a value table, its value forgotten.
-- Assumes nothing.
use Rattle.std.proofs.Common.{Option, Some, None}
use Prim.Native.Nat.{ℕ, zero, suc, ◌+◌, ◌-◌, ◌^◌, ◌≤◌, ◌<◌}
use mathlib.Core.Path.{◌≡◌, refl, sym, ap, ◌∙◌}
use mathlib.Core.Bool.{Bool, true, false}
use mathlib.Core.List.{List}
use native.Mathlib.Omega.{arith}
use native.Mathlib.Nat.{add-zero}
use borrow.Author.Tests.{lt-ltb, le-ltb, lt-leb, eq-eqb, ne_eqb, ltb-true, ltb-false, eqb-true, eqb-false}
use lib.Dec.{ltb, leb, eqb}
use lib.ListN.{length}
use Rattle.rules.specs.Choice.{pick, ◌and◌}
use Rattle.rules.specs.Bytes.{Bytes, part}
use Rattle.rules.specs.Wire.{Form, empty, truth, fixed, raw, sized, variant_form, repeated_form, tuple_form, unknown, form}
use Rattle.rules.specs.Value.{Value, nothing, boolean, number, variant, repeated, tuple, Items, Values, items, values, wide, blob}
use Rattle.rules.specs.ValueRecord.{value_records_in, value_record, value_record_at}
use Rattle.rules.specs.ValueTable as rule
use Rattle.rules.specs.ValueTable.{bit, value_kind, size_of, content_of, head_of, Parsed, Whole, kind_of, stored_at, scalar_at, tag_at, items_at, values_at, node_value, if_record_is, value_at}
use Rattle.rules.specs.declared.table_record.ValueRecord.{ValueRecord}
use Rattle.rules.proofs.Tests.{and_both, and_false, span_leb}
use Rattle.rules.proofs.Stands.{le_at_lt, length_part}
use Rattle.value_laws.proofs.Codes.{empty_code, truth_code}
use Rattle.value_laws.proofs.Parse.{Holds, holds, fails, then, when}
use Rattle.rules.specs.Query.{scalar_alone, parent_alone}
use Rattle.value.specs.Records.{tag_ok, stored_ok, has_payload, scalar_ok, value_record_ok}
use Rattle.value.specs.Walk.{◌>>=◌, past, next_record, walk_children, walk_on, walk_table}
use Rattle.value.specs.declared.TablePos.{TablePos}
use Rattle.value.proofs.Standing.{same_test, is_each, record_test}
use Rattle.value.proofs.Walks.{walk_ends}
use Rattle.value.proofs.Fields.{raw_width}

-- ---- forgetting

-- a spot of the rules, as the code has it
abbrev pub spot : rule.Spot → TablePos
spot p = record { at = p.at; from = p.from }

-- where a value ends, without the value
unfoldable pub forgot : {A : Type 0} → Parsed A → Option TablePos
forgot (Whole a q) = Some (spot q)
forgot rule.Broken = None

-- a step, and what follows where it ends
drops : {A B : Type 0} (x : Parsed A) (k : A × rule.Spot → Parsed B) (w : Option TablePos) (g : TablePos → Option TablePos) → forgot x ≡ w → ((a : A) (q : rule.Spot) → w ≡ Some (spot q) → forgot (k (a, q)) ≡ g (spot q)) →
    forgot (rule.◌>>=◌ x k) ≡ w >>= g
unfolding rule.◌>>=◌ forgot ◌>>=◌
drops (Whole a q) k w g e f = rw (← e) (f a q (sym e))
drops rule.Broken k w g e f = rw (← e)

-- a last step, whose value is wrapped
wraps : {A B : Type 0} (x : Parsed A) (f : A → B) → forgot (rule.◌>>=◌ x (λ z. Whole (f z.0) z.1)) ≡ forgot x
unfolding rule.◌>>=◌ forgot
wraps (Whole a q) f = refl
wraps rule.Broken f = refl

-- ---- tests

-- one test more on both sides
under : (a f g : Bool) (x y : Option TablePos) → pick f x None ≡ pick g y None → pick (a and f) x None ≡ pick (a and g) y None
unfolding pick ◌and◌
under true f g x y e = e
under false f g x y e = refl

-- one test that both have, and what it tells
both : (t u : Bool) (x y : Option TablePos) → t ≡ u → (t ≡ true → x ≡ y) → pick t x None ≡ pick u y None
unfolding pick
both true u x y e f = rw (← e) (f refl)
both false u x y e f = rw (← e)

-- a test after a test
nested : {A : Type 0} (a b : Bool) (v : A) (q : rule.Spot) → pick a (forgot (pick b (Whole v q) rule.Broken)) None ≡ pick (a and b) (Some (spot q)) None
unfolding pick ◌and◌ forgot
nested true true v q = refl
nested true false v q = refl
nested false b v q = refl

and_right : (a : Bool) → a and true ≡ a
unfolding ◌and◌
and_right true = refl
and_right false = refl

and_swap : (a b : Bool) → a and b ≡ b and a
unfolding ◌and◌
and_swap true b = sym (and_right b)
and_swap false b = sym (and_false b)

no_more : (n : ℕ) → eqb n 0 ≡ ltb n 1
no_more n = same_test _ _ (λ e. lt-ltb n 1 (omega (arith, eqb-true n 0 e))) (λ e. eq-eqb n 0 (omega (arith, ltb-true n 1 e)))

-- 0 and 1 are what a boolean holds
bit_test : (n : ℕ) → eqb n (bit (ltb 0 n)) ≡ ltb n 2
unfolding bit
bit_test n = by (ltb 0 n) refl
  where
    by : (b : Bool) → ltb 0 n ≡ b → eqb n (bit b) ≡ ltb n 2
    by true e = same_test _ _ (λ t. lt-ltb n 2 (omega (arith, eqb-true n 1 t))) (λ t. eq-eqb n 1 (omega (arith, ltb-true n 2 t, ltb-true 0 n e)))
    by false e = same_test _ _ (λ t. lt-ltb n 2 (omega (arith, eqb-true n 0 t))) (λ t. eq-eqb n 0 (omega (arith, ltb-false 0 n e)))

-- a length of its own, and bytes that are there
own_length : (n w m : ℕ) (t : Bool) → (eqb n w and t) and leb w m ≡ eqb n w and (t and leb n m)
unfolding ◌and◌
own_length n w m t = by (eqb n w) refl
  where
    by : (b : Bool) → eqb n w ≡ b → (b and t) and leb w m ≡ b and (t and leb n m)
    by true e = rw (eqb-true n w e)
    by false e = refl

bit_lt : (b : Bool) → bit b < 256 ^ 8
unfolding bit
bit_lt true = omega arith
bit_lt false = omega arith

module _ (table store : List ℕ) (bs : Bytes table) (short : length store < 2 ^ 64) where
  -- the tag that a child is asked to bear: its own, or 0
  unfoldable tag_for : Bool → ℕ → ℕ
  tag_for true i = tag_at table store i
  tag_for false i = 0

  tag_test : (b : Bool) (i : ℕ) → eqb (value_record_at table i).tag (tag_for b i) ≡ tag_ok b (value_record_at table i).tag
  unfolding tag_for tag_ok
  tag_test true i = eq-eqb (value_record_at table i).tag (value_record_at table i).tag refl
  tag_test false i = refl

  tag_lt : (b : Bool) (i : ℕ) → tag_for b i < 256 ^ 2
  unfolding tag_for value_record_at
  tag_lt true i = le_at_lt table bs _ 2
  tag_lt false i = omega arith

  size_lt : (i : ℕ) → (value_record_at table i).size < 256 ^ 4
  unfolding value_record_at
  size_lt i = le_at_lt table bs _ 4

  content_lt : (i : ℕ) → (value_record_at table i).content < 256 ^ 8
  unfolding value_record_at
  content_lt i = le_at_lt table bs _ 8

  module _ (b : Bool) (p : rule.Spot) where
    -- the record there
    abbrev r : ValueRecord
    r = value_record_at table p.at

    -- a record of the kind that is there: the test for it is that of byte 1, the tag, size and content
    own_test : (s c : ℕ) → is_each r (value_record r.kind (tag_for b p.at) s c) ≡ (eqb r.spare 0 and tag_ok b r.tag) and (eqb r.size s and eqb r.content c)
    unfolding is_each ◌and◌
    own_test s c = rw (eq-eqb r.kind r.kind refl, tag_test b p.at)

    -- so it is for a node whose every value has one record
    heads : (s c : ℕ) → s < 256 ^ 4 → c < 256 ^ 8 → (x : Parsed Value) → Holds (λ v q. head_of v (tag_for b p.at) p.from ≡ value_record r.kind (tag_for b p.at) s c) x →
        forgot (if_record_is table store (tag_for b p.at) p x)
        ≡ pick (ltb p.at (value_records_in (length table)) and ((eqb r.spare 0 and tag_ok b r.tag) and (eqb r.size s and eqb r.content c))) (forgot x) None
    unfolding if_record_is
    heads s c l m (Whole v q) (holds h) = rw (h, record_test table p.at bs (value_record r.kind (tag_for b p.at) s c) (tag_lt b p.at) l m, own_test s c) (picked _)
      where
        picked : (t : Bool) → forgot (pick t (Whole v q) rule.Broken) ≡ pick t (forgot (Whole v q)) None
        picked true = unfold pick forgot in refl
        picked false = unfold pick forgot in refl
    heads s c l m rule.Broken h = none _
      where
        none : (t : Bool) → forgot {A = Value} rule.Broken ≡ pick t (forgot {A = Value} rule.Broken) None
        none true = unfold pick forgot in refl
        none false = unfold pick forgot in refl

    -- ---- scalars

    module _ (l : p.from ≤ length store) where
      -- payload bytes, as a value of some record
      stored_heads : (make : List ℕ → Value) (n : ℕ) (h : ValueRecord) → ((x : List ℕ) → length x ≡ n → head_of (make x) (tag_for b p.at) p.from ≡ h) →
          Holds (λ v q. head_of v (tag_for b p.at) p.from ≡ h) (stored_at table store make n p)
      unfolding stored_at
      stored_heads make n h e = when _ (λ t. holds (e (part store p.from n) (length_part store p.from n)))

      -- n payload bytes are there just if they end in the store
      stored_same : (make : List ℕ → Value) (n : ℕ) (a : Bool) → pick a (forgot (stored_at table store make n p)) None ≡ pick (a and leb n (length store - p.from)) (Some (past n (spot p))) None
      unfolding stored_at
      stored_same make n a = rw (span_leb p.from n (length store) l) (nested a (leb n (length store - p.from)) (make (part store p.from n)) (rule.past_payload table store n p))

      -- a scalar's size and content are tested, and its value follows
      record Scalar (f : Form) : Type 0 where
        size : ℕ
        content : ℕ
        size_fits : size < 256 ^ 4
        content_fits : content < 256 ^ 8
        each : Holds (λ v q. head_of v (tag_for b p.at) p.from ≡ value_record r.kind (tag_for b p.at) size content) (scalar_at table store f r p)
        same : pick (eqb r.size size and eqb r.content content) (forgot (scalar_at table store f r p)) None ≡ pick (scalar_ok f r.size r.content p.from (length store)) (Some (past r.size (spot p))) None

      -- what has no size takes no payload
      no_size : (t : Bool) → eqb r.size 0 and t ≡ true → ◌≡◌ {A = Option TablePos} (Some (spot (rule.next table store p))) (Some (past r.size (spot p)))
      no_size t e = let z : r.size ≡ 0 = eqb-true r.size 0 (and_both _ _ e).0 in rw (z, add-zero p.from)

      -- what has no value is refused in any case
      no_scalar : (f : Form) → scalar_at table store f r p ≡ rule.Broken → scalar_ok f r.size r.content p.from (length store) ≡ false → Scalar f
      unfolding forgot pick
      no_scalar f e g = record { size = 0; content = 0; size_fits = omega arith; content_fits = omega arith; each = rw e fails; same = rw (e, g) (none (eqb r.size 0 and eqb r.content 0)) }
        where
          none : (t : Bool) → ◌≡◌ {A = Option TablePos} (pick t None None) None
          none true = refl
          none false = refl

      scalar_is : (f : Form) → form r.kind ≡ f → Scalar f
      unfolding scalar_at scalar_alone has_payload scalar_ok stored_ok pick ◌and◌ forgot head_of value_kind size_of content_of
      scalar_is empty e = record {
        size = 0;
        content = 0;
        size_fits = omega arith;
        content_fits = omega arith;
        each = holds {a = nothing} (rw (empty_code r.kind e));
        same = rw (no_more r.content, and_right (eqb r.size 0 and ltb r.content 1)) (both _ _ _ _ refl (no_size (ltb r.content 1)));
      }
      scalar_is truth e = record {
        size = 0;
        content = bit (ltb 0 r.content);
        size_fits = omega arith;
        content_fits = bit_lt (ltb 0 r.content);
        each = holds {a = boolean (ltb 0 r.content)} (rw (truth_code r.kind e));
        same = rw (bit_test r.content, and_right (eqb r.size 0 and ltb r.content 2)) (both _ _ _ _ refl (no_size (ltb r.content 2)));
      }
      scalar_is (fixed w) e = record {
        size = 0;
        content = r.content;
        size_fits = omega arith;
        content_fits = content_lt p.at;
        each = when {x = Whole (number r.kind r.content) (rule.next table store p)} (ltb r.content (256 ^ w)) (λ t. holds {a = number r.kind r.content} refl);
        same = rw (eq-eqb r.content r.content refl, and_right (eqb r.size 0), and_right (eqb r.size 0 and ltb r.content (256 ^ w))) (nested (eqb r.size 0) (ltb r.content (256 ^ w)) _ _ ∙ both _ _ _ _ refl (no_size (ltb r.content (256 ^ w))));
      }
      scalar_is (raw w) e = record {
        size = w;
        content = p.from;
        size_fits = omega (arith, raw_width r.kind w e);
        content_fits = omega (arith, l, short);
        each = stored_heads (wide r.kind) w _ (λ x h. rw h);
        same = stored_same (wide r.kind) w (eqb r.size w and eqb r.content p.from) ∙ both _ _ _ _ (own_length r.size w (length store - p.from) (eqb r.content p.from)) (λ t. let z : r.size ≡ w = eqb-true r.size w (and_both _ _ (and_both _ _ t).0).0 in rw z);
      }
      scalar_is sized e = record {
        size = r.size;
        content = p.from;
        size_fits = size_lt p.at;
        content_fits = omega (arith, l, short);
        each = stored_heads (blob r.kind) r.size _ (λ x h. rw h);
        same = rw (eq-eqb r.size r.size refl) (stored_same (blob r.kind) r.size (eqb r.content p.from));
      }
      scalar_is (variant_form w) e = no_scalar (variant_form w) refl refl
      scalar_is (repeated_form w) e = no_scalar (repeated_form w) refl refl
      scalar_is tuple_form e = no_scalar tuple_form refl refl
      scalar_is unknown e = no_scalar unknown refl refl

    -- ---- nodes with children

    module _ (l : p.from ≤ length store) (d : ℕ) (ok : (t : Bool) (q : rule.Spot) → q.from ≤ length store → forgot (value_at table store d (tag_for t q.at) q) ≡ walk_table table (length store) d t (spot q)) where
      any : {A : Type 0} (x : Parsed A) → Holds (λ a q. Unit) x
      any (Whole a q) = holds tt
      any rule.Broken = fails

      -- so many are read as are asked for
      items_count : (n : ℕ) (q : rule.Spot) → Holds (λ is z. items is ≡ n) (items_at table store (value_at table store d) n q)
      unfolding items_at items
      items_count zero q = holds refl
      items_count (suc n) q = then (any (value_at table store d _ q)) (λ y h. then (items_count n y.1) (λ z e. holds (ap suc e)))

      values_count : (n : ℕ) (q : rule.Spot) → Holds (λ vs z. values vs ≡ n) (values_at table store (value_at table store d) n q)
      unfolding values_at values
      values_count zero q = holds refl
      values_count (suc n) q = then (any (value_at table store d 0 q)) (λ y h. then (values_count n y.1) (λ z e. holds (ap suc e)))

      items_same : (n : ℕ) (q : rule.Spot) → q.from ≤ length store → forgot (items_at table store (value_at table store d) n q) ≡ walk_children (walk_table table (length store) d true) n (spot q)
      unfolding items_at walk_children forgot tag_for
      items_same zero q m = refl
      items_same (suc n) q m = drops _ _ _ _ (ok true q m) (λ v z e. wraps _ _ ∙ items_same n z (walk_ends table (length store) d true (spot q) (spot z) _ m refl e))

      values_same : (n : ℕ) (q : rule.Spot) → q.from ≤ length store → forgot (values_at table store (value_at table store d) n q) ≡ walk_children (walk_table table (length store) d false) n (spot q)
      unfolding values_at walk_children forgot tag_for
      values_same zero q m = refl
      values_same (suc n) q m = drops _ _ _ _ (ok false q m) (λ v z e. wraps _ _ ∙ values_same n z (walk_ends table (length store) d false (spot q) (spot z) _ m refl e))

      child_same : (n : ℕ) (q : rule.Spot) → q.from ≤ length store → n ≡ 1 → forgot (value_at table store d (tag_at table store q.at) q) ≡ walk_children (walk_table table (length store) d true) n (spot q)
      unfolding walk_children tag_for
      child_same n q m e = rw e (ok true q m ∙ only (walk_table table (length store) d true (spot q)))
        where
          only : (w : Option TablePos) → w ≡ w >>= (λ z. (Some z))
          only (Some z) = unfold ◌>>=◌ in refl
          only None = unfold ◌>>=◌ in refl

      -- the node, by its kind
      unfoldable Node : Type 0
      Node = forgot (if_record_is table store (tag_for b p.at) p (node_value table store (value_at table store d) (kind_of r.kind) r p))
          ≡ pick (ltb p.at (value_records_in (length table)) and value_record_ok r b p.from (length store)) (walk_on (walk_table table (length store) d) r (spot p)) None

      scalar_node : r.kind < 15 → Node
      unfolding Node value_record_ok walk_on node_value kind_of pick
      scalar_node h =
          let z = scalar_is l (form r.kind) refl in
          rw (lt-ltb r.kind 15 h) (heads z.size z.content z.size_fits z.content_fits _ z.each ∙ under _ _ _ _ _ (under _ _ _ _ _ z.same))

      -- one with children: size and content are tested, and its children follow
      parent_node : {A : Type 0} (s : ℕ) (x : Parsed A) (f : A → Value) → s < 256 ^ 4 → 15 ≤ r.kind → node_value table store (value_at table store d) (kind_of r.kind) r p ≡ rule.◌>>=◌ x (λ z. Whole (f z.0) z.1) →
          Holds (λ a q. head_of (f a) (tag_for b p.at) p.from ≡ value_record r.kind (tag_for b p.at) s 0) x →
          pick (eqb r.size s and eqb r.content 0) (forgot x) None ≡ pick (parent_alone r.kind r.size r.content) (walk_children (walk_table table (length store) d (ltb r.kind 17)) r.size (next_record (spot p))) None → Node
      unfolding Node value_record_ok walk_on pick
      parent_node s x f l h e each same = rw (e, le-ltb r.kind 15 h)
          (heads s 0 l (omega arith) (rule.◌>>=◌ x (λ z. Whole (f z.0) z.1)) (then each (λ z g. holds {a = f z.0} g)) ∙ under _ _ _ _ _ (under _ _ _ _ _ (rw (wraps x f) same)))

      variant_node : r.kind ≡ 15 → Node
      unfolding node_value kind_of parent_alone pick ◌and◌ head_of value_kind size_of content_of
      variant_node k =
          let t = tag_at table store (p.at + 1) in
          let q = rule.next table store p in
          parent_node 1 (value_at table store d t q) (variant t) (omega arith) (omega (arith, k)) (rw k) (each (value_at table store d t q))
          (rw k (both _ _ _ _ (and_swap (eqb r.size 1) (eqb r.content 0)) (λ e. child_same r.size q l (eqb-true r.size 1 (and_both _ _ e).0))))
        where
          each : (x : Parsed Value) → Holds (λ v q. head_of (variant (tag_at table store (p.at + 1)) v) (tag_for b p.at) p.from ≡ value_record r.kind (tag_for b p.at) 1 0) x
          each (Whole v q) = holds {a = v} (rw k)
          each rule.Broken = fails

      repeated_node : r.kind ≡ 16 → Node
      unfolding node_value kind_of parent_alone pick ◌and◌ head_of value_kind size_of content_of
      repeated_node k =
          let q = rule.next table store p in
          parent_node r.size (items_at table store (value_at table store d) r.size q) repeated (size_lt p.at) (omega (arith, k)) (rw k) (each _ (items_count r.size q))
          (rw (k, eq-eqb r.size r.size refl) (both _ _ _ _ (sym (and_right (eqb r.content 0))) (λ e. items_same r.size q l)))
        where
          each : (x : Parsed Items) → Holds (λ is q. items is ≡ r.size) x → Holds (λ is q. head_of (repeated is) (tag_for b p.at) p.from ≡ value_record r.kind (tag_for b p.at) r.size 0) x
          each (Whole is q) (holds e) = holds {a = is} (rw (k, e))
          each rule.Broken h = fails

      tuple_node : r.kind ≡ 17 → Node
      unfolding node_value kind_of parent_alone pick ◌and◌ head_of value_kind size_of content_of
      tuple_node k =
          let q = rule.next table store p in
          parent_node r.size (values_at table store (value_at table store d) r.size q) tuple (size_lt p.at) (omega (arith, k)) (rw k) (each _ (values_count r.size q))
          (rw (k, eq-eqb r.size r.size refl) (both _ _ _ _ (sym (and_right (eqb r.content 0))) (λ e. values_same r.size q l)))
        where
          each : (x : Parsed Values) → Holds (λ vs q. values vs ≡ r.size) x → Holds (λ vs q. head_of (tuple vs) (tag_for b p.at) p.from ≡ value_record r.kind (tag_for b p.at) r.size 0) x
          each (Whole vs q) (holds e) = holds {a = vs} (rw (k, e))
          each rule.Broken h = fails

      other_node : 17 < r.kind → Node
      unfolding rule.◌>>=◌ node_value kind_of parent_alone pick ◌and◌ forgot
      other_node h = parent_node 0 rule.Broken (λ (v : Value). v) (omega arith) (omega arith)
          (rw (le-ltb r.kind 15 (omega arith), ne_eqb r.kind 15 (λ e. omega arith), ne_eqb r.kind 16 (λ e. omega arith), ne_eqb r.kind 17 (λ e. omega arith)))
          fails
          (rw (lt-leb r.kind 17 h) (none (eqb r.size 0 and eqb r.content 0)))
        where
          none : (t : Bool) → ◌≡◌ {A = Option TablePos} (pick t None None) None
          none true = refl
          none false = refl

      node_same : Node
      node_same = by (ltb r.kind 15) refl
        where
          more : (t : Bool) → ltb 17 r.kind ≡ t → 15 ≤ r.kind → Node
          more true e h = other_node (ltb-true 17 r.kind e)
          more false e h = three (eqb r.kind 15) (eqb r.kind 16) refl refl h (ltb-false 17 r.kind e)
            where
              three : (t u : Bool) → eqb r.kind 15 ≡ t → eqb r.kind 16 ≡ u → 15 ≤ r.kind → r.kind ≤ 17 → Node
              three true u e f g i = variant_node (eqb-true r.kind 15 e)
              three false true e f g i = repeated_node (eqb-true r.kind 16 f)
              three false false e f g i = tuple_node (omega (arith, eqb-false r.kind 15 e, eqb-false r.kind 16 f))

          by : (t : Bool) → ltb r.kind 15 ≡ t → Node
          by true e = scalar_node (ltb-true r.kind 15 e)
          by false e = more (ltb 17 r.kind) refl (ltb-false r.kind 15 e)

  -- The walk over a value, chosen by a tag or not, ends where the rules' reading ends.
  walk_same : (d : ℕ) (b : Bool) (p : rule.Spot) → p.from ≤ length store → forgot (value_at table store d (tag_for b p.at) p) ≡ walk_table table (length store) d b (spot p)
  unfolding value_at walk_table forgot Node
  walk_same zero b p l = refl
  walk_same (suc d) b p l = node_same b p l d (walk_same d)

  -- From the start on, for the root, which no parent chose.
  pub root_same : forgot (value_at table store 64 0 (record { at = 0; from = 0 })) ≡ walk_table table (length store) 64 false (record { at = 0; from = 0 })
  unfolding tag_for
  root_same = walk_same 64 false (record { at = 0; from = 0 }) (omega arith)
