-- Nodes with children: what is left to read after i of them, and what a turn of the loop takes from it.
-- Assumes nothing.
use Prim.Native.Nat.{ℕ, zero, suc, ◌+◌, ◌-◌, ◌≤◌, ◌<◌}
use mathlib.Core.Path.{◌≡◌, refl, sym, ◌∙◌}
use mathlib.Core.Bool.{Bool, true, false}
use mathlib.Core.List.{List, ◌∷◌, append-nil}
use native.Mathlib.Omega.{arith}
use native.Mathlib.Nat.{add-zero, sub-zero}
use borrow.Author.Tests.{ltb-true, ltb-false, lt-ltb}
use lib.Dec.{ltb, eqb}
use lib.ListN.{length}
use Rattle.rules.specs.Choice.{pick, ◌and◌, all}
use Rattle.rules.specs.Bytes.{le_at}
use Rattle.rules.specs.Wire.{Form, empty, truth, fixed, raw, sized, variant_form, repeated_form, tuple_form, unknown, form, end_tag, wire_types, type_in, type_of, written, written_if}
use Rattle.rules.specs.Block.{node_at}
use Rattle.rules.specs.Value.{Value, variant, repeated, tuple, Items, done, item, Values, more, items, tally, tally_i, records_of, payload_of}
use Rattle.rules.specs.ValueRecord.{value_record}
use Rattle.rules.specs.ValueTable.{payload_bytes, payload_bytes_i, value_kind, size_of, content_of, head_of, below, below_i, heads}
use Rattle.rules.specs.Writing.{kind_for}
use Rattle.rules.specs.declared.table_record.Node.{Node}
use Rattle.rules.proofs.Tests.{all_each}
use Rattle.rules.proofs.Codes.{form_unknown}
use Rattle.value_laws.proofs.Codes.{plain}
use Rattle.value_laws.proofs.Children.{untagged, children, below_untagged, pays_untagged, tally_untagged, count_untagged}
use Rattle.fill.specs.declared.Next.{Next}
use Rattle.fill.specs.declared.Next.TheVariants.{Child, End}
use Rattle.fill.specs.Plain.{PlainRead, Got, Not, ◌>>=◌, IsGot, plain_number_at, Reader, child_at, pairs_at, fields_at, leaf_at, by_form, read_at, value_read, end_read}
use Rattle.fill.specs.Filling.{tag_length, next_of}
use Rattle.leaves.proofs.Codes.{form_variant, form_repeated, form_tuple}
use Rattle.fill.proofs.Got.{not_got, got_from, got_is, read_step, step, number_step, child_step}

-- the table of a node with children: a record that has their count, and theirs
pub record ParentTable (value_kind : ℕ) (v : Value) : Type 0 where
  pub table : (tag p : ℕ) → heads v tag p ≡ value_record value_kind tag (items (children v)) 0 ∷ below_i (children v) p
  pub bytes : payload_bytes v ≡ payload_bytes_i (children v)
  pub records : records_of v ≡ 1 + tally_i (children v) 1 0 0
  pub payload : payload_of v ≡ tally_i (children v) 0 1 1

variant_parent : (t : ℕ) (v : Value) → ParentTable 15 (variant t v)
unfolding heads head_of value_kind size_of content_of below payload_bytes children items records_of payload_of tally
variant_parent t v = record {
  table = λ tag p. simp append-nil;
  bytes = simp append-nil;
  records = omega arith;
  payload = omega arith;
}

repeated_parent : (is : Items) → ParentTable 16 (repeated is)
unfolding heads head_of value_kind size_of content_of below payload_bytes children records_of payload_of tally
repeated_parent is = record { table = λ tag p. refl; bytes = refl; records = refl; payload = omega arith }

tuple_parent : (vs : Values) → ParentTable 17 (tuple vs)
unfolding heads head_of value_kind size_of content_of below payload_bytes children records_of payload_of tally
tuple_parent vs = record {
  table = λ tag p. rw (count_untagged vs, below_untagged vs p);
  bytes = pays_untagged vs;
  records = omega (arith, tally_untagged vs 1 0 0);
  payload = omega (arith, tally_untagged vs 0 1 1);
}

-- ---- reading them

-- a node without children is read by its form alone
plain_reads : (inp : List ℕ) (rec : Reader) (n : Node) (f : Form) (at : ℕ) → plain f ≡ true → by_form inp rec n f at ≡ leaf_at inp n.code f at
unfolding plain by_form
plain_reads inp rec n empty at e = refl
plain_reads inp rec n truth at e = refl
plain_reads inp rec n (fixed w) at e = refl
plain_reads inp rec n (raw w) at e = refl
plain_reads inp rec n sized at e = refl
plain_reads inp rec n (variant_form w) at e = absurd (let z : ◌≡◌ {A = ℕ} 0 1 = cc in omega arith)
plain_reads inp rec n (repeated_form w) at e = absurd (let z : ◌≡◌ {A = ℕ} 0 1 = cc in omega arith)
plain_reads inp rec n tuple_form at e = absurd (let z : ◌≡◌ {A = ℕ} 0 1 = cc in omega arith)
plain_reads inp rec n unknown at e = refl

leaf_reads : (inp : List ℕ) (rec : Reader) (n : Node) (at : ℕ) → n.code < 15 → by_form inp rec n (form n.code) at ≡ leaf_at inp n.code (form n.code) at
unfolding plain all ◌and◌ wire_types type_in type_of written written_if form
leaf_reads inp rec n at h = plain_reads inp rec n (form n.code) at (all_each (λ i. plain (form i)) 15 n.code refl h)

module _ (inp : List ℕ) (rec : Reader) (n : Node) where
  -- what is left after i of them
  unfoldable pub left : Form → ℕ → ℕ → ℕ → PlainRead Items
  left (variant_form w) zero enough at = plain_number_at inp w at >>= (λ (z : ℕ × ℕ). child_at rec n z.0 z.1 >>= (λ (y : Value × ℕ). Got (item z.0 y.0 done) y.1))
  left (variant_form w) (suc i) enough at = Got done at
  left (repeated_form w) i enough at = pairs_at inp rec n w enough at
  left tuple_form i enough at = fields_at rec (n.first + i) (n.children - i) at >>= (λ (z : Values × ℕ). Got (untagged z.0) z.1)
  left empty i enough at = Not
  left truth i enough at = Not
  left (fixed w) i enough at = Not
  left (raw w) i enough at = Not
  left sized i enough at = Not
  left unknown i enough at = Not

  -- before the first one, all are left
  pub record Start (f : Form) (at : ℕ) (v : Value) (z : ℕ) : Type 0 where
    pub all : left f 0 (suc (length inp - at)) at ≡ Got (children v) z
    pub parent : ParentTable (kind_for n.code f) v

  variant_start : (w at z : ℕ) (v : Value) → by_form inp rec n (variant_form w) at ≡ Got v z → Start (variant_form w) at v z
  unfolding by_form left kind_for children ◌>>=◌
  variant_start w at z v e =
      let a = step (plain_number_at inp w at) _ v z e in
      let b = step (child_at rec n a.got a.at) _ v z a.goes in
      from a.got a.at b.got b.at a.is b.is b.goes
    where
      from : (tag q : ℕ) (u : Value) (r : ℕ) → plain_number_at inp w at ≡ Got tag q → child_at rec n tag q ≡ Got u r → Got (variant tag u) r ≡ Got v z → Start (variant_form w) at v z
      from tag q u r f g h =
          let is : v ≡ variant tag u = cc in
          let ends : z ≡ r = cc in
          rw (is, ends) (record { all = rw (f, g); parent = variant_parent tag u })

  repeated_start : (w at z : ℕ) (v : Value) → by_form inp rec n (repeated_form w) at ≡ Got v z → Start (repeated_form w) at v z
  unfolding by_form left kind_for children
  repeated_start w at z v e =
      let a = step (pairs_at inp rec n w (suc (length inp - at)) at) _ v z e in
      from a.got a.at a.is a.goes
    where
      from : (is : Items) (q : ℕ) → pairs_at inp rec n w (suc (length inp - at)) at ≡ Got is q → Got (repeated is) q ≡ Got v z → Start (repeated_form w) at v z
      from is q f h =
          let same : v ≡ repeated is = cc in
          let ends : z ≡ q = cc in
          rw (same, ends) (record { all = f; parent = repeated_parent is })

  tuple_start : (at z : ℕ) (v : Value) → by_form inp rec n tuple_form at ≡ Got v z → Start tuple_form at v z
  unfolding by_form left kind_for children ◌>>=◌
  tuple_start at z v e =
      let a = step (fields_at rec n.first n.children at) _ v z e in
      from a.got a.at a.is a.goes
    where
      from : (vs : Values) (q : ℕ) → fields_at rec n.first n.children at ≡ Got vs q → Got (tuple vs) q ≡ Got v z → Start tuple_form at v z
      from vs q f h =
          let is : v ≡ tuple vs = cc in
          let ends : z ≡ q = cc in
          rw (is, ends) (record { all = rw (add-zero, sub-zero, f); parent = tuple_parent vs })

  -- a code that was read names a wire type
  pub start : (at z : ℕ) (v : Value) → 14 < n.code → by_form inp rec n (form n.code) at ≡ Got v z → (n.code < 20) × Start (form n.code) at v z
  unfolding by_form leaf_at
  start at z v h e = by (ltb n.code 17) (ltb n.code 19) (ltb n.code 20) refl refl refl
    where
      by : (a b c : Bool) → ltb n.code 17 ≡ a → ltb n.code 19 ≡ b → ltb n.code 20 ≡ c → (n.code < 20) × Start (form n.code) at v z
      by true b c p q r = let l = ltb-true _ _ p in let f = form_variant n.code h l in (omega (arith, l), rw f (variant_start _ at z v (rw f at e)))
      by false true c p q r = let l = ltb-true _ _ q in let f = form_repeated n.code (ltb-false _ _ p) l in (omega (arith, l), rw f (repeated_start _ at z v (rw f at e)))
      by false false true p q r = let f = form_tuple n.code (ltb-false _ _ q) (omega (arith, ltb-true n.code 20 r)) in (ltb-true _ _ r, rw f (tuple_start at z v (rw f at e)))
      by false false false p q r = let f = form_unknown n.code (ltb-false _ _ r) in absurd (not_got (Got v z) (sym (rw f at e)) (got_from (Got v z) v z refl))

  -- the tag of the next one is there
  pub there : (f : Form) (i enough at z : ℕ) (is : Items) → left f i enough at ≡ Got is z → tag_length f i ≤ length inp - at
  unfolding left tag_length pairs_at
  there (variant_form w) zero enough at z is e = (number_step is z inp w at _ e).0
  there (variant_form w) (suc i) enough at z is e = omega arith
  there (repeated_form w) i zero at z is e = absurd (not_got (Got is z) (sym e) (got_from (Got is z) is z refl))
  there (repeated_form w) i (suc enough) at z is e = (number_step is z inp w at _ e).0
  there tuple_form i enough at z is e = omega arith
  there empty i enough at z is e = omega arith
  there truth i enough at z is e = omega arith
  there (fixed w) i enough at z is e = omega arith
  there (raw w) i enough at z is e = omega arith
  there sized i enough at z is e = omega arith
  there unknown i enough at z is e = omega arith

  -- the next child is the first of what is left, and the rest is left after it
  pub record Turn (f : Form) (i enough z : ℕ) (is : Items) (tag c q : ℕ) : Type 0 where
    pub value : Value
    pub end : ℕ
    pub rest : Items
    pub reads : rec c q ≡ Got value end
    pub follows : left f (i + 1) (enough - 1) end ≡ Got rest z
    pub first : is ≡ item tag value rest
    pub inside : c < n.first + n.children

  -- or there is none
  pub data Follows (f : Form) (i enough z : ℕ) (is : Items) : Next → Type 0 where
    child : {tag c q : ℕ} → Turn f i enough z is tag c q → Follows f i enough z is (Child tag c q)
    ends : {q : ℕ} → is ≡ done → z ≡ q → Follows f i enough z is (End q)

  not_left : (f : Form) (i enough z : ℕ) (is : Items) (x : Next) → ◌≡◌ {A = PlainRead Items} Not (Got is z) → Follows f i enough z is x
  not_left f i enough z is x e = absurd (not_got (Got is z) (sym e) (got_from (Got is z) is z refl))

  variant_turn : (w enough at z : ℕ) (is : Items) → left (variant_form w) 0 enough at ≡ Got is z → Follows (variant_form w) 0 enough z is (Child (le_at inp at w) (n.first + le_at inp at w) (at + w))
  unfolding left
  variant_turn w enough at z is e =
      let a = number_step is z inp w at _ e in
      let b = child_step is z rec n (le_at inp at w) (at + w) _ a.1 in
      let s = step _ _ is z b.1 in
      child {tag = le_at inp at w} {c = n.first + le_at inp at w} {q = at + w} (record {
        value = s.got;
        end = s.at;
        rest = done;
        reads = s.is;
        follows = (cc);
        first = (cc);
        inside = omega (arith, b.0);
      })

  repeated_turn : (w i enough at z : ℕ) (is : Items) → left (repeated_form w) i enough at ≡ Got is z → Follows (repeated_form w) i enough z is (next_of inp n.first n.children (repeated_form w) i at)
  unfolding left pairs_at next_of pick
  repeated_turn w i zero at z is e = not_left _ _ _ z is _ e
  repeated_turn w i (suc enough) at z is e = let a = number_step is z inp w at _ e in by (eqb (le_at inp at w) (end_tag w)) a.1
    where
      by : (b : Bool) → pick b (Got done (at + w)) (child_at rec n (le_at inp at w) (at + w) >>= (λ (y : Value × ℕ). pairs_at inp rec n w enough y.1 >>= (λ (x : Items × ℕ). Got (item (le_at inp at w) y.0 x.0) x.1))) ≡ Got is z →
          Follows (repeated_form w) i (suc enough) z is (pick b (End (at + w)) (Child (le_at inp at w) (n.first + le_at inp at w) (at + w)))
      by true g = ends {q = at + w} (cc) (cc)
      by false g =
          let b = child_step is z rec n (le_at inp at w) (at + w) _ g in
          let s = step _ _ is z b.1 in
          let r = step _ _ is z s.goes in
          let m : suc enough - 1 ≡ enough = omega arith in
          child {tag = le_at inp at w} {c = n.first + le_at inp at w} {q = at + w} (record {
            value = s.got;
            end = s.at;
            rest = r.got;
            reads = s.is;
            follows = rw m (cc);
            first = (cc);
            inside = omega (arith, b.0);
          })

  -- a tuple's first child, and the others
  record Field (i m at : ℕ) (vs : Values) (q : ℕ) : Type 0 where
    value : Value
    end : ℕ
    rest : Values
    reads : rec i at ≡ Got value end
    follows : fields_at rec (i + 1) m end ≡ Got rest q
    first : vs ≡ more value rest

  a_field : (i k m at : ℕ) (vs : Values) (q : ℕ) → k ≡ suc m → fields_at rec i k at ≡ Got vs q → Field i m at vs q
  unfolding fields_at
  a_field i k m at vs q l e =
      let a = step _ _ vs q (rw l at e) in
      let b = step _ _ vs q a.goes in
      record { value = a.got; end = a.at; rest = b.got; reads = a.is; follows = (cc); first = (cc) }

  tuple_turn : (i enough at z : ℕ) (is : Items) → left tuple_form i enough at ≡ Got is z → Follows tuple_form i enough z is (next_of inp n.first n.children tuple_form i at)
  unfolding left next_of pick fields_at untagged ◌>>=◌
  tuple_turn i enough at z is e = by (ltb i n.children) refl
    where
      by : (b : Bool) → ltb i n.children ≡ b → Follows tuple_form i enough z is (pick b (Child 0 (n.first + i) at) (End at))
      by true h =
          let l = ltb-true i n.children h in
          let m : n.children - i ≡ suc (n.children - (i + 1)) = omega (arith, l) in
          let o : (n.first + i) + 1 ≡ n.first + (i + 1) = omega arith in
          let a = step (fields_at rec (n.first + i) (n.children - i) at) _ is z e in
          let b = a_field (n.first + i) (n.children - i) (n.children - (i + 1)) at a.got a.at m a.is in
          child {tag = 0} {c = n.first + i} {q = at} (record {
            value = b.value;
            end = b.end;
            rest = untagged b.rest;
            reads = b.reads;
            follows = rw (← o, b.follows) (cc);
            first = (cc);
            inside = omega (arith, l);
          })
      by false h =
          let m : n.children - i ≡ 0 = omega (arith, ltb-false i n.children h) in
          let g = rw m at e in
          ends {q = at} (cc) (cc)

  pub turn : (f : Form) (i enough at z : ℕ) (is : Items) → left f i enough at ≡ Got is z → Follows f i enough z is (next_of inp n.first n.children f i at)
  unfolding left next_of pick
  turn (variant_form w) zero enough at z is e = variant_turn w enough at z is e
  turn (variant_form w) (suc i) enough at z is e = rw (lt-ltb 0 (suc i) (omega arith)) (ends {q = at} (cc) (cc))
  turn (repeated_form w) i enough at z is e = repeated_turn w i enough at z is e
  turn tuple_form i enough at z is e = tuple_turn i enough at z is e
  turn empty i enough at z is e = not_left _ _ _ z is _ e
  turn truth i enough at z is e = not_left _ _ _ z is _ e
  turn (fixed w) i enough at z is e = not_left _ _ _ z is _ e
  turn (raw w) i enough at z is e = not_left _ _ _ z is _ e
  turn sized i enough at z is e = not_left _ _ _ z is _ e
  turn unknown i enough at z is e = not_left _ _ _ z is _ e

-- a node without children that was read
pub leaf_read : (sch inp : List ℕ) (d i at : ℕ) → (node_at sch i).code < 15 → IsGot (read_at sch inp d i at) → read_at sch inp d i at ≡ leaf_at inp (node_at sch i).code (form (node_at sch i).code) at
leaf_read sch inp d i at h g = (read_step sch inp d i at g).1 ∙ leaf_reads inp (read_at sch inp (d - 1)) (node_at sch i) at h

-- a node with children that was read: it has a level and a wire type, and all of them are left
pub record Opened (sch inp : List ℕ) (d i at : ℕ) : Type 0 where
  pub deep : 0 < d
  pub known : (node_at sch i).code < 20
  pub begins : Start inp (read_at sch inp (d - 1)) (node_at sch i) (form (node_at sch i).code) at (value_read (read_at sch inp d i at)) (end_read (read_at sch inp d i at))

pub opened : (sch inp : List ℕ) (d i at : ℕ) → 14 < (node_at sch i).code → IsGot (read_at sch inp d i at) → Opened sch inp d i at
opened sch inp d i at h g =
    let a = read_step sch inp d i at g in
    let b = start inp (read_at sch inp (d - 1)) (node_at sch i) at _ _ h (sym a.1 ∙ got_is (read_at sch inp d i at) g) in
    record { deep = a.0; known = b.0; begins = b.1 }
