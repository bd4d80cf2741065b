-- The loop over a node's children: what is left to write, over what is written, is the whole.
-- Assumes nothing.
use Prim.Native.Nat.{ℕ, suc, ◌+◌, ◌-◌, ◌≤◌, ◌<◌}
use mathlib.Core.Path.{◌≡◌, refl, sym, ◌∙◌}
use mathlib.Core.List.{List}
use native.Mathlib.Omega.{arith}
use lib.ListN.{length}
use Rattle.rules.specs.Bytes.{over}
use Rattle.rules.specs.Wire.{Form, form}
use Rattle.rules.specs.Block.{NodeIn, node_at, Closed}
use Rattle.rules.specs.Value.{Value, Items, done, items, tally, tally_i, records_of, payload_of}
use Rattle.rules.specs.ValueRecord.{value_record_start, value_record, layout, layouts}
use Rattle.rules.specs.ValueTable.{payload_bytes, payload_bytes_i, below_i, heads, flat}
use Rattle.rules.specs.declared.table_record.Node.{Node}
use Rattle.rules.proofs.Over.{length_over, over_none, over-at, over_front}
use Rattle.value_laws.proofs.Records.{length-layout, layouts_append}
use Rattle.value_laws.proofs.Sizes.{length-flat, length_pays, one_record, items_within}
use Rattle.fill.specs.declared.FillPos.{FillPos}
use Rattle.fill.specs.declared.Next.{Next}
use Rattle.fill.specs.declared.Next.TheVariants.{Child, End}
use Rattle.fill.specs.Plain.{PlainRead, Got, value_read, end_read, Reader, read_at}
use Rattle.fill.specs.Filling.{RoomToFill, past_filled, Filled, next_of}
use Rattle.fill.proofs.Got.{got_from}
use Rattle.value_laws.proofs.Children.{children}
use Rattle.rules.specs.Writing.{kind_for}
use Rattle.fill.proofs.Children.{left, ParentTable, Turn, Follows, child, ends, turn, Opened, opened}

abbrev pub spot : ℕ → ℕ → ℕ → FillPos
spot at records payload = record { at = at; records = records; payload = payload }

module _ (inp : List ℕ) (rec : Reader) (n : Node) where
  -- after i children: those of `all` that are left, which end at z, and what stands in the two slices
  pub record Going (f : Form) (all : Items) (z own paid₀ : ℕ) (rs₀ ps₀ rs ps : List ℕ) (at filled paid i : ℕ) : Type 0 where
    pub enough : ℕ
    pub rest : Items
    pub reads : left inp rec n f i enough at ≡ Got rest z
    pub records : over rs (value_record_start filled) (layouts (below_i rest paid)) ≡ over rs₀ (value_record_start (own + 1)) (layouts (below_i all paid₀))
    pub payload : over ps paid (payload_bytes_i rest) ≡ over ps₀ paid₀ (payload_bytes_i all)
    pub filling : filled + tally_i rest 1 0 0 ≡ (own + 1) + tally_i all 1 0 0
    pub paying : paid + tally_i rest 0 1 1 ≡ paid₀ + tally_i all 0 1 1
    pub counted : i + items rest ≡ items all
    pub same_records : length rs ≡ length rs₀
    pub same_payload : length ps ≡ length ps₀

pub going_first : (inp : List ℕ) (rec : Reader) (n : Node) (f : Form) (all : Items) (z own paid₀ : ℕ) (rs₀ ps₀ : List ℕ) (at : ℕ) → left inp rec n f 0 (suc (length inp - at)) at ≡ Got all z → Going inp rec n f all z own paid₀ rs₀ ps₀ rs₀ ps₀ at (own + 1) paid₀ 0
going_first inp rec n f all z own paid₀ rs₀ ps₀ at e = record { enough = suc (length inp - at); rest = all; reads = e; records = refl; payload = refl; filling = refl; paying = refl; counted = omega arith; same_records = refl; same_payload = refl }

module _ {inp : List ℕ} {rec : Reader} {n : Node} {f : Form} {all : Items} {z own paid₀ : ℕ} {rs₀ ps₀ rs ps : List ℕ} {at filled paid i : ℕ} (g : Going inp rec n f all z own paid₀ rs₀ ps₀ rs ps at filled paid i) where
  -- ---- a child follows
  pub next_turn : (x : Next) (tag c q : ℕ) → x ≡ next_of inp n.first n.children f i at → x ≡ Child tag c q → Turn inp rec n f i g.enough z g.rest tag c q
  next_turn x tag c q e h = of (rw (← e, h) at (turn inp rec n f i g.enough at z g.rest g.reads))
    where
      of : Follows inp rec n f i g.enough z g.rest (Child tag c q) → Turn inp rec n f i g.enough z g.rest tag c q
      of (child t) = t

  module _ (tag c q : ℕ) (t : Turn inp rec n f i g.enough z g.rest tag c q) where
    -- what it takes is part of what is left
    split : (tally_i g.rest 1 0 0 ≡ records_of t.value + tally_i t.rest 1 0 0) × ((tally_i g.rest 0 1 1 ≡ payload_of t.value + tally_i t.rest 0 1 1) × (items g.rest ≡ suc (items t.rest)))
    unfolding tally items records_of payload_of
    split = rw t.first (refl, (refl, refl))

    -- so there is room for it
    pub child_room : value_record_start (own + (1 + tally_i all 1 0 0)) ≤ length rs₀ → paid₀ + tally_i all 0 1 1 ≤ length ps₀ → RoomToFill (rec c q) (spot q filled paid) (length rs) (length ps)
    unfolding value_read
    child_room a b = record {
      is = got_from _ _ _ t.reads;
      records = rw t.reads (omega (arith, split.0, g.filling, g.same_records));
      payload = rw t.reads (omega (arith, split.1.0, g.paying, g.same_payload));
    }

    -- and after it the loop goes on
    module _ (s : FillPos) (rs' ps' : List ℕ) (w : Filled (rec c q) tag (spot q filled paid) s rs rs' ps ps') where
      at_end : s ≡ spot t.end (filled + records_of t.value) (paid + payload_of t.value)
      unfolding past_filled value_read end_read
      at_end = w.spot ∙ rw t.reads

      pub fills_more : (m k : ℕ) → RoomToFill (rec c q) (spot q filled paid) m k → (filled < s.records) × (value_record_start s.records ≤ m)
      unfolding value_read
      fills_more m k r =
          let h = rw t.reads at r.records in
          rw at_end (omega (arith, one_record t.value), h)

      pub going_next : Going inp rec n f all z own paid₀ rs₀ ps₀ rs' ps' s.at s.records s.payload (i + 1)
      unfolding value_read flat below_i heads payload_bytes
      going_next = rw at_end (record {
        enough = g.enough - 1;
        rest = t.rest;
        reads = t.follows;
        records = rw (w.records, t.reads, over-at (layouts (heads t.value tag paid)) (layouts (below_i t.rest (paid + payload_of t.value))) rs (value_record_start filled) (value_record_start (filled + records_of t.value)) (rw (length-flat t.value tag paid) (omega arith)), ← (layouts_append (heads t.value tag paid) (below_i t.rest (paid + payload_of t.value)))) (rw t.first at g.records);
        payload = rw (w.payload, t.reads, over-at (payload_bytes t.value) (payload_bytes_i t.rest) ps paid (paid + payload_of t.value) (rw (length_pays t.value))) (rw t.first at g.payload);
        filling = omega (arith, split.0, g.filling);
        paying = omega (arith, split.1.0, g.paying);
        counted = omega (arith, split.1.1, g.counted);
        same_records = rw w.records (length_over _ _ _ ∙ g.same_records);
        same_payload = rw w.payload (length_over _ _ _ ∙ g.same_payload);
      })

  -- ---- no child follows
  pub next_end : (x : Next) (q : ℕ) → x ≡ next_of inp n.first n.children f i at → x ≡ End q → (g.rest ≡ done) × (z ≡ q)
  next_end x q e h = of (rw (← e, h) at (turn inp rec n f i g.enough at z g.rest g.reads))
    where
      of : Follows inp rec n f i g.enough z g.rest (End q) → (g.rest ≡ done) × (z ≡ q)
      of (ends a b) = (a, b)

  -- the children are no more than their records, which are no more than there is room for
  pub count_fits : i ≤ tally_i all 1 0 0
  count_fits = omega (arith, g.counted, items_within all)

-- and then the node's own record stands before theirs
module _ {inp : List ℕ} {rec : Reader} {n : Node} {f : Form} {own paid₀ : ℕ} {rs₀ ps₀ rs ps : List ℕ} {at filled paid i : ℕ} (x : PlainRead Value) (g : Going inp rec n f (children (value_read x)) (end_read x) own paid₀ rs₀ ps₀ rs ps at filled paid i) (none : g.rest ≡ done) where
  all_records : rs ≡ over rs₀ (value_record_start (own + 1)) (layouts (below_i (children (value_read x)) paid₀))
  unfolding below_i layouts
  all_records = sym (over_none rs (value_record_start filled)) ∙ rw none at g.records

  all_payload : ps ≡ over ps₀ paid₀ (payload_bytes_i (children (value_read x)))
  unfolding payload_bytes
  all_payload = sym (over_none ps paid) ∙ rw none at g.payload

  all_filled : filled ≡ own + (1 + tally_i (children (value_read x)) 1 0 0)
  unfolding tally
  all_filled = omega (arith, rw none at g.filling)

  all_paid : paid ≡ paid₀ + tally_i (children (value_read x)) 0 1 1
  unfolding tally
  all_paid = omega (arith, rw none at g.paying)

  all_counted : i ≡ items (children (value_read x))
  unfolding items
  all_counted = omega (arith, rw none at g.counted)

  pub finish : (at₀ kind tag q : ℕ) (rs' : List ℕ) → ParentTable kind (value_read x) → end_read x ≡ q → rs' ≡ over rs (value_record_start own) (layout (value_record kind tag i 0)) → Filled x tag (spot at₀ own paid₀) (spot q filled paid) rs₀ rs' ps₀ ps
  unfolding past_filled flat layouts
  finish at₀ kind tag q rs' p e w =
      let a = layout (value_record kind tag (items (children (value_read x))) 0) in
      let m : value_record_start (own + 1) ≡ value_record_start own + length a = rw length-layout (omega arith) in
      record {
        spot = rw (e, p.records, p.payload, all_filled, all_paid);
        records = w ∙ rw (p.table tag paid₀, all_counted, all_records, m) (over_front a (layouts (below_i (children (value_read x)) paid₀)) rs₀ (value_record_start own));
        payload = rw p.bytes all_payload;
      }

-- ---- the loop, from what its function requires and the code reads of the node

module _ (sch inp : List ℕ) (d i : ℕ) (s : FillPos) where
  abbrev ToFill : ℕ → ℕ → Type 0
  ToFill n m = Closed sch × NodeIn i (length sch) × (14 < (node_at sch i).code) × RoomToFill (read_at sch inp d i s.at) s n m

  pub begun : (n m : ℕ) → ToFill n m → Opened sch inp d i s.at
  begun n m k = opened sch inp d i s.at k.2 k.3.is

  -- the node's own record and all of its children's have room
  pub own_room : (n m : ℕ) → ToFill n m → value_record_start (s.records + (1 + tally_i (children (value_read (read_at sch inp d i s.at))) 1 0 0)) ≤ n
  own_room n m k = rw (begun n m k).begins.parent.records at k.3.records

  module _ {rs₀ ps₀ rs ps : List ℕ} {at filled paid j : ℕ} (k : ToFill (length rs₀) (length ps₀))
      (g : Going inp (read_at sch inp (d - 1)) (node_at sch i) (form (node_at sch i).code) (children (value_read (read_at sch inp d i s.at))) (end_read (read_at sch inp d i s.at)) s.records s.payload rs₀ ps₀ rs ps at filled paid j)
      (code first count : ℕ) (a : code ≡ (node_at sch i).code) (b : first ≡ (node_at sch i).first) (c : count ≡ (node_at sch i).children) (x : Next) (is : x ≡ next_of inp first count (form code) j at) where
    next_is : x ≡ next_of inp (node_at sch i).first (node_at sch i).children (form (node_at sch i).code) j at
    next_is = rw (a, b, c) at is

    module _ (tag e q : ℕ) (h : x ≡ Child tag e q) (p : FillPos) (from : p ≡ spot q filled paid) where
      turned : Turn inp (read_at sch inp (d - 1)) (node_at sch i) (form (node_at sch i).code) j g.enough (end_read (read_at sch inp d i s.at)) g.rest tag e q
      turned = next_turn g x tag e q next_is h

      child_fits : RoomToFill (read_at sch inp (d - 1) e p.at) p (length rs) (length ps)
      child_fits = rw from (child_room g tag e q turned (own_room _ _ k) (rw (begun _ _ k).begins.parent.payload at k.3.payload))

      -- the child is in the block, was read, and has room
      pub child_asked : Closed sch × NodeIn e (length sch) × RoomToFill (read_at sch inp (d - 1) e p.at) p (length rs) (length ps)
      unfolding Closed
      child_asked = (k.0, omega (arith, turned.inside, k.0 i k.1), child_fits)

      module _ (r : FillPos) (rs' ps' : List ℕ) (w : Filled (read_at sch inp (d - 1) e p.at) tag p r rs rs' ps ps') where
        filled_here : Filled (read_at sch inp (d - 1) e q) tag (spot q filled paid) r rs rs' ps ps'
        filled_here = rw from at w

        -- it takes a record at least, and the loop goes on after it
        pub child_smaller : (filled < r.records) × (value_record_start r.records ≤ length rs₀)
        child_smaller = rw g.same_records at (fills_more g tag e q turned r rs' ps' filled_here (length rs) (length ps) (rw from at child_fits))

        pub child_filled : Going inp (read_at sch inp (d - 1)) (node_at sch i) (form (node_at sch i).code) (children (value_read (read_at sch inp d i s.at))) (end_read (read_at sch inp d i s.at)) s.records s.payload rs₀ ps₀ rs' ps' r.at r.records r.payload (j + 1)
        child_filled = going_next g tag e q turned r rs' ps' filled_here

    -- and where no child follows, the node's own record is all that is left
    pub node_filled : (tag q : ℕ) → x ≡ End q → (kind : ℕ) → kind ≡ kind_for code (form code) → (rs' : List ℕ) → rs' ≡ over rs (value_record_start s.records) (layout (value_record kind tag j 0)) →
        (r : FillPos) → r ≡ spot q filled paid → Filled (read_at sch inp d i s.at) tag s r rs₀ rs' ps₀ ps
    node_filled tag q h kind u rs' w r z =
        let o = next_end g x q next_is h in
        rw z (finish _ g o.0 s.at kind tag q rs' (rw (u, a) (begun _ _ k).begins.parent) o.1 w)
