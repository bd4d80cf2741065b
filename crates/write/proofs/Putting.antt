-- The loop of the walk that writes: what is left to write, over what is written_at, is the whole.
-- Assumes nothing.
use Rattle.std.proofs.Common.{Result, Ok, Err}
use Prim.Native.Nat.{ℕ, ◌+◌, ◌-◌, ◌^◌, ◌≤◌, ◌<◌}
use mathlib.Core.Path.{◌≡◌, refl, sym, ap, ◌∙◌}
use mathlib.Core.Bool.{Bool, true, false}
use mathlib.Core.List.{List, ◌++◌}
use native.Mathlib.Omega.{arith}
use borrow.Author.Tests.{eqb-true, eqb-false}
use lib.Dec.{ltb, eqb}
use lib.ListN.{length, length-append}
use Rattle.rules.specs.Choice.{pick}
use Rattle.rules.specs.Bytes.{over}
use Rattle.rules.specs.Wire.{form}
use Rattle.rules.specs.Block.{node_start, node_at, Closed}
use Rattle.rules.specs.Value.{Value, Items, done, item, items, records_of, payload_of}
use Rattle.rules.specs.ValueRecord.{value_record_at, ValueRecordIn}
use Rattle.rules.specs.ValueTable as table_of
use Rattle.rules.specs.ValueTable.{payload_bytes_i, below_i, value_kind, size_of, tag_at}
use Rattle.rules.specs.Walk.{Limits}
use Rattle.rules.specs.Refusals.{InvalidVariantTag}
use Rattle.rules.specs.Writing.{Wrote, Put, Refused, ◌>>=◌, kind_for, write}
use Rattle.rules.specs.declared.refusal.Refusal.{Refusal}
use Rattle.rules.specs.declared.table_record.ValueRecord.{ValueRecord}
use Rattle.rules.proofs.Over.{length_over, over-at}
use Rattle.value_laws.proofs.Parse.{Reads, ReadsI}
use Rattle.value_laws.proofs.Span.{span_in, lands_here}
use Rattle.value_laws.proofs.Children.{children}
use Rattle.leaves.specs.Shapes.{Shape, as_variant, as_repeated, as_tuple, shape_of}
use Rattle.read.specs.Ready.{SoundNodes}
use Rattle.judge.specs.Table.{IsWhole, whole_value, whole_end, value_standing_at}
use Rattle.judge.specs.Judging.{tagged_of, chosen_of, count_ok}
use Rattle.judge.specs.Tags.{tag_bytes, closing}
use Rattle.write.specs.Putting.{child_node, IsPut, put_of, unlimited, written_at, Writable, Parted, Placed}
use Rattle.write.specs.declared.put.WritePos.{WritePos}
use Rattle.judge.proofs.Kids.{choosing, chosen_for, kids, unfit, opens}
use Rattle.judge.proofs.Standing.{spot, stands, inside, size_small, tag_small, deep, parent, below_reads, count_told, Turn, turn, turn_stands}
use Rattle.judge.proofs.Going.{compound_kind, choice, counted_tuple}

-- ---- what was put, taken apart

refused_not : {A : Type 0} (r : Refusal) (b : List ℕ) → Refused r ≡ Put b → A
refused_not r b e = let z : ◌≡◌ {A = ℕ} 0 1 = cc in absurd (omega arith)

pub put_is : (w : Wrote) → IsPut w → w ≡ Put (put_of w)
unfolding IsPut put_of
put_is (Put b) h = refl
put_is (Refused r) h = absurd h

-- a test that was passed
passed_test : (t : Bool) (w : Wrote) (r : Refusal) (b : List ℕ) → pick t w (Refused r) ≡ Put b → (t ≡ true) × (w ≡ Put b)
unfolding pick
passed_test true w r b e = (refl, e)
passed_test false w r b e = refused_not r b e

-- a child and those after it
pub record Part (pk : Result (ℕ × ℕ) Refusal) (x : ℕ → Wrote) (y : Wrote) (tag b : List ℕ) : Type 0 where
  pub node : ℕ
  pub width : ℕ
  pub child : List ℕ
  pub rest : List ℕ
  pub picks : pk ≡ Ok (node, width)
  pub puts : x node ≡ Put child
  pub follows : y ≡ Put rest
  pub whole : b ≡ tag ++ (child ++ rest)

parted : (pk : Result (ℕ × ℕ) Refusal) (x : ℕ → Wrote) (y : Wrote) (tag b : List ℕ) → choosing pk (λ c. x c >>= (λ u. y >>= (λ d. Put (tag ++ (u ++ d))))) ≡ Put b → Part pk x y tag b
unfolding choosing
parted (Err r) x y tag b e = refused_not r b e
parted (Ok (c, w)) x y tag b e = first (x c) refl y refl e
  where
    second : (u : List ℕ) → x c ≡ Put u → (g : Wrote) → y ≡ g → (g >>= (λ d. Put (tag ++ (u ++ d)))) ≡ Put b → Part (Ok (c, w)) x y tag b
    second u m (Put d) n f = record { node = c; width = w; child = u; rest = d; picks = refl; puts = m; follows = n; whole = let k : Put (tag ++ (u ++ d)) ≡ Put b = unfold ◌>>=◌ in f in cc }
    second u m (Refused r) n f = refused_not r b (unfold ◌>>=◌ in f)

    first : (f : Wrote) → x c ≡ f → (g : Wrote) → y ≡ g → (f >>= (λ u. g >>= (λ d. Put (tag ++ (u ++ d))))) ≡ Put b → Part (Ok (c, w)) x y tag b
    first (Put u) m g n h = second u m g n (unfold ◌>>=◌ in h)
    first (Refused r) m g n h = refused_not r b (unfold ◌>>=◌ in h)

-- the child that is picked is the one that the walk goes to
tagged_node : (code first count w t r c u : ℕ) → tagged_of code first count w t r ≡ Ok (c, u) → c ≡ first + t
unfolding tagged_of
tagged_node code first count w t r c u e = by (ltb t count) e
  where
    by : (b : Bool) → pick {A = Result (ℕ × ℕ) Refusal} b (Ok ((first + t), w)) (Err (InvalidVariantTag code t count r)) ≡ Ok (c, u) → c ≡ first + t
    by true f =
        let g : ◌≡◌ {A = ℕ × ℕ} (c, u) (first + t, w) = unfold pick in cc in
        ap (λ (x : ℕ × ℕ). x.0) g
    by false f = absurd (let z : ◌≡◌ {A = ℕ} 0 1 = unfold pick in cc in omega arith)

picked_node : (code first count : ℕ) (s : Shape) (j t r c w : ℕ) → chosen_of code first count s j t r ≡ Ok (c, w) → c ≡ child_node s first j t
unfolding chosen_of child_node
picked_node code first count (as_variant u) j t r c w e = tagged_node code first count u t r c w e
picked_node code first count (as_repeated u) j t r c w e = tagged_node code first count u t r c w e
picked_node code first count as_tuple j t r c w e =
    let g : ◌≡◌ {A = ℕ × ℕ} (c, w) (first + j, 0) = cc in
    ap (λ (x : ℕ × ℕ). x.0) g

-- a value that was written_at is of the right kind
pub fitted : (sch : List ℕ) (lim : Limits) (v : Value) (i r : ℕ) (b : List ℕ) → write sch lim v i r ≡ Put b → value_kind v ≡ kind_for (node_at sch i).code (form (node_at sch i).code)
fitted sch lim v i r b e = by (eqb (value_kind v) (kind_for (node_at sch i).code (form (node_at sch i).code))) refl
  where
    by : (t : Bool) → eqb (value_kind v) (kind_for (node_at sch i).code (form (node_at sch i).code)) ≡ t → value_kind v ≡ kind_for (node_at sch i).code (form (node_at sch i).code)
    by true h = eqb-true _ _ h
    by false h = refused_not _ b (sym (unfit sch lim i v r (eqb-false _ _ h)) ∙ e)

-- three strings, one after another
over_parts : (s a b tag child rest : List ℕ) (to next : ℕ) → a ≡ over s to tag → b ≡ over a (to + length tag) child → next ≡ (to + length tag) + length child → over b next rest ≡ over s to (tag ++ (child ++ rest))
over_parts s a b tag child rest to next e f h =
    ap (λ (x : List ℕ). over x next rest) f
    ∙ over-at child rest a (to + length tag) next h
    ∙ ap (λ (x : List ℕ). over x (to + length tag) (child ++ rest)) e
    ∙ over-at tag (child ++ rest) s to (to + length tag) refl

-- ---- the loop

module _ (sch : List ℕ) (i : ℕ) (table store : List ℕ) where
  pub record Filling (s : Shape) (d size : ℕ) (z : table_of.Spot) (to₀ : ℕ) (all out₀ out : List ℕ) (q : WritePos) (j : ℕ) : Type 0 where
    pub rest : Items
    pub bytes : List ℕ
    pub reads : ReadsI table store d (spot q.at q.from) rest z
    pub counted : j + items rest ≡ size
    pub puts : kids sch unlimited i s rest j q.at ≡ Put bytes
    pub comes : over out q.to bytes ≡ over out₀ to₀ all
    pub room : q.to + length bytes ≡ to₀ + length all
    pub same : length out ≡ length out₀

  module _ {s : Shape} {d size : ℕ} {z : table_of.Spot} {to₀ : ℕ} {all out₀ out : List ℕ} {q : WritePos} {j : ℕ} (short : length table ≤ 4294967295) (g : Filling s d size z to₀ all out₀ out q j) where
    pub all_written : size ≤ j → (q.at ≡ z.at) × ((q.from ≡ z.from) × (g.bytes ≡ closing s))
    unfolding kids below_i payload_bytes_i items
    all_written h = of g.rest g.reads (omega (arith, g.counted)) g.puts
      where
        of : (is : Items) → ReadsI table store d (spot q.at q.from) is z → items is ≡ 0 → kids sch unlimited i s is j q.at ≡ Put g.bytes → (q.at ≡ z.at) × ((q.from ≡ z.from) × (g.bytes ≡ closing s))
        of done r n e =
            let x : z ≡ spot q.at q.from = lands_here table store r.span in
            (sym (ap (λ (u : table_of.Spot). u.at) x), (sym (ap (λ (u : table_of.Spot). u.from) x), (cc)))
        of (item t v is) r n e = absurd (omega (arith, n))

    module _ (h : j < size) where
      pub the_turn : Turn table store short d (spot q.at q.from) z g.rest
      the_turn = turn table store short d (spot q.at q.from) z g.rest g.reads (omega (arith, g.counted))

      pub the_part : Part (chosen_for sch unlimited i s j the_turn.tag q.at) (λ c. write sch unlimited the_turn.value c q.at) (kids sch unlimited i s the_turn.rest (j + 1) (q.at + records_of the_turn.value)) (tag_bytes s the_turn.tag) g.bytes
      unfolding kids
      the_part = parted _ _ _ _ _ (rw the_turn.first at g.puts)

      tag_is : the_part.node ≡ child_node s (node_at sch i).first j (value_record_at table q.at).tag
      tag_is = picked_node (node_at sch i).code (node_at sch i).first (node_at sch i).children s j the_turn.tag q.at the_part.node the_part.width the_part.picks ∙ ap (child_node s (node_at sch i).first j) (sym the_turn.bears)

      -- in the block
      pub child_low : (s ≡ as_tuple → j < (node_at sch i).children) → child_node s (node_at sch i).first j (value_record_at table q.at).tag < (node_at sch i).first + (node_at sch i).children
      child_low c = rw tag_is at (choice (node_at sch i).code (node_at sch i).first (node_at sch i).children s j the_turn.tag q.at the_part.node the_part.width c the_part.picks).low

      -- the sizes of the three parts
      pub sizes : length g.bytes ≡ length (tag_bytes s (value_record_at table q.at).tag) + (length the_part.child + length the_part.rest)
      sizes = ap length the_part.whole ∙ rw the_turn.bears (simp length-append)

      abbrev start : WritePos
      start = record { at = q.at; from = q.from; to = q.to + length (tag_bytes s (value_record_at table q.at).tag) }

      child_written : written_at sch (child_node s (node_at sch i).first j (value_record_at table q.at).tag) d table store q.at q.from ≡ Put the_part.child
      unfolding written_at whole_value
      child_written = rw (turn_stands table store short d q.at q.from z g.rest the_turn, ← tag_is) the_part.puts

      pub child_writable : SoundNodes sch → node_start ((node_at sch i).first + (node_at sch i).children) ≤ length sch → (s ≡ as_tuple → j < (node_at sch i).children) → to₀ + length all ≤ length out₀ → Writable sch (child_node s (node_at sch i).first j (value_record_at table q.at).tag) d table store start (length out)
      unfolding IsWhole IsPut put_of Closed
      child_writable k m c l = record {
        sound = k;
        inside = omega (arith, child_low c, m);
        whole = rw (turn_stands table store short d q.at q.from z g.rest the_turn) tt;
        short = omega (arith, short);
        within = omega (arith, g.reads.span.from_end, span_in table store g.reads.span);
        accepted = rw child_written tt;
        fits = rw child_written (omega (arith, l, g.room, g.same, sizes));
      }

      module _ (out' out'' : List ℕ) (r : WritePos) (a : out' ≡ over out q.to (tag_bytes s (value_record_at table q.at).tag)) (p : Placed sch (child_node s (node_at sch i).first j (value_record_at table q.at).tag) d table store start r out' out'') where
        pub filling_next : Filling s d size z to₀ all out₀ out'' r (j + 1)
        unfolding items put_of whole_end
        filling_next =
            let e = turn_stands table store short d q.at q.from z g.rest the_turn in
            let m : r.at ≡ q.at + records_of the_turn.value = rw e at p.at_end in
            let f : r.from ≡ q.from + payload_of the_turn.value = rw e at p.from_end in
            let t : r.to ≡ (q.to + length (tag_bytes s (value_record_at table q.at).tag)) + length the_part.child = rw child_written at p.to_end in
            let b : out'' ≡ over out' (q.to + length (tag_bytes s (value_record_at table q.at).tag)) the_part.child = rw child_written at p.bytes in
            record {
              rest = the_turn.rest;
              bytes = the_part.rest;
              reads = rw (m, f) the_turn.follows;
              counted = omega (arith, g.counted, ap items the_turn.first);
              puts = rw m the_part.follows;
              comes = over_parts out out' out'' (tag_bytes s (value_record_at table q.at).tag) the_part.child the_part.rest q.to r.to a b t ∙ ap (over out q.to) (sym (the_part.whole ∙ rw the_turn.bears)) ∙ g.comes;
              room = omega (arith, t, sizes, g.room);
              same = ap length b ∙ length_over _ _ _ ∙ ap length a ∙ length_over _ _ _ ∙ g.same;
            }

-- ---- the same in the code's numbers

module _ (sch : List ℕ) (i depth : ℕ) (table store : List ℕ) (p : WritePos) (room : ℕ) (k : Writable sch i depth table store p room) where
  short : length table ≤ 4294967295
  short = omega (arith, k.short)

  pub reads_whole : Reads table store depth (tag_at table store p.at) (spot p.at p.from) (whole_value (value_standing_at table store depth p.at p.from)) (whole_end (value_standing_at table store depth p.at p.from))
  reads_whole = stands table store short depth p.at p.from k.within k.whole

  pub record_in : ValueRecordIn p.at (length table)
  record_in = inside table store short reads_whole

  pub has_depth : 0 < depth
  has_depth = deep table store short reads_whole

  pub all_put : write sch unlimited (whole_value (value_standing_at table store depth p.at p.from)) i p.at ≡ Put (put_of (written_at sch i depth table store p.at p.from))
  unfolding written_at
  all_put = put_is _ k.accepted

  pub right_kind : value_kind (whole_value (value_standing_at table store depth p.at p.from)) ≡ kind_for (node_at sch i).code (form (node_at sch i).code)
  right_kind = fitted sch unlimited _ i p.at _ all_put

  module _ (code size : ℕ) (o : Parted sch i code table p size) where
    pub code_in : code ≤ 19
    code_in = rw o.is (k.sound.codes i k.inside)

    is_compound : 15 ≤ value_kind (whole_value (value_standing_at table store depth p.at p.from))
    is_compound = rw (right_kind, ← o.is) (compound_kind code o.compound code_in)

    pub is_size : size ≡ size_of (whole_value (value_standing_at table store depth p.at p.from))
    is_size = o.count ∙ count_told table store short reads_whole is_compound

    tested : (count_ok (shape_of code) size (node_at sch i).children ≡ true) × (kids sch unlimited i (shape_of code) (children (whole_value (value_standing_at table store depth p.at p.from))) 0 (p.at + 1) ≡ Put (put_of (written_at sch i depth table store p.at p.from)))
    tested = rw (o.is, is_size) (passed_test _ _ _ _ (sym (opens sch unlimited i _ p.at is_compound right_kind reads_whole.fits) ∙ all_put))

    pub size_fits : size < 2 ^ 32
    size_fits = omega (arith, o.count, size_small table store short reads_whole)

    pub fill_first : (out : List ℕ) → Filling sch i table store (shape_of code) (depth - 1) size (whole_end (value_standing_at table store depth p.at p.from)) p.to (put_of (written_at sch i depth table store p.at p.from)) out out (record { at = p.at + 1; from = p.from; to = p.to }) 0
    fill_first out = record {
      rest = children (whole_value (value_standing_at table store depth p.at p.from));
      bytes = put_of (written_at sch i depth table store p.at p.from);
      reads = below_reads table store short reads_whole is_compound;
      counted = omega (arith, is_size, (parent _ is_compound reads_whole.fits).count);
      puts = tested.1;
      comes = refl;
      room = refl;
      same = refl;
    }

    module _ (first : ℕ) (the-first : first ≡ (node_at sch i).first) {out₀ out : List ℕ} (same₀ : length out₀ ≡ room) {q : WritePos} {j : ℕ} (g : Filling sch i table store (shape_of code) (depth - 1) size (whole_end (value_standing_at table store depth p.at p.from)) p.to (put_of (written_at sch i depth table store p.at p.from)) out₀ out q j) where
      in_block : node_start ((node_at sch i).first + (node_at sch i).children) ≤ length sch
      unfolding Closed
      in_block = k.sound.closed i k.inside

      -- the last child is written_at
      pub last_room : size ≤ j → q.to + length (closing (shape_of code)) ≤ length out
      last_room h = omega (arith, ap length (all_written sch i table store short g h).1.1, g.room, g.same, same₀, k.fits)

      pub placed : size ≤ j → (n : ℕ) (out' : List ℕ) → n ≡ q.to + length (closing (shape_of code)) → out' ≡ over out q.to (closing (shape_of code)) → Placed sch i depth table store p (record { at = q.at; from = q.from; to = n }) out₀ out'
      placed h n out' e f =
          let a = all_written sch i table store short g h in
          record { at_end = a.0; from_end = a.1.0; to_end = omega (arith, e, ap length a.1.1, g.room); bytes = f ∙ ap (over out q.to) (sym a.1.1) ∙ g.comes }

      module _ (h : j < size) where
        pub record_there_lem : ValueRecordIn q.at (length table)
        record_there_lem = inside table store short (the_turn sch i table store short g h).here

        module _ (v : ValueRecord) (m : v ≡ value_record_at table q.at) where
          told : v.tag ≡ (value_record_at table q.at).tag
          told = ap (λ (u : ValueRecord). u.tag) m

          pub sums : length sch < 2 ^ 64 → (first + j < 2 ^ 64) × (first + v.tag < 2 ^ 64)
          sums l = (omega (arith, the-first, in_block, l, h, size_fits), omega (arith, the-first, in_block, l, told, tag_small table store short (the_turn sch i table store short g h).here))

          pub tag_room : q.to + length (tag_bytes (shape_of code) v.tag) ≤ length out
          tag_room = rw told (omega (arith, sizes sch i table store short g h, g.room, g.same, same₀, k.fits))

          chooses : shape_of code ≡ as_tuple → j < (node_at sch i).children
          chooses e = counted_tuple code size (node_at sch i).children j tested.0 h e

          module _ (c to : ℕ) (x : c ≡ child_node (shape_of code) first j v.tag) (y : to ≡ q.to + length (tag_bytes (shape_of code) v.tag)) where
            pub child_is : c ≡ child_node (shape_of code) (node_at sch i).first j (value_record_at table q.at).tag
            child_is = x ∙ rw (the-first, told)

            pub to_is : to ≡ q.to + length (tag_bytes (shape_of code) (value_record_at table q.at).tag)
            to_is = y ∙ rw told

            pub may_write : (n : ℕ) → n ≡ length out → Writable sch c (depth - 1) table store (record { at = q.at; from = q.from; to = to }) n
            may_write n e = rw (child_is, to_is, e) (child_writable sch i table store short g h k.sound in_block chooses (omega (arith, same₀, k.fits)))

            pub fill_next : (out' out'' : List ℕ) (r : WritePos) → out' ≡ over out q.to (tag_bytes (shape_of code) v.tag) → Placed sch c (depth - 1) table store (record { at = q.at; from = q.from; to = to }) r out' out'' →
                Filling sch i table store (shape_of code) (depth - 1) size (whole_end (value_standing_at table store depth p.at p.from)) p.to (put_of (written_at sch i depth table store p.at p.from)) out₀ out'' r (j + 1)
            fill_next out' out'' r a w = filling_next sch i table store short g h out' out'' r (rw told at a) (rw (child_is, to_is) at w)
