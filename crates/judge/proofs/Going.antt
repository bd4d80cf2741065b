-- The loop of the walk that judges: what the children that are left come to is what all of them do.
-- Assumes nothing.
use Rattle.std.proofs.Common.{Result, Ok, Err}
use Prim.Native.Nat.{ℕ, ◌+◌, ◌-◌, ◌*◌, ◌^◌, ◌≤◌, ◌<◌}
use mathlib.Core.Path.{◌≡◌, refl, sym, ap, ◌∙◌}
use mathlib.Core.Bool.{Bool, true, false}
use mathlib.Core.List.{List, ◌++◌}
use native.Mathlib.Omega.{arith}
use borrow.Author.Tests.{ltb-true, ltb-false, eqb-true}
use lib.Dec.{ltb}
use lib.ListN.{length, length-append}
use Rattle.rules.specs.Choice.{pick}
use Rattle.rules.specs.Wire.{form, width_of}
use Rattle.rules.specs.Block.{node_start, node_at, Closed}
use Rattle.rules.specs.Value.{Value, Items, done, item, items, records_of, payload_of}
use Rattle.rules.specs.ValueRecord.{value_record_at, ValueRecordIn}
use Rattle.rules.specs.ValueTable.{payload_bytes_i, below_i, value_kind, size_of, Spot, tag_at}
use Rattle.rules.specs.Refusals.{TupleLength, InvalidVariantTag, ValueDoesNotMatchSchema}
use Rattle.rules.specs.Writing as rule
use Rattle.rules.specs.Writing.{Wrote, Put, ◌>>=◌, kind_for, write}
use Rattle.rules.specs.declared.refusal.Refusal.{Refusal}
use Rattle.rules.specs.declared.table_record.ValueRecord.{ValueRecord}
use Rattle.rules.specs.Walk.{Limits}
use Rattle.rules.proofs.Stands.{length-le}
use Rattle.value_laws.proofs.Parse.{Reads, ReadsI}
use Rattle.value_laws.proofs.Span.{span_in, lands_here}
use Rattle.value_laws.proofs.Children.{children}
use Rattle.leaves.specs.Shapes.{Shape, as_variant, as_repeated, as_tuple, shape_of}
use Rattle.read.specs.Ready.{SoundNodes}
use Rattle.leaves.proofs.Codes.{form_variant, form_repeated, form_tuple}
use Rattle.judge.specs.Table.{IsWhole, whole_value, whole_end, value_standing_at}
use Rattle.judge.specs.Judging.{judge_pos, judged, tagged_of, chosen_of, count_ok, closing_bytes, Judgeable, Opened, judged_at}
use Rattle.judge.specs.Tags.{tag_bytes, closing}
use Rattle.judge.specs.declared.walk.JudgePos.{JudgePos}
use Rattle.judge.proofs.Codes.{widest}
use Rattle.judge.proofs.Kids.{choosing, chosen_for, kids, unfit, opens}
use Rattle.judge.proofs.Short.{few_bytes}
use Rattle.judge.proofs.Standing.{spot, stands, inside, kind_told, size_small, at_end, far, deep, below_reads, count_told, parent, Turn, turn, turn_stands}

-- ---- an answer, taken apart

pub record Putting (m : ℕ) (q : Spot) (y : Wrote) (p : JudgePos) : Type 0 where
  pub bytes : List ℕ
  pub is : y ≡ Put bytes
  pub ends : p ≡ judge_pos q.at q.from (m + length bytes)

pub judged_fits : (m : ℕ) (q : Spot) (y : Wrote) (p : JudgePos) → judged m q y ≡ Ok p → Putting m q y p
unfolding judged
judged_fits m q (Put b) p e = record { bytes = b; is = refl; ends = (cc) }
judged_fits m q (rule.Refused r) p e = absurd (let z : ◌≡◌ {A = ℕ} 0 1 = cc in omega arith)

pub judged_refused : (m : ℕ) (q : Spot) (y : Wrote) (x : Refusal) → judged m q y ≡ Err x → y ≡ rule.Refused x
unfolding judged
judged_refused m q (Put b) x e = absurd (let z : ◌≡◌ {A = ℕ} 0 1 = cc in omega arith)
judged_refused m q (rule.Refused r) x e = (cc)

-- ---- tags

tag_short : (code t : ℕ) → length (tag_bytes (shape_of code) t) ≤ 32
unfolding shape_of
tag_short code t = by (ltb code 17) (ltb code 19)
  where
    by : (a b : Bool) → length (tag_bytes (pick a (as_variant (width_of (form code))) (pick b (as_repeated (width_of (form code))) as_tuple)) t) ≤ 32
    by true b = unfold pick tag_bytes in rw length-le (widest code)
    by false true = unfold pick tag_bytes in rw length-le (widest code)
    by false false = unfold pick tag_bytes in omega arith

pub tag_of : (s : Shape) (code t : ℕ) → s ≡ shape_of code → length (tag_bytes s t) ≤ 32
tag_of s code t e = rw e (tag_short code t)

closing_length : (s : Shape) → length (closing s) ≡ closing_bytes s
unfolding closing closing_bytes
closing_length (as_variant w) = refl
closing_length (as_repeated w) = length-le w _
closing_length as_tuple = refl

pub closing_short : (code : ℕ) → closing_bytes (shape_of code) ≤ 32
unfolding shape_of
closing_short code = by (ltb code 17) (ltb code 19)
  where
    by : (a b : Bool) → closing_bytes (pick a (as_variant (width_of (form code))) (pick b (as_repeated (width_of (form code))) as_tuple)) ≤ 32
    by true b = unfold pick closing_bytes in omega arith
    by false true = unfold pick closing_bytes in widest code
    by false false = unfold pick closing_bytes in omega arith

-- a child that was chosen: one of the node's, and its tag has so many bytes
pub record Choice (first count : ℕ) (s : Shape) (t c w : ℕ) : Type 0 where
  pub low : c < first + count
  pub tag : length (tag_bytes s t) ≡ w

tagged_choice : (code first count w t r c u : ℕ) → tagged_of code first count w t r ≡ Ok (c, u) → (c < first + count) × (w ≡ u)
unfolding tagged_of
tagged_choice code first count w t r c u e = by (ltb t count) refl e
  where
    by : (b : Bool) → ltb t count ≡ b → pick {A = Result (ℕ × ℕ) Refusal} b (Ok ((first + t), w)) (Err (InvalidVariantTag code t count r)) ≡ Ok (c, u) → (c < first + count) × (w ≡ u)
    by true h f =
        let g : ◌≡◌ {A = ℕ × ℕ} (first + t, w) (c, u) = unfold pick in cc in
        (omega (arith, ap (λ (x : ℕ × ℕ). x.0) g, ltb-true t count h), ap (λ (x : ℕ × ℕ). x.1) g)
    by false h f = absurd (let z : ◌≡◌ {A = ℕ} 0 1 = unfold pick in cc in omega arith)

pub choice : (code first count : ℕ) (s : Shape) (j t r c w : ℕ) → (s ≡ as_tuple → j < count) → chosen_of code first count s j t r ≡ Ok (c, w) → Choice first count s t c w
unfolding chosen_of tag_bytes
choice code first count (as_variant u) j t r c w h e = let g = tagged_choice code first count u t r c w e in record { low = g.0; tag = length-le u t ∙ g.1 }
choice code first count (as_repeated u) j t r c w h e = let g = tagged_choice code first count u t r c w e in record { low = g.0; tag = length-le u t ∙ g.1 }
choice code first count as_tuple j t r c w h e =
    let f : ◌≡◌ {A = ℕ × ℕ} (first + j, 0) (c, w) = cc in
    record { low = omega (arith, ap (λ (x : ℕ × ℕ). x.0) f, h refl); tag = ap (λ (x : ℕ × ℕ). x.1) f }

-- ---- a turn

module _ (sch : List ℕ) (lim : Limits) (i : ℕ) (s : Shape) (j t : ℕ) (v : Value) (is : Items) (r n : ℕ) (z : Spot) (pk : Result (ℕ × ℕ) Refusal) (e : pk ≡ chosen_for sch lim i s j t r) where
  pick_refused : (x : Refusal) → pk ≡ Err x → judged n z (kids sch lim i s (item t v is) j r) ≡ Err x
  unfolding kids choosing judged
  pick_refused x f = rw (← e, f)

  module _ (c w : ℕ) (f : pk ≡ Ok (c, w)) (len : length (tag_bytes s t) ≡ w) (a : Result JudgePos Refusal) (q : Spot) (g : a ≡ judged (n + w) q (write sch lim v c r)) where
    child_refused : (x : Refusal) → a ≡ Err x → judged n z (kids sch lim i s (item t v is) j r) ≡ Err x
    unfolding kids choosing judged ◌>>=◌
    child_refused x h = rw (← e, f, judged_refused (n + w) q (write sch lim v c r) x (sym g ∙ h))

    joined : (x y : List ℕ) → n + length (tag_bytes s t ++ (x ++ y)) ≡ ((n + w) + length x) + length y
    joined x y = simp length-append (omega (arith, len))

    on : (p : JudgePos) → a ≡ Ok p → judged n z (kids sch lim i s (item t v is) j r) ≡ judged p.bytes z (kids sch lim i s is (j + 1) (r + records_of v))
    unfolding kids choosing judged ◌>>=◌
    on p h =
        let b = judged_fits (n + w) q (write sch lim v c r) p (sym g ∙ h) in
        from b.bytes b.is (ap (λ (u : JudgePos). u.bytes) b.ends)
      where
        rest : (x : List ℕ) (y : Wrote) → judged n z (y >>= (λ u. Put (tag_bytes s t ++ (x ++ u)))) ≡ judged ((n + w) + length x) z y
        rest x (Put y) = rw (joined x y)
        rest x (rule.Refused y) = refl

        from : (x : List ℕ) → write sch lim v c r ≡ Put x → p.bytes ≡ (n + w) + length x → judged n z (kids sch lim i s (item t v is) j r) ≡ judged p.bytes z (kids sch lim i s is (j + 1) (r + records_of v))
        from x b m = rw (← e, f, b, m) (rest x (kids sch lim i s is (j + 1) (r + records_of v)))

-- ---- the loop

-- a node with children takes kind 15, 16 or 17
pub compound_kind : (code : ℕ) → 14 < code → code ≤ 19 → 15 ≤ kind_for code (form code)
unfolding kind_for
compound_kind code l h = by (ltb code 17) (ltb code 19) refl refl
  where
    by : (a b : Bool) → ltb code 17 ≡ a → ltb code 19 ≡ b → 15 ≤ kind_for code (form code)
    by true b e f = rw (form_variant code l (ltb-true _ _ e)) (omega arith)
    by false true e f = rw (form_repeated code (ltb-false _ _ e) (ltb-true _ _ f)) (omega arith)
    by false false e f = rw (form_tuple code (ltb-false _ _ f) h) (omega arith)

-- and a variant's node kind 15
pub variant_kind : (code : ℕ) → 14 < code → code < 17 → kind_for code (form code) ≡ 15
unfolding kind_for
variant_kind code l h = rw (form_variant code l h)

-- what stands there, read whole
module _ (sch : List ℕ) (i : ℕ) (table store : List ℕ) (depth : ℕ) (p : JudgePos) (k : Judgeable sch i depth table store p) where
  pub whole_reads : Reads table store depth (tag_at table store p.at) (spot p.at p.from) (whole_value (value_standing_at table store depth p.at p.from)) (whole_end (value_standing_at table store depth p.at p.from))
  whole_reads = stands table store (omega (arith, k.short)) depth p.at p.from k.within k.whole

module _ (sch : List ℕ) (lim : Limits) (i : ℕ) (table store : List ℕ) where
  -- after j children: those that are left, and that they come to the whole
  pub record Going (s : Shape) (d size : ℕ) (z : Spot) (whole : Result JudgePos Refusal) (q : JudgePos) (j : ℕ) : Type 0 where
    pub rest : Items
    pub reads : ReadsI table store d (spot q.at q.from) rest z
    pub counted : j + items rest ≡ size
    pub few : q.bytes + 32 ≤ 80 * q.at + q.from + 2
    pub comes : judged q.bytes z (kids sch lim i s rest j q.at) ≡ whole

  module _ (depth : ℕ) (p : JudgePos) (k : Judgeable sch i depth table store p) where
    -- a value of another kind
    pub misfit : (code has : ℕ) → code ≡ (node_at sch i).code → has ≡ (value_record_at table p.at).kind → (has ≡ kind_for code (form code) → ⊥) → Err (ValueDoesNotMatchSchema code has p.at) ≡ judged_at sch lim i depth table store p
    unfolding judged_at judged
    misfit code has a b h =
        let e : has ≡ value_kind (whole_value (value_standing_at table store depth p.at p.from)) = b ∙ kind_told table store (omega (arith, k.short)) (whole_reads sch i table store depth p k) in
        rw (a, e, unfit sch lim i (whole_value (value_standing_at table store depth p.at p.from)) p.at (λ x. h (e ∙ x ∙ ap (λ (c : ℕ). kind_for c (form c)) (sym a))))

    module _ (code size : ℕ) (o : Opened sch i code table p size) where
      is_compound : 15 ≤ value_kind (whole_value (value_standing_at table store depth p.at p.from))
      is_compound = omega (arith, compound_kind code o.compound (rw o.is (k.sound.codes i k.inside)), o.kind, kind_told table store (omega (arith, k.short)) (whole_reads sch i table store depth p k))

      pub is_size : size ≡ size_of (whole_value (value_standing_at table store depth p.at p.from))
      is_size = o.count ∙ count_told table store (omega (arith, k.short)) (whole_reads sch i table store depth p k) is_compound

      is_written : (count : ℕ) → count ≡ (node_at sch i).children → write sch lim (whole_value (value_standing_at table store depth p.at p.from)) i p.at
          ≡ pick (count_ok (shape_of code) size count) (kids sch lim i (shape_of code) (children (whole_value (value_standing_at table store depth p.at p.from))) 0 (p.at + 1)) (rule.Refused (TupleLength count size p.at))
      is_written count e =
          rw (o.is, e, is_size) (opens sch lim i (whole_value (value_standing_at table store depth p.at p.from)) p.at is_compound (sym (kind_told table store (omega (arith, k.short)) (whole_reads sch i table store depth p k)) ∙ o.kind ∙ ap (λ (x : ℕ). kind_for x (form x)) o.is) (whole_reads sch i table store depth p k).fits)

      -- a tuple of another count
      pub miscounted : (count : ℕ) → count ≡ (node_at sch i).children → count_ok (shape_of code) size count ≡ false → Err (TupleLength count size p.at) ≡ judged_at sch lim i depth table store p
      unfolding judged_at judged pick
      miscounted count e f = rw (is_written count e, f)

      pub going_first : (count : ℕ) → count ≡ (node_at sch i).children → count_ok (shape_of code) size count ≡ true →
          Going (shape_of code) (depth - 1) size (whole_end (value_standing_at table store depth p.at p.from)) (judged_at sch lim i depth table store p) (judge_pos (p.at + 1) p.from p.bytes) 0
      unfolding judged_at pick
      going_first count e f = record {
        rest = children (whole_value (value_standing_at table store depth p.at p.from));
        reads = below_reads table store (omega (arith, k.short)) (whole_reads sch i table store depth p k) is_compound;
        counted = omega (arith, is_size, (parent _ is_compound (whole_reads sch i table store depth p k).fits).count);
        few = omega (arith, k.few);
        comes = rw (is_written count e, f);
      }

  module _ {s : Shape} {d size : ℕ} {z : Spot} {whole : Result JudgePos Refusal} {q : JudgePos} {j : ℕ} (short : length table ≤ 4294967295) (g : Going s d size z whole q j) where
    -- the positions that are left are before the end
    pub before : (q.at ≤ z.at) × ((q.from ≤ z.from) × (q.from ≤ length store))
    before = (omega (arith, g.reads.span.at_end), (omega (arith, g.reads.span.from_end), omega (arith, g.reads.span.from_end, span_in table store g.reads.span)))

    -- no child is left
    pub going_end : size ≤ j → Ok (judge_pos q.at q.from (q.bytes + closing_bytes s)) ≡ whole
    unfolding kids judged below_i payload_bytes_i items
    going_end h = of g.rest g.reads (omega (arith, g.counted)) g.comes
      where
        of : (is : Items) → ReadsI table store d (spot q.at q.from) is z → items is ≡ 0 → judged q.bytes z (kids sch lim i s is j q.at) ≡ whole → Ok (judge_pos q.at q.from (q.bytes + closing_bytes s)) ≡ whole
        of done r n e =
            let x : z ≡ spot q.at q.from = lands_here table store r.span in
            rw (← (closing_length s)) (rw x at e)
        of (item t v is) r n e = absurd (omega (arith, n))

    module _ (h : j < size) where
      pub the_turn : Turn table store short d (spot q.at q.from) z g.rest
      the_turn = turn table store short d (spot q.at q.from) z g.rest g.reads (omega (arith, g.counted))

      pub record_there_lem : ValueRecordIn q.at (length table)
      record_there_lem = inside table store short the_turn.here

      module _ (code first count : ℕ) (a : code ≡ (node_at sch i).code) (b : first ≡ (node_at sch i).first) (c : count ≡ (node_at sch i).children) (pk : Result (ℕ × ℕ) Refusal) (e : pk ≡ chosen_of code first count s j (value_record_at table q.at).tag q.at) where
        picks : pk ≡ chosen_for sch lim i s j the_turn.tag q.at
        picks = e ∙ rw (a, b, c, the_turn.bears)

        came : judged q.bytes z (kids sch lim i s (item the_turn.tag the_turn.value the_turn.rest) j q.at) ≡ whole
        came = rw the_turn.first at g.comes

        -- no child is chosen
        pub going_unpicked : (x : Refusal) → pk ≡ Err x → Err x ≡ whole
        going_unpicked x f = sym (pick_refused sch lim i s j the_turn.tag the_turn.value the_turn.rest q.at q.bytes z pk picks x f) ∙ came

        module _ (x w : ℕ) (f : pk ≡ Ok (x, w)) (choose : s ≡ as_tuple → j < count) where
          the_choice : Choice first count s the_turn.tag x w
          the_choice = choice code first count s j the_turn.tag q.at x w choose (sym (e ∙ rw the_turn.bears) ∙ f)

          -- its tag is short
          pub tag_few : s ≡ shape_of code → w ≤ 32
          tag_few l = omega (arith, the_choice.tag, tag_of s code the_turn.tag l)

          -- the child may be judged
          pub child_judgeable : SoundNodes sch → node_start (first + count) ≤ length sch → w ≤ 32 → length store < 2 ^ 32 → Judgeable sch x d table store (judge_pos q.at q.from (q.bytes + w))
          unfolding IsWhole
          child_judgeable k l m n = record {
            sound = k;
            inside = omega (arith, l, the_choice.low);
            whole = rw (turn_stands table store short d q.at q.from z g.rest the_turn) tt;
            short = omega (arith, short);
            small = n;
            within = before.1.1;
            few = omega (arith, g.few, m);
          }

          module _ (y : Result JudgePos Refusal) (is : y ≡ judged_at sch lim x d table store (judge_pos q.at q.from (q.bytes + w))) where
            answers : y ≡ judged (q.bytes + w) (spot (q.at + records_of the_turn.value) (q.from + payload_of the_turn.value)) (write sch lim the_turn.value x q.at)
            unfolding judged_at whole_value whole_end
            answers = is ∙ rw (turn_stands table store short d q.at q.from z g.rest the_turn)

            -- the child is refused
            pub going_refused : (r : Refusal) → y ≡ Err r → Err r ≡ whole
            going_refused r bad = sym (child_refused sch lim i s j the_turn.tag the_turn.value the_turn.rest q.at q.bytes z pk picks x w f the_choice.tag y _ answers r bad) ∙ came

            -- or is part of the row
            module _ (p : JudgePos) (fit : y ≡ Ok p) where
              put : Putting (q.bytes + w) (spot (q.at + records_of the_turn.value) (q.from + payload_of the_turn.value)) (write sch lim the_turn.value x q.at) p
              put = judged_fits _ _ _ p (sym answers ∙ fit)

              pub going_next : w ≤ 32 → Going s d size z whole p (j + 1)
              unfolding items
              going_next narrow =
                  let o = ap (λ (u : JudgePos). u.at) put.ends in
                  let m = ap (λ (u : JudgePos). u.from) put.ends in
                  let b = ap (λ (u : JudgePos). u.bytes) put.ends in
                  record {
                    rest = the_turn.rest;
                    reads = rw (o, m) the_turn.follows;
                    counted = omega (arith, g.counted, ap items the_turn.first);
                    few = omega (arith, o, m, b, g.few, few_bytes sch lim the_turn.value x q.at put.bytes put.is, narrow);
                    comes = rw o (sym (on sch lim i s j the_turn.tag the_turn.value the_turn.rest q.at q.bytes z pk picks x w f the_choice.tag y _ answers p fit) ∙ came);
                  }

-- ---- the same in the code's numbers

module _ (sch : List ℕ) (i depth : ℕ) (table store : List ℕ) (p : JudgePos) (k : Judgeable sch i depth table store p) where
  -- the value's own record is there
  pub whole_inside : ValueRecordIn p.at (length table)
  whole_inside = inside table store (omega (arith, k.short)) (whole_reads sch i table store depth p k)

  pub whole_deep : 0 < depth
  whole_deep = deep table store (omega (arith, k.short)) (whole_reads sch i table store depth p k)

-- a tuple's children are as many as its node's
pub counted_tuple : (code size count j : ℕ) → count_ok (shape_of code) size count ≡ true → j < size → shape_of code ≡ as_tuple → j < count
unfolding count_ok
counted_tuple code size count j f h e = omega (arith, eqb-true size count (rw e at f), h)

module _ (sch : List ℕ) (lim : Limits) (i depth : ℕ) (table store : List ℕ) (p : JudgePos) (k : Judgeable sch i depth table store p) (code size : ℕ) (o : Opened sch i code table p size) (first count : ℕ) (the-first : first ≡ (node_at sch i).first) (the-count : count ≡ (node_at sch i).children) where
  in_block : node_start (first + count) ≤ length sch
  unfolding Closed
  in_block = omega (arith, the-first, the-count, k.sound.closed i k.inside)

  pub known : code ≤ 19
  known = rw o.is (k.sound.codes i k.inside)

  pub wrong_count : (r : Bool) → r ≡ count_ok (shape_of code) size count → r ≡ false → Err (TupleLength count size p.at) ≡ judged_at sch lim i depth table store p
  wrong_count r e f = miscounted sch lim i table store depth p k code size o count the-count (sym e ∙ f)

  pub begins : (r : Bool) → r ≡ count_ok (shape_of code) size count → r ≡ true →
      Going sch lim i table store (shape_of code) (depth - 1) size (whole_end (value_standing_at table store depth p.at p.from)) (judged_at sch lim i depth table store p) (judge_pos (p.at + 1) p.from p.bytes) 0
  begins r e f = going_first sch lim i table store depth p k code size o count the-count (sym e ∙ f)

  module _ (r : Bool) (t : r ≡ count_ok (shape_of code) size count) (y : r ≡ true) {q : JudgePos} {j : ℕ} (g : Going sch lim i table store (shape_of code) (depth - 1) size (whole_end (value_standing_at table store depth p.at p.from)) (judged_at sch lim i depth table store p) q j) where
    short : length table ≤ 4294967295
    short = omega (arith, k.short)

    pub bounds : (q.at < 2 ^ 30) × ((q.from < 2 ^ 32) × (q.bytes < 2 ^ 40))
    bounds =
        let w = whole_reads sch i table store depth p k in
        let n = before sch lim i table store short g in
        let a : q.at < 2 ^ 30 = omega (arith, n.0, at_end table store short w, far table store short w, inside table store short w, k.short) in
        (a, (omega (arith, n.1.1, k.small), omega (arith, a, g.few, n.1.1, k.small)))

    pub ends_there : (n : ℕ) → n ≡ closing_bytes (shape_of code) → size ≤ j → Ok (judge_pos q.at q.from (q.bytes + n)) ≡ judged_at sch lim i depth table store p
    ends_there n e h = rw e (going_end sch lim i table store short g h)

    module _ (h : j < size) where
      pub there : ValueRecordIn q.at (length table)
      there = record_there_lem sch lim i table store short g h

      pub asks : length sch < 2 ^ 64 → (14 < code) × (code ≤ 19) × (first + count < 2 ^ 64) × (first + j < 2 ^ 64)
      asks l =
          let w = whole_reads sch i table store depth p k in
          (o.compound, known, omega (arith, in_block, l), omega (arith, in_block, l, h, o.count, size_small table store short w))

      module _ (v : ValueRecord) (m : v ≡ value_record_at table q.at) (pk : Result (ℕ × ℕ) Refusal) (e : pk ≡ chosen_of code first count (shape_of code) j v.tag q.at) where
        asked : pk ≡ chosen_of code first count (shape_of code) j (value_record_at table q.at).tag q.at
        asked = e ∙ ap (λ (u : ValueRecord). chosen_of code first count (shape_of code) j u.tag q.at) m

        pub no_pick : (x : Refusal) → pk ≡ Err x → Err x ≡ judged_at sch lim i depth table store p
        no_pick x f = going_unpicked sch lim i table store short g h code first count o.is the-first the-count pk asked x f

        module _ (x w : ℕ) (f : pk ≡ Ok (x, w)) where
          chooses : shape_of code ≡ as_tuple → j < count
          chooses n = counted_tuple code size count j (sym t ∙ y) h n

          pub narrow : w ≤ 32
          narrow = tag_few sch lim i table store short g h code first count o.is the-first the-count pk asked x w f chooses refl

          pub child : Judgeable sch x (depth - 1) table store (judge_pos q.at q.from (q.bytes + w))
          child = child_judgeable sch lim i table store short g h code first count o.is the-first the-count pk asked x w f chooses k.sound in_block narrow k.small

          module _ (a : Result JudgePos Refusal) (is : a ≡ judged_at sch lim x (depth - 1) table store (judge_pos q.at q.from (q.bytes + w))) where
            pub no_child_fits : (u : Refusal) → a ≡ Err u → Err u ≡ judged_at sch lim i depth table store p
            no_child_fits u bad = going_refused sch lim i table store short g h code first count o.is the-first the-count pk asked x w f chooses a is u bad

            pub goes_on_lem : (u : JudgePos) → a ≡ Ok u → Going sch lim i table store (shape_of code) (depth - 1) size (whole_end (value_standing_at table store depth p.at p.from)) (judged_at sch lim i depth table store p) u (j + 1)
            goes_on_lem u fit = going_next sch lim i table store short g h code first count o.is the-first the-count pk asked x w f chooses a is u fit narrow
