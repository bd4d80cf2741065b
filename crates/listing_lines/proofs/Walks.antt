-- The walk that lists a value: what is left to put, over what is put, is the whole.
-- Assumes nothing.
use Prim.Native.Nat.{ℕ, suc, ◌+◌, ◌-◌, ◌*◌, ◌≤◌, ◌<◌}
use mathlib.Core.Path.{◌≡◌, refl, sym, ap, ◌∙◌}
use mathlib.Core.List.{List, ◌++◌, append-nil, append_assoc}
use native.Mathlib.Omega.{arith}
use native.Mathlib.Nat.{add-zero}
use lib.ListN.{length, length-append}
use Rattle.rules.specs.Bytes.{over, Stands}
use Rattle.rules.specs.Value.{Value, nothing, boolean, number, wide, blob, variant, repeated, tuple, Items, done, item, Values, none, more, items, tally, tall, Fits, records_of, payload_of}
use Rattle.rules.specs.ValueRecord.{value_record_at, ValueRecordIn}
use Rattle.rules.specs.ValueTable as table_of
use Rattle.rules.specs.ValueTable.{value_kind, head_of, below_i, payload_bytes_i, tag_at}
use Rattle.rules.specs.Listing.{node_line, lines_below, lines_below_i, lines_below_v, lines_of, row_lines}
use Rattle.rules.specs.declared.table_record.ValueRecord.{ValueRecord}
use Rattle.rules.proofs.Over.{length_over, over-at}
use Rattle.value_laws.proofs.Records.{Shows, tag_is}
use Rattle.value_laws.proofs.Parse.{Holds, holds, Reads, ReadsI, reads}
use Rattle.value_laws.proofs.Span.{lands_here, span_in}
use Rattle.judge.specs.Table.{IsWhole, whole_value, whole_end, value_standing_at}
use Rattle.write.specs.declared.put.WritePos.{WritePos}
use Rattle.value_laws.proofs.Children.{untagged, children}
use Rattle.judge.proofs.Standing.{spot, whole_is, head, stands, inside, kind_told, at_end, from_end, from_in, far, deep, below_reads, Turn, turn, turn_stands}
use Rattle.lines.specs.Puts.{TextPut}
use Rattle.lines.proofs.Putting.{put_both}
use Rattle.texts.specs.Records.{kept, Told, record_line}
use Rattle.rules.specs.View.{child_count}
use Rattle.listing_lines.specs.Rows.{Listable, lines_at, Listed, root_value, RowListable}
use Rattle.listing_lines.specs.declared.rows.RowNode.{RowNode}
use Rattle.listing_lines.proofs.Tells.{own_payload, Tells, tells}

-- ---- lines of children, tagged or not

module _ (row : ℕ) where
  lines_untagged : (d : ℕ) (vs : Values) → lines_below_v row d vs ≡ lines_below_i row d (untagged vs)
  unfolding lines_below untagged
  lines_untagged d none = refl
  lines_untagged d (more v vs) = rw (lines_untagged d vs)

  lines_children : (d : ℕ) (v : Value) → lines_below row d v ≡ lines_below_i row d (children v)
  unfolding lines_below children
  lines_children d nothing = refl
  lines_children d (boolean x) = refl
  lines_children d (number k x) = refl
  lines_children d (wide k x) = refl
  lines_children d (blob k x) = refl
  lines_children d (variant t v) = simp append-nil
  lines_children d (repeated is) = refl
  lines_children d (tuple vs) = lines_untagged d vs

-- ---- what a node has of its own

own_few : (v : Value) → (1 ≤ records_of v) × (own_payload v ≤ payload_of v)
unfolding records_of payload_of tally own_payload
own_few nothing = (omega arith, omega arith)
own_few (boolean x) = (omega arith, omega arith)
own_few (number k x) = (omega arith, omega arith)
own_few (wide k x) = (omega arith, omega arith)
own_few (blob k x) = (omega arith, omega arith)
own_few (variant t v) = (omega arith, omega arith)
own_few (repeated is) = (omega arith, omega arith)
own_few (tuple vs) = (omega arith, omega arith)

module _ (table store : List ℕ) (short : length table ≤ 4294967295) {d tag at from : ℕ} {z : table_of.Spot} where
  leaf_reads : (v : Value) → Reads table store d tag (spot at from) v z → (n : ℕ) → records_of v ≡ 1 → payload_of v ≡ n → ReadsI table store (d - 1) (spot (at + 1) (from + n)) done z
  unfolding Shows Stands below_i payload_bytes_i Fits tall
  leaf_reads v r n e l = record {
    span = record {
      rows_stand = tt;
      payload_stands = omega (arith, l, from_end table store short r, from_in table store short r);
      at_end = omega (arith, e, at_end table store short r);
      from_end = omega (arith, l, from_end table store short r);
    };
    fits = tt;
    depth = omega arith;
  }

  parent_reads : (v : Value) → Reads table store d tag (spot at from) v z → 15 ≤ value_kind v → ReadsI table store (d - 1) (spot (at + 1) (from + 0)) (children v) z
  parent_reads v r l = rw (add-zero from) (below_reads table store short r l)

  -- behind a node's own record and payload stand its children
  kids_read : (v : Value) → Reads table store d tag (spot at from) v z → ReadsI table store (d - 1) (spot (at + 1) (from + own_payload v)) (children v) z
  unfolding own_payload children value_kind records_of payload_of tally
  kids_read nothing r = leaf_reads nothing r 0 refl refl
  kids_read (boolean x) r = leaf_reads (boolean x) r 0 refl refl
  kids_read (number k x) r = leaf_reads (number k x) r 0 refl refl
  kids_read (wide k x) r = leaf_reads (wide k x) r (length x) (omega arith) (omega arith)
  kids_read (blob k x) r = leaf_reads (blob k x) r (length x) (omega arith) (omega arith)
  kids_read (variant t v) r = parent_reads (variant t v) r (omega arith)
  kids_read (repeated is) r = parent_reads (repeated is) r (omega arith)
  kids_read (tuple vs) r = parent_reads (tuple vs) r (omega arith)

-- ---- the loop over the children

-- `all` are the lines of the children, which reach to z; those of the first are put from q₀ on
module _ (table store : List ℕ) where
  pub record Going (d row level : ℕ) (z : table_of.Spot) (q₀ : WritePos) (all text₀ text : List ℕ) (q : WritePos) (left : ℕ) : Type 0 where
    pub rest : Items
    pub reads : ReadsI table store d (spot q.at q.from) rest z
    pub counted : items rest ≡ left
    pub comes : over text q.to (lines_below_i row level rest) ≡ over text₀ q₀.to all
    pub position : q.to + length (lines_below_i row level rest) ≡ q₀.to + length all
    pub few : q.to + (128 * q₀.at + 2 * q₀.from) ≤ q₀.to + (128 * q.at + 2 * q.from)
    pub fits : q.to + (128 * z.at + 2 * z.from) ≤ length text₀ + (128 * q.at + 2 * q.from)
    pub same : length text ≡ length text₀

  pub none_left : {d row level : ℕ} {z : table_of.Spot} {q₀ : WritePos} {all text₀ text : List ℕ} {q : WritePos} {left : ℕ} → left ≤ 0 → Going d row level z q₀ all text₀ text q left → Going d row level z q₀ all text₀ text q 0
  none_left {left = left} h g = let e : left ≡ 0 = omega (arith, h) in rw e at g

  -- all children are put
  pub record Done (z : table_of.Spot) (q₀ : WritePos) (all text₀ text : List ℕ) (q : WritePos) : Type 0 where
    pub at_end : q.at ≡ z.at
    pub from_end : q.from ≡ z.from
    pub put : TextPut text₀ q₀.to all text q.to

  pub going_end : {d row level : ℕ} {z : table_of.Spot} {q₀ : WritePos} {all text₀ text : List ℕ} {q : WritePos} → Going d row level z q₀ all text₀ text q 0 → Done z q₀ all text₀ text q
  unfolding lines_below over items below_i payload_bytes_i
  going_end {d} {row} {level} {z} {q₀} {all} {text₀} {text} {q} g = of g.rest g.reads g.counted g.comes g.position
    where
      of : (is : Items) → ReadsI table store d (spot q.at q.from) is z → items is ≡ 0 → over text q.to (lines_below_i row level is) ≡ over text₀ q₀.to all → q.to + length (lines_below_i row level is) ≡ q₀.to + length all → Done z q₀ all text₀ text q
      of done r n e f =
          let x : z ≡ spot q.at q.from = lands_here table store r.span in
          record {
            at_end = sym (ap (λ (y : table_of.Spot). y.at) x);
            from_end = sym (ap (λ (y : table_of.Spot). y.from) x);
            put = record { holds = e; ends = omega (arith, f) };
          }
      of (item t v is) r n e f = absurd (omega (arith, n))

module _ (table store : List ℕ) (depth at from to room : ℕ) (k : Listable table store depth at from to room) where
  abbrev pub stood : Value
  stood = whole_value (value_standing_at table store depth at from)

  abbrev pub ended : table_of.Spot
  ended = whole_end (value_standing_at table store depth at from)

  short : length table ≤ 4294967295
  short = omega (arith, k.short)

  whole : Reads table store depth (tag_at table store at) (spot at from) stood ended
  whole = stands table store short depth at from k.within k.whole

  pub record_in : ValueRecordIn at (length table)
  record_in = inside table store short whole

  pub has_depth : 0 < depth
  has_depth = deep table store short whole

  told : Tells (value_record_at table at) store stood
  told = tells table store short k.small stood whole

  ends : (ended.at ≡ at + records_of stood) × (ended.from ≡ from + payload_of stood)
  ends = (at_end table store short whole, from_end table store short whole)

  module _ (own : ValueRecord) (is : own ≡ value_record_at table at) where
    own_told : Tells own store stood
    own_told = rw is told

    pub line_asked : (to + (128 + 2 * kept own) ≤ room) × Told own (length store)
    line_asked = (omega (arith, own_told.own, own_few stood, ends, k.fits), own_told.asked)

    module _ (count : ℕ) (e : count ≡ child_count own) where
      pub count_low : count ≤ own.size
      count_low = omega (arith, e, own_told.count, own_told.size)

      own_bytes : own.size - count ≡ own_payload stood
      own_bytes = omega (arith, e, own_told.count, own_told.size)

      pub from_low : from + (own.size - count) ≤ length store
      from_low = omega (arith, own_bytes, own_few stood, ends, from_in table store short whole)

      level : (65 - depth) + 1 ≡ 65 - (depth - 1)
      level = omega (arith, has_depth, k.shallow)

      all_lines : (row : ℕ) → record_line row (65 - depth) own store ++ lines_below_i row (65 - (depth - 1)) (children stood) ≡ lines_at table store depth row at from
      unfolding lines_at lines_of node_line record_line
      all_lines row = rw (own_told.text, ← level, ← (lines_children row ((65 - depth) + 1) stood), is, kind_told table store short whole)

      -- the node's own line is put
      module _ (row : ℕ) (text₀ text : List ℕ) (same-room : length text₀ ≡ room) (next : ℕ) (u : TextPut text₀ to (record_line row (65 - depth) own store) text next) (l : next ≤ to + (128 + 2 * kept own)) where
        abbrev pub behind : WritePos
        behind = record { at = at + 1; from = from + (own.size - count); to = next }

        pub going_first : Going table store (depth - 1) row (65 - (depth - 1)) ended behind (lines_below_i row (65 - (depth - 1)) (children stood)) text text behind count
        going_first = record {
          rest = children stood;
          reads = rw own_bytes (kids_read table store short stood whole);
          counted = sym (e ∙ own_told.count);
          comes = refl;
          position = refl;
          few = omega arith;
          fits = let n : length text ≡ length text₀ = ap length u.holds ∙ length_over _ _ _ in omega (arith, n, same-room, l, own_bytes, own_told.own, k.fits);
          same = refl;
        }

        pub listed : (n : RowNode) → n ≡ record { row = row; at = at; from = from } → (text' : List ℕ) (q : WritePos) → Going table store (depth - 1) row (65 - (depth - 1)) ended behind (lines_below_i row (65 - (depth - 1)) (children stood)) text text' q 0 → Listed table store depth n to q text₀ text'
        listed n is-node text' q g =
            let d = going_end table store g in
            let b = put_both _ _ _ _ _ _ _ _ u d.put in
            rw is-node (record {
              at_end = d.at_end;
              from_end = d.from_end;
              put = rw (← (all_lines row)) b;
              few = omega (arith, g.few, l, own_bytes, own_told.own);
            })

  -- the next child
  module _ (row : ℕ) (q₀ : WritePos) (all text₀ text : List ℕ) (q : WritePos) (left : ℕ) (g : Going table store (depth - 1) row (65 - (depth - 1)) ended q₀ all text₀ text q left) (h : 0 < left) where
    the_turn : Turn table store short (depth - 1) (spot q.at q.from) ended g.rest
    the_turn = turn table store short (depth - 1) (spot q.at q.from) ended g.rest g.reads (omega (arith, h, g.counted))

    child_stands : value_standing_at table store (depth - 1) q.at q.from ≡ table_of.Whole the_turn.value (spot (q.at + records_of the_turn.value) (q.from + payload_of the_turn.value))
    child_stands = turn_stands table store short (depth - 1) q.at q.from ended g.rest the_turn

    beyond : (q.at + records_of the_turn.value ≤ ended.at) × (q.from + payload_of the_turn.value ≤ ended.from)
    beyond = (omega (arith, the_turn.follows.span.at_end), omega (arith, the_turn.follows.span.from_end))

    pub child_listable : Listable table store (depth - 1) q.at q.from q.to (length text)
    unfolding IsWhole whole_end
    child_listable = record {
      whole = rw child_stands tt;
      short = k.short;
      small = k.small;
      within = omega (arith, g.reads.span.from_end, span_in table store g.reads.span);
      shallow = omega (arith, k.shallow);
      fits = rw child_stands (omega (arith, beyond, g.fits, g.same));
    }

    abbrev others : List ℕ
    others = lines_below_i row (65 - (depth - 1)) the_turn.rest

    child_first : lines_at table store (depth - 1) row q.at q.from ≡ lines_of row (65 - (depth - 1)) the_turn.tag the_turn.value
    unfolding lines_at whole_value
    child_first = rw (child_stands, the_turn.bears)

    first_lines : lines_of row (65 - (depth - 1)) the_turn.tag the_turn.value ++ others ≡ lines_below_i row (65 - (depth - 1)) (item the_turn.tag the_turn.value the_turn.rest)
    unfolding lines_of lines_below
    first_lines = append_assoc (node_line row (65 - (depth - 1)) the_turn.tag the_turn.value) (lines_below row ((65 - (depth - 1)) + 1) the_turn.value) others

    child_lines : lines_at table store (depth - 1) row q.at q.from ++ others ≡ lines_below_i row (65 - (depth - 1)) g.rest
    child_lines = ap (λ (x : List ℕ). x ++ others) child_first ∙ first_lines ∙ ap (lines_below_i row (65 - (depth - 1))) (sym the_turn.first)

    pub going_next : (text' : List ℕ) (r : WritePos) → Listed table store (depth - 1) (record { row = row; at = q.at; from = q.from }) q.to r text text' →
        Going table store (depth - 1) row (65 - (depth - 1)) ended q₀ all text₀ text' r (left - 1)
    unfolding items whole_end
    going_next text' r l =
        let m : r.at ≡ q.at + records_of the_turn.value = rw child_stands at l.at_end in
        let f : r.from ≡ q.from + payload_of the_turn.value = rw child_stands at l.from_end in
        let lines = lines_at table store (depth - 1) row q.at q.from in
        let n : length (lines_below_i row (65 - (depth - 1)) g.rest) ≡ length lines + length others = ap length (sym child_lines) ∙ length-append lines others in
        record {
          rest = the_turn.rest;
          reads = rw (m, f) the_turn.follows;
          counted = let c : items g.rest ≡ suc (items the_turn.rest) = ap items the_turn.first in omega (arith, g.counted, c);
          comes = ap (λ (x : List ℕ). over x r.to others) l.put.holds ∙ over-at lines others text q.to r.to l.put.ends ∙ ap (over text q.to) child_lines ∙ g.comes;
          position = omega (arith, l.put.ends, n, g.position);
          few = omega (arith, l.few, g.few);
          fits = omega (arith, l.few, g.fits);
          same = ap length l.put.holds ∙ length_over _ _ _ ∙ g.same;
        }

-- ---- a row

module _ (table store : List ℕ) (room : ℕ) (k : RowListable table store room) where
  low : length table ≤ 4294967295
  low = omega (arith, k.few)

  root_read : Reads table store 64 0 (spot 0 0) (whole_value (root_value table store)) (whole_end (root_value table store))
  root_read = of (rw (whole_is _ k.whole) at (reads table store 64 0 (spot 0 0) (omega arith)))
    where
      of : {v : Value} {q : table_of.Spot} → Holds (Reads table store 64 0 (spot 0 0)) (table_of.Whole v q) → Reads table store 64 0 (spot 0 0) v q
      of (holds r) = r

  root_tag : tag_at table store 0 ≡ 0
  unfolding head_of
  root_tag = tag_is table 0 (head_of (whole_value (root_value table store)) 0 0) (head table store low root_read) (omega arith)

  root_stands : value_standing_at table store 64 0 0 ≡ root_value table store
  unfolding value_standing_at
  root_stands = rw root_tag

  root_whole : IsWhole (value_standing_at table store 64 0 0)
  root_whole = rw root_stands k.whole

  root_reads : Reads table store 64 (tag_at table store 0) (spot 0 0) (whole_value (value_standing_at table store 64 0 0)) (whole_end (value_standing_at table store 64 0 0))
  root_reads = stands table store low 64 0 0 (omega arith) root_whole

  root_end : 128 * (whole_end (value_standing_at table store 64 0 0)).at + 2 * (whole_end (value_standing_at table store 64 0 0)).from ≤ 655360
  root_end = omega (arith, far table store low root_reads, at_end table store low root_reads, from_in table store low root_reads, k.few, k.small)

  pub root_listable : Listable table store 64 0 0 0 room
  root_listable = record {
    whole = root_whole;
    short = omega (arith, k.few);
    small = omega (arith, k.small);
    within = omega arith;
    shallow = omega arith;
    fits = omega (arith, root_end, k.roomy);
  }

  pub row_listed : (row : ℕ) (text text' : List ℕ) (q : WritePos) → Listed table store 64 (record { row = row; at = 0; from = 0 }) 0 q text text' → TextPut text 0 (row_lines row (whole_value (root_value table store))) text' q.to × (q.to ≤ 655360)
  unfolding row_lines lines_at
  row_listed row text text' q l =
      let e : lines_at table store 64 row 0 0 ≡ row_lines row (whole_value (root_value table store)) = rw (root_stands, root_tag) in
      (rw (← e) l.put, omega (arith, l.few, l.at_end, l.from_end, root_end))
