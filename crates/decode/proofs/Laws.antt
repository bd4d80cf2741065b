-- A row of a checked format, step by step: what is judged reads so, has room or not, and is left in both slices.
-- Assumes nothing.
use Rattle.std.specs.Prelude.{⊤}
use Rattle.std.proofs.Common.{Result, Option, Ok, Err, Some}
use Prim.Native.Nat.{ℕ, ◌+◌, ◌≤◌, ◌<◌, min}
use mathlib.Core.Path.{◌≡◌, refl, sym, ◌∙◌, ap}
use mathlib.Core.Bool.{Bool, true, false}
use mathlib.Core.List.{List}
use native.Mathlib.Omega.{arith}
use borrow.Author.Tests.{leb-true}
use lib.Dec.{leb}
use lib.ListN.{length}
use Rattle.rules.specs.Choice.{pick}
use Rattle.rules.specs.Bytes.{Bytes, over}
use Rattle.rules.specs.Block.{node_size, node_at, records, block, Closed}
use Rattle.rules.specs.Format.{Format, table_schema, format_rules}
use Rattle.rules.specs.Value.{Value, records_of, payload_of}
use Rattle.rules.specs.ValueRecord.{value_records_in}
use Rattle.rules.specs.ValueTable.{flat, payload_bytes}
use Rattle.rules.specs.Walk.{Limits, Pos, Answer, Got, Refused, walk, ◌>>=◌}
use Rattle.rules.specs.Reading.{start, row_at, extent, skipped, room, room_for, room_test, untouched, fill_with, filled}
use Rattle.rules.specs.declared.settings.Settings.{Settings}
use Rattle.rules.specs.declared.refusal.Refusal.{Refusal}
use Rattle.rules.specs.Refusals.{NoNodeRoom, NoPayloadRoom}
use Rattle.rules.specs.declared.table_record.Located.TheVariants.{Block}
use Rattle.rules.specs.declared.answer.Extent.{Extent}
use Rattle.block_laws.proofs.Tables.{table_schema_lem}
use Rattle.row_laws.proofs.TableRows.{located}
use Rattle.schema.specs.Slices.{slices}
use Rattle.row.specs.Steps.{a_row, row_block_at, row_in, ThroughDoor}
use Rattle.row.specs.declared.steps.RowBlock.{RowBlock}
use Rattle.row.proofs.Laws.{root_code, block_found, found_row}
use Rattle.fill.specs.Plain as plain
use Rattle.fill.specs.Plain.{IsGot, value_read, read_at}
use Rattle.fill.specs.Filling.{row_value}
use Rattle.fill.proofs.Agrees.{reads, counts}
use Rattle.decode.specs.Steps.{given_room, Granted}

-- a row that is refused leaves both slices
pub none_filled : (at : ℕ) (a : Answer (ℕ × Value)) (rs ps : List ℕ) (read : Result (Option Extent) Refusal) → read ≡ skipped at a → ((e : Extent) → read ≡ Ok (Some e) → ⊥) → untouched read rs ps ≡ filled at a rs ps
unfolding skipped filled
none_filled at (Got (t, v) q) rs ps read is not_row = absurd (not_row (extent at t q) is)
none_filled at (Refused r) rs ps read is not_row = rw is

refused_no_row : (r : Refusal) (read : Result (Option Extent) Refusal) → read ≡ Err r → (e : Extent) → read ≡ Ok (Some e) → ⊥
refused_no_row r read is e row = let z : ◌≡◌ {A = ℕ} 0 1 = cc in omega arith

pub refused_filled : (at : ℕ) (a : Answer (ℕ × Value)) (rs ps : List ℕ) (r : Refusal) (read : Result (Option Extent) Refusal) → read ≡ Err r → Err r ≡ skipped at a → untouched read rs ps ≡ filled at a rs ps
refused_filled at a rs ps r read is e = none_filled at a rs ps read (is ∙ e) (refused_no_row r read is)

-- ---- the block of a row's table
module _ (table names references registry : List ℕ) (ok : format_rules (slices table names references registry) ≡ Ok tt) (t first count : ℕ) (found : Block first count ≡ table_schema (slices table names references registry) t) where
  -- it lies in the table, is whole, and its root has children
  record Rooted : Type 0 where
    within : first + count ≤ records table
    closed : Closed (block table first count)
    root : node_size ≤ length (block table first count)
    compound : 14 < (node_at (block table first count) 0).code

  rooted : Rooted
  rooted =
      let w : table_schema (slices table names references registry) t ≡ Block first count = sym found in
      let b = table_schema_lem (slices table names references registry) ok t (located (slices table names references registry) t first count w) in
      let v = sym b.stands ∙ w in
      let x : b.first ≡ first = cc in
      let y : b.count ≡ count = cc in
      let d = rw (x, y) at b.denotes in
      record {
        within = rw (x, y) at b.good.inside;
        closed = rw (x, y) at b.closed;
        root = omega (arith, rw (x, y) at b.good.formed.order.size);
        compound = omega (arith, root_code (block table first count) names d b.root);
      }

-- ---- what is judged reads so, and is left where there is room
module _ (table inp : List ℕ) (lim : Limits) (bs : Bytes inp) (at t first count : ℕ) (h : at + 2 ≤ length inp) (a : Answer (ℕ × Value)) (along : a ≡ (walk (block table first count) inp lim 64 0 (start lim (at + 2)) >>= λ z. Got (t, z.0) z.1)) (rs ps : List ℕ) (read : Result Extent Refusal) (is : a_row read ≡ row_in table inp lim at t first count) where
  -- what is judged to be no row is the rule's answer, and nothing is written
  row_other : (r : Refusal) → read ≡ Err r → untouched (Err r) rs ps ≡ filled at a rs ps
  unfolding row_in a_row
  row_other r h = refused_filled at a rs ps r (Err r) refl (rw along (rw h at is))

  module _ (e : Extent) (row : read ≡ Ok e) where
    -- the row that was judged
    record Judged : Type 0 where
      v : Value
      q : Pos
      walks : walk (block table first count) inp lim 64 0 (start lim (at + 2)) ≡ Got v q
      records : e.records ≡ q.records
      payload : e.payload ≡ q.payload
      whole : e ≡ extent at t q

    judged : Judged
    unfolding row_in skipped extent ◌>>=◌ a_row
    judged = by (walk (block table first count) inp lim 64 0 (start lim (at + 2))) refl (sym is ∙ ap a_row row)
      where
        by : (w : Answer Value) → walk (block table first count) inp lim 64 0 (start lim (at + 2)) ≡ w → skipped at (w >>= λ z. Got (t, z.0) z.1) ≡ Ok (Some e) → Judged
        by (Got v q) x y =
            let z : e ≡ extent at t q = cc in
            record { v = v; q = q; walks = x; records = rw z; payload = rw z; whole = z }
        by (Refused s) x y = absurd (omega (arith, differ y))
          where
            differ : ◌≡◌ {A = Result (Option Extent) Refusal} (Err s) (Ok (Some e)) → ◌≡◌ {A = ℕ} 0 1
            differ y = cc

    row_is : a ≡ Got (t, judged.v) judged.q
    unfolding ◌>>=◌
    row_is = along ∙ rw judged.walks

    -- it stands there, limits aside, and was counted
    stands : read_at (block table first count) inp 64 0 (at + 2) ≡ plain.Got judged.v judged.q.at
    unfolding start
    stands = reads inp lim (block table first count) 64 0 (start lim (at + 2)) judged.q judged.v judged.walks

    counted : (e.records ≡ records_of judged.v) × (e.payload ≡ payload_of judged.v)
    unfolding start
    counted =
        let k = counts inp lim bs (block table first count) 64 0 (start lim (at + 2)) judged.q judged.v h judged.walks in
        (omega (arith, k.0, judged.records), omega (arith, k.1, judged.payload))

    module _ (fits : Result ⊤ Refusal) (so : given_room e fits ≡ room_for at (min (length rs) 4294967295) (min (length ps) 4294967295) e) where
      abbrev Tested : Bool → Bool → Result (Option Extent) Refusal
      Tested b c = pick b (pick c (Ok (Some e)) (Err (NoPayloadRoom e.payload at))) (Err (NoNodeRoom e.records at))

      -- what decode leaves goes by the test
      tested : filled at a rs ps ≡ fill_with judged.v rs ps (given_room e fits)
      unfolding filled room_test room
      tested =
          ap (λ (z : Answer (ℕ × Value)). filled at z rs ps) row_is
          ∙ ap (λ (z : Extent). fill_with judged.v rs ps (room_test at rs ps (Ok (Some z)))) (sym judged.whole)
          ∙ ap (fill_with judged.v rs ps) (sym so)

      -- a test that fails is the rule's answer, and nothing is written
      no_room : (r : Refusal) → fits ≡ Err r → untouched (Err r) rs ps ≡ filled at a rs ps
      unfolding fill_with given_room
      no_room r h = sym (tested ∙ ap (λ (z : Result ⊤ Refusal). fill_with judged.v rs ps (given_room e z)) h)

      -- both pass
      roomy : fits ≡ Ok tt → (leb e.records (value_records_in (min (length rs) 4294967295)) ≡ true) × (leb e.payload (min (length ps) 4294967295) ≡ true)
      unfolding room_for pick given_room
      roomy x = by (leb e.records (value_records_in (min (length rs) 4294967295))) (leb e.payload (min (length ps) 4294967295)) (sym so ∙ ap (given_room e) x)
        where
          never : (r : Refusal) → ◌≡◌ {A = Result (Option Extent) Refusal} (Err r) (Ok (Some e)) → ⊥
          never r y = omega (arith, differ)
            where
              differ : ◌≡◌ {A = ℕ} 0 1
              differ = cc

          by : (b c : Bool) → Tested b c ≡ Ok (Some e) → (b ≡ true) × (c ≡ true)
          by true true y = (refl, refl)
          by true false y = absurd (never _ y)
          by false c y = absurd (never _ y)

      granted : (names references registry : List ℕ) → format_rules (slices table names references registry) ≡ Ok tt → Block first count ≡ table_schema (slices table names references registry) t → fits ≡ Ok tt → Granted table inp at first count (length rs) (length ps)
      unfolding value_read IsGot
      granted names references registry ok found x =
          let k = roomy x in
          let g = rooted table names references registry ok t first count found in
          let m = leb-true e.records (value_records_in (min (length rs) 4294967295)) k.0 in
          let n = leb-true e.payload (min (length ps) 4294967295) k.1 in
          record {
            within = g.within;
            tag = h;
            fills = record {
              closed = g.closed;
              root = g.root;
              compound = g.compound;
              room = record {
                is = rw stands tt;
                records = rw stands (omega (arith, m, counted.0));
                payload = rw stands (omega (arith, n, counted.1));
              };
            };
          }

      -- the value that stands there is what is left
      row_filled : fits ≡ Ok tt → (rs' ps' : List ℕ) →
          rs' ≡ over rs 0 (flat (row_value (block table first count) inp (at + 2)) 0 0) →
          ps' ≡ over ps 0 (payload_bytes (row_value (block table first count) inp (at + 2))) →
          untouched (Ok (Some e)) rs' ps' ≡ filled at a rs ps
      unfolding fill_with room_for pick value_read
      row_filled x rs' ps' b c =
          let k = roomy x in
          let b' : rs' ≡ over rs 0 (flat judged.v 0 0) = rw stands at b in
          let c' : ps' ≡ over ps 0 (payload_bytes judged.v) = rw stands at c in
          let y : given_room e fits ≡ Ok (Some e) = so ∙ rw (k.0, k.1) in
          rw (b', c') (sym (tested ∙ ap (fill_with judged.v rs ps) y))

-- ---- and so of the row whose block was found: v is the format as the code reads it
module _ (f : Format) (inp : List ℕ) (lim : Limits) (at : ℕ) (x : Result RowBlock Refusal) (found : x ≡ row_block_at f inp at) (b : RowBlock) (y : x ≡ Ok b) (v : Format) (own : v ≡ f)
    (bs : Bytes inp) (rs ps : List ℕ) (read : Result Extent Refusal) (is : a_row read ≡ row_in v.table inp lim at b.tag b.first b.count) where
  tagged : at + 2 ≤ length inp
  tagged = let p = block_found f inp at x found b y in omega (arith, p.0)

  along : row_at f inp lim at ≡ (walk (block v.table b.first b.count) inp lim 64 0 (start lim (at + 2)) >>= λ z. Got (b.tag, z.0) z.1)
  along = found_row f inp at x found b y v own lim

  pub found_other : (r : Refusal) → read ≡ Err r → untouched (Err r) rs ps ≡ filled at (row_at f inp lim at) rs ps
  found_other = row_other v.table inp lim bs at b.tag b.first b.count tagged _ along rs ps read is

  module _ (e : Extent) (row : read ≡ Ok e) (fits : Result ⊤ Refusal) (so : given_room e fits ≡ room_for at (min (length rs) 4294967295) (min (length ps) 4294967295) e) where
    pub found_no_room : (r : Refusal) → fits ≡ Err r → untouched (Err r) rs ps ≡ filled at (row_at f inp lim at) rs ps
    found_no_room = no_room v.table inp lim bs at b.tag b.first b.count tagged _ along rs ps read is e row fits so

    pub found_granted : (s : Settings) → ThroughDoor f inp s → fits ≡ Ok tt → Granted v.table inp at b.first b.count (length rs) (length ps)
    found_granted s ok fit =
        let p = block_found f inp at x found b y in
        granted v.table inp lim bs at b.tag b.first b.count tagged _ along rs ps read is e row fits so f.names f.references f.registry (rw own ok.accepted) (rw own p.1.1) fit

    pub found_filled : fits ≡ Ok tt → (rs' ps' : List ℕ) →
        rs' ≡ over rs 0 (flat (row_value (block v.table b.first b.count) inp (at + 2)) 0 0) →
        ps' ≡ over ps 0 (payload_bytes (row_value (block v.table b.first b.count) inp (at + 2))) →
        untouched (Ok (Some e)) rs' ps' ≡ filled at (row_at f inp lim at) rs ps
    found_filled = row_filled v.table inp lim bs at b.tag b.first b.count tagged _ along rs ps read is e row fits so
