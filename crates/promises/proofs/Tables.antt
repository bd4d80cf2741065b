-- What decode fills is the table of a conforming value, and a checked format's tables pass the encoder's check.
-- Assumes nothing.
use Rattle.rules.specs.declared.refusal.Refusal.{Refusal}
use Rattle.std.proofs.Common.{Result, Option, Ok, Err, Some, None}
use Prim.Native.Nat.{ℕ, ◌+◌, ◌-◌, ◌≤◌, ◌<◌}
use mathlib.Core.Path.{◌≡◌, refl, sym, ap, ◌∙◌}
use mathlib.Core.Bool.{true}
use mathlib.Core.List.{List, ◌++◌}
use native.Mathlib.Omega.{arith}
use lib.ListN.{length, take, drop}
use lib.Seq.{take-append_seam, drop-append_seam}
use Rattle.rules.specs.Bytes.{Bytes, over}
use Rattle.rules.specs.Schema.{Schema, deep, Valid}
use Rattle.rules.specs.Block.{block, Denotes}
use Rattle.rules.specs.Format.{Format, tables, table_schema, sizes_ok, format_rules, format_rule, encoder_rule}
use Rattle.rules.specs.Value.{Value, tall, records_of, payload_of}
use Rattle.rules.specs.ValueTable.{TableOf, flat, payload_bytes}
use Rattle.rules.specs.Grammar.{TableRow, table_row}
use Rattle.rules.specs.Walk.{Limits, Pos, Answer, Got, after}
use Rattle.rules.specs.ValueRecord.{value_record_start}
use Rattle.rules.specs.Reading.{limits, start, row_at, schema_of, Accepts, door, through, extent, Decoded, room, record_room, untouched, fill_with, filled, decode_rule, NoRow, LeavesRow}
use Rattle.rules.specs.Answers.{row_said, read_said}
use Rattle.rules.specs.Good.{GoodTable}
use Rattle.rules.specs.declared.settings.Settings.{Settings}
use Rattle.rules.specs.declared.table_record.Located.TheVariants.{Block}
use Rattle.rules.specs.declared.answer.Door.{Door}
use Rattle.rules.specs.declared.answer.Extent.{Extent}
use Rattle.rules.proofs.Checks.{pick_accepted}
use Rattle.rules.proofs.Answers.{read_row}
use Rattle.rules.proofs.Over.{over-is}
use Rattle.block_laws.proofs.Good.{encoder_accepts}
use Rattle.block_laws.proofs.Formats.{format_accepts}
use Rattle.block_laws.proofs.Tables.{table_schema_lem}
use Rattle.row_laws.proofs.TableRows.{located}
use Rattle.row_laws.proofs.Decoding.{Leaves, row_written, unchanged, decode_leaves, accepts_conforms, counted}
use Rattle.value_laws.proofs.Sizes.{length-flat, length_pays}
use Rattle.value_laws.proofs.Conform.{conforms_depth}

-- ---- a checked format's tables

-- What a table of a checked format has, where its block is known.
pub record Stood (f : Format) (t first n : ℕ) : Type 0 where
  pub sizes : sizes_ok f ≡ true
  pub rules : format_rules f ≡ Ok tt
  pub below : t < tables f
  pub good : GoodTable f.table f.names first n
  pub denotes : Denotes (block f.table first n) f.names 0 (schema_of f t)
  pub valid : Valid (schema_of f t)

module _ (f : Format) (ok : format_rule f ≡ Ok tt) (t first n : ℕ) (e : table_schema f t ≡ Block first n) where
  pub stood : Stood f t first n
  unfolding format_rule
  stood =
      let g = (format_accepts f).0 ok in
      let p = pick_accepted _ _ _ ok in
      let l = located f t first n e in
      let s = table_schema_lem f p.1 t l in
      let a : Block s.first s.count ≡ Block first n = sym s.stands ∙ e in
      let b : s.first ≡ first = cc in
      let c : s.count ≡ n = cc in
      let r = rw s.is at s.root in
      record {
        sizes = p.0;
        rules = p.1;
        below = l;
        good = record {
          schema = record { table_size = g.table_size; names_size = g.names_size; whole = g.good.whole_table; good = rw (b, c) at s.good };
          root = rw (b, c) at r;
        };
        denotes = rw (b, c) at s.denotes;
        valid = s.valid;
      }

  -- each table's block passes the encoder's check
  pub table_encodes : encoder_rule f.table f.names first n ≡ Ok tt
  table_encodes = (encoder_accepts f.table f.names first n).1 stood.good

-- ---- what decode leaves

-- a row's table number is one of the format's
row_table : {n t : ℕ} {schema : ℕ → Schema} {v : Value} {b : List ℕ} → TableRow n schema t v b → t < n
row_table (table_row h l r e) = l

-- what is written at the start of a slice is its beginning, and the rest stays
pub written_first : (xs s : List ℕ) (n : ℕ) → n ≡ length xs → length xs ≤ length s → (take n (over s 0 xs) ≡ xs) × (drop n (over s 0 xs) ≡ drop n s)
written_first xs s n e h =
    let z : 0 + length xs ≡ length xs = omega arith in
    let o : over s 0 xs ≡ xs ++ drop (length xs) s = rw z at (over-is xs s 0 (omega arith)) in
    rw (e, o) (take-append_seam xs (drop (length xs) s), drop-append_seam xs (drop (length xs) s))

-- What decode leaves of a row, and that the row's counts are its value's.
pub record Held (f : Format) (inp : List ℕ) (lim : Limits) (at : ℕ) (rs ps : List ℕ) (e : Extent) (d : Decoded) : Type 0 where
  pub left : LeavesRow f inp lim at rs ps e d
  pub records : records_of left.value ≡ e.records
  pub payload : payload_of left.value ≡ e.payload

module _ (f : Format) (inp : List ℕ) (lim : Limits) (at : ℕ) where
  -- a row of an accepted format that stands somewhere is one of a value that has a table
  decoded_table : {t : ℕ} {v : Value} {q : Pos} → format_rules f ≡ Ok tt → Accepts f inp lim at t v q → TableOf v (flat v 0 0) (payload_bytes v)
  decoded_table {t} {v} ok a =
      let c = accepts_conforms f inp lim at a in
      let d : tall v ≤ deep (schema_of f t) = conforms_depth c.0 in
      let e : deep (schema_of f t) ≤ 64 = (table_schema_lem f ok t (row_table a.is)).depth in
      record { rows = refl; payload = refl; fits = c.1; depth = omega arith }

  -- it leaves off where so many bytes are passed
  row_ends : {t : ℕ} {v : Value} {q : Pos} → Accepts f inp lim at t v q → Accepts f inp lim at t v (after lim v (q.at - at) (start lim at))
  unfolding after start
  row_ends {t} {v} {q} a =
      let y : q.at ≡ at + length a.bytes = ap (λ (x : Pos). x.at) a.ends in
      let z : q.at - at ≡ length a.bytes = omega arith in
      record { bytes = a.bytes; is = a.is; stands = a.stands; within = a.within; afford = a.afford; ends = rw z }

  module _ (rs ps : List ℕ) where
    row_held : {t : ℕ} {v : Value} {q : Pos} → format_rules f ≡ Ok tt → Accepts f inp lim at t v q → records_of v ≤ record_room rs → payload_of v ≤ room ps →
        Held f inp lim at rs ps (extent at t q) (record { answer = Ok (Some (extent at t q)); records = over rs 0 (flat v 0 0); payload = over ps 0 (payload_bytes v) })
    unfolding extent room
    row_held {t} {v} {q} ok a m n =
        let c = counted f inp lim at rs ps a in
        let w = decoded_table ok a in
        let x = written_first (flat v 0 0) rs (value_record_start q.records) (rw (length-flat v 0 0, c.0)) (rw (length-flat v 0 0) (omega arith)) in
        let y = written_first (payload_bytes v) ps q.payload (rw (length_pays v, c.1)) (rw (length_pays v) (omega arith)) in
        record {
          left = record {
            value = v;
            stands = row_ends a;
            table = record { rows = x.0; payload = y.0; fits = w.fits; depth = w.depth };
            conforms = (accepts_conforms f inp lim at a).0;
            records_rest = x.1;
            payload_rest = y.1;
          };
          records = sym c.0;
          payload = sym c.1;
        }

module _ (f : Format) (s : Settings) (inp : List ℕ) (at : ℕ) (rs ps : List ℕ) (bs : Bytes inp) where
  pub decoded_held : (e : Extent) → read_said (decode_rule f s inp at rs ps).answer ≡ row_said e → Held f inp (limits s) at rs ps e (decode_rule f s inp at rs ps)
  unfolding NoRow
  decoded_held e h = by (decode_leaves f s inp at rs ps bs) (read_row _ e h)
    where
      by : {d : Decoded} → Leaves f inp (limits s) at rs ps d → d.answer ≡ Ok (Some e) → Held f inp (limits s) at rs ps e d
      by (row_written {t} {v} {q} ok a m n) h = let z : extent at t q ≡ e = cc in rw (← z) (row_held f inp (limits s) at rs ps ok a m n)
      by (unchanged {a} n) h = absurd (rw h at n)

  -- where decode answers a row, the slices hold the table of its value
  pub decoded_row_lem : (e : Extent) → read_said (decode_rule f s inp at rs ps).answer ≡ row_said e → LeavesRow f inp (limits s) at rs ps e (decode_rule f s inp at rs ps)
  decoded_row_lem e h = (decoded_held e h).left

-- ---- where decode answers no row, both slices are as before
module _ (f : Format) (s : Settings) (inp : List ℕ) (at : ℕ) (rs ps : List ℕ) where
  abbrev Still : Decoded → Type 0
  Still d = NoRow d.answer → d ≡ untouched d.answer rs ps

  as_before : (a : Result (Option Extent) Refusal) → Still (untouched a rs ps)
  as_before a h = refl

  with_still : (v : Value) (a : Result (Option Extent) Refusal) → Still (fill_with v rs ps a)
  unfolding fill_with NoRow
  with_still v (Ok (Some e)) = λ h. absurd h
  with_still v (Ok None) = as_before _
  with_still v (Err r) = as_before _

  filled_still : (a : Answer (ℕ × Value)) → Still (filled at a rs ps)
  unfolding filled
  filled_still (Got (t, v) q) = with_still v _
  filled_still (Answer.Refused r) = as_before _

  pub decoded_none : NoRow (decode_rule f s inp at rs ps).answer → decode_rule f s inp at rs ps ≡ untouched (decode_rule f s inp at rs ps).answer rs ps
  unfolding decode_rule
  decoded_none = by (door f s inp at)
    where
      by : (d : Result Door Refusal) → Still (through d (λ r. untouched (Err r) rs ps) (untouched (Ok None) rs ps) (filled at (row_at f inp (limits s) at) rs ps))
      by (Ok Door.Open) = unfold through in filled_still (row_at f inp (limits s) at)
      by (Ok Door.End) = unfold through in as_before _
      by (Err r) = unfold through in as_before _
