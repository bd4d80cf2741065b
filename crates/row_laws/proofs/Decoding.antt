-- Decode's answer is skip's, tested for room; it leaves its slices alone unless it accepts, and leaves the table of a conforming value.
-- Assumes nothing.
use Rattle.rules.specs.declared.answer.Extent.{Extent}
use Rattle.rules.specs.declared.refusal.Refusal.{Refusal}
use Rattle.std.proofs.Common.{Result, Option, Ok, Err, Some, None}
use Prim.Native.Nat.{ℕ, ◌+◌, ◌≤◌}
use mathlib.Core.Path.{◌≡◌, refl, ap, ◌∙◌}
use mathlib.Core.Bool.{Bool, true, false}
use mathlib.Core.List.{List}
use native.Mathlib.Omega.{arith}
use borrow.Author.Tests.{leb-true, le-leb, ne_eqb}
use lib.Dec.{leb}
use lib.ListN.{length, length-append}
use Rattle.rules.specs.Choice.{pick}
use Rattle.rules.specs.Bytes.{le, Bytes, over}
use Rattle.rules.specs.Schema.{Schema}
use Rattle.rules.specs.Format.{Format, tables, format_rules}
use Rattle.rules.specs.Value.{Value, Fits, records_of, payload_of}
use Rattle.rules.specs.ValueTable.{flat, payload_bytes}
use Rattle.rules.specs.Grammar.{TableRow, table_row, Conforms}
use Rattle.rules.specs.Walk.{Limits, Pos, Answer, Got, after}
use Rattle.rules.specs.Reading.{limits, start, row_at, schema_of, Accepts, through, door, extent, skipped, skip_rule, Decoded, room, record_room, room_for, room_test, untouched, fill_with, filled, decode_rule, NoRow}
use Rattle.rules.specs.declared.settings.Settings.{Settings}
use Rattle.rules.specs.Refusals.{NoNodeRoom, NoPayloadRoom}
use Rattle.rules.specs.declared.answer.Door.{Door}
use Rattle.rules.proofs.Stands.{length-le, stands_in}
use Rattle.row_laws.proofs.Conform.{row_conforms, row_fits}
use Rattle.row_laws.proofs.TableRows.{row_agrees, row_accepts}
use Rattle.row_laws.proofs.Door.{MayAsk, door_asked, behind_open}

-- ---- skip and decode

module _ (at : ℕ) (rs ps : List ℕ) where
  answered : (v : Value) (a : Result (Option Extent) Refusal) → (fill_with v rs ps a).answer ≡ a
  unfolding fill_with
  answered v (Ok (Some e)) = refl
  answered v (Ok None) = refl
  answered v (Err r) = refl

  filled_tested : (a : Answer (ℕ × Value)) → (filled at a rs ps).answer ≡ room_test at rs ps (skipped at a)
  unfolding filled skipped
  filled_tested (Got (t, v) q) = answered v _
  filled_tested (Answer.Refused r) = unfold room_test in refl

  -- decode's answer is the test of room, applied to skip's
  pub decode_tested : (f : Format) (s : Settings) (inp : List ℕ) → (decode_rule f s inp at rs ps).answer ≡ room_test at rs ps (skip_rule f s inp at)
  unfolding skip_rule decode_rule
  decode_tested f s inp = by (door f s inp at)
    where
      by : (d : Result Door Refusal) → (through d (λ r. untouched (Err r) rs ps) (untouched (Ok None) rs ps) (filled at (row_at f inp (limits s) at) rs ps)).answer ≡ room_test at rs ps (through d Err (Ok None) (skipped at (row_at f inp (limits s) at)))
      by (Ok Door.Open) = unfold through in filled_tested (row_at f inp (limits s) at)
      by (Ok Door.End) = unfold through room_test in refl
      by (Err r) = unfold through room_test in refl

-- ---- what decode leaves in its two slices

-- a row of v of table t, that starts at a position and leaves off at q, written into two slices
abbrev pub decoded_row : ℕ → List ℕ → List ℕ → ℕ → Value → Pos → Decoded
decoded_row at rs ps t v q = record { answer = Ok (Some (extent at t q)); records = over rs 0 (flat v 0 0); payload = over ps 0 (payload_bytes v) }

-- the table of the row that stands there, from the start of each slice; or nothing
pub data Leaves (f : Format) (inp : List ℕ) (lim : Limits) (at : ℕ) (rs ps : List ℕ) : Decoded → Type 0 where
  row_written : {t : ℕ} {v : Value} {q : Pos} →
      format_rules f ≡ Ok tt → Accepts f inp lim at t v q → records_of v ≤ record_room rs → payload_of v ≤ room ps →
      Leaves f inp lim at rs ps (decoded_row at rs ps t v q)
  unchanged : {a : Result (Option Extent) Refusal} →
      NoRow a →
      Leaves f inp lim at rs ps (untouched a rs ps)

module _ (f : Format) (inp : List ℕ) (lim : Limits) (at : ℕ) (rs ps : List ℕ) where
  -- what an accepted row counts
  pub counted : {t : ℕ} {v : Value} {q : Pos} → Accepts f inp lim at t v q → (q.records ≡ records_of v) × (q.payload ≡ payload_of v)
  unfolding after start
  counted {v = v} {q = q} a = (ap (λ (p : Pos). p.records) a.ends ∙ none (records_of v), ap (λ (p : Pos). p.payload) a.ends ∙ none (payload_of v))
    where
      none : (n : ℕ) → 0 + n ≡ n
      none n = omega arith

  filled_leaves : format_rules f ≡ Ok tt → Bytes inp → at ≤ length inp → (a : Answer (ℕ × Value)) → row_at f inp lim at ≡ a → Leaves f inp lim at rs ps (filled at a rs ps)
  unfolding filled
  filled_leaves ok bs h (Got (t, v) q) e = unfold room_test room_for extent in nodes (leb q.records (record_room rs)) refl
    where
      is : Accepts f inp lim at t v q
      is = (row_agrees f inp lim at bs h t v q).0 e

      payload : q.records ≤ record_room rs → (b : Bool) → leb q.payload (room ps) ≡ b → Leaves f inp lim at rs ps (fill_with v rs ps (pick b (Ok (Some (extent at t q))) (Err (NoPayloadRoom q.payload at))))
      payload l true e = unfold pick fill_with in row_written ok is (rw (counted is).0 at l) (rw (counted is).1 at (leb-true q.payload (room ps) e))
      payload l false e = unfold pick fill_with NoRow in unchanged tt

      nodes : (b : Bool) → leb q.records (record_room rs) ≡ b →
          Leaves f inp lim at rs ps (fill_with v rs ps (pick b (pick (leb q.payload (room ps)) (Ok (Some (extent at t q))) (Err (NoPayloadRoom q.payload at))) (Err (NoNodeRoom q.records at))))
      nodes true e = unfold pick in payload (leb-true _ _ e) (leb q.payload (room ps)) refl
      nodes false e = unfold pick fill_with NoRow in unchanged tt
  filled_leaves ok bs h (Answer.Refused r) e = unfold NoRow in unchanged tt

-- decode leaves the table of the row that stands there, or both slices as they were
pub decode_leaves : (f : Format) (s : Settings) (inp : List ℕ) (at : ℕ) (rs ps : List ℕ) → Bytes inp → Leaves f inp (limits s) at rs ps (decode_rule f s inp at rs ps)
unfolding decode_rule
decode_leaves f s inp at rs ps bs = by (door f s inp at) refl
  where
    by : (d : Result Door Refusal) → door f s inp at ≡ d → Leaves f inp (limits s) at rs ps (through d (λ r. untouched (Err r) rs ps) (untouched (Ok None) rs ps) (filled at (row_at f inp (limits s) at) rs ps))
    by (Ok Door.Open) e =
        let o = behind_open f s inp at e in
        unfold through in filled_leaves f inp (limits s) at rs ps o.0.format bs (omega (arith, o.1)) (row_at f inp (limits s) at) refl
    by (Ok Door.End) e = unfold through NoRow in unchanged tt
    by (Err r) e = unfold through NoRow in unchanged tt

-- a row that stands somewhere is one of a conforming value that value records can hold
pub accepts_conforms : (f : Format) (inp : List ℕ) (lim : Limits) (at : ℕ) {t : ℕ} {v : Value} {q : Pos} → Accepts f inp lim at t v q → Conforms (schema_of f t) v × Fits v
accepts_conforms f inp lim at a = by a.is
  where
    by : {t : ℕ} {v : Value} {b : List ℕ} → TableRow (tables f) (schema_of f) t v b → Conforms (schema_of f t) v × Fits v
    by (table_row h l r e) = (row_conforms r, row_fits r)

-- ---- a row that stands there is decoded
row_long : {n t : ℕ} {schema : ℕ → Schema} {v : Value} {b : List ℕ} → TableRow n schema t v b → 2 ≤ length b
row_long (table_row {t = t} {x = x} h l r e) = rw (e, length-append (le 2 t) x, length-le 2 t) (omega arith)

-- the row's bytes lie in the input
pub accepts_inside : (f : Format) (inp : List ℕ) (lim : Limits) (at : ℕ) {t : ℕ} {v : Value} {q : Pos} → (a : Accepts f inp lim at t v q) → (2 ≤ length a.bytes) × (at + length a.bytes ≤ length inp)
accepts_inside f inp lim at a = (row_long a.is, stands_in inp at a.bytes a.stands)

module _ (f : Format) (s : Settings) (inp : List ℕ) (ok : MayAsk f s inp) (at : ℕ) {t : ℕ} {v : Value} {q : Pos} (a : Accepts f inp (limits s) at t v q) where
  open_there : door f s inp at ≡ Ok Door.Open
  unfolding pick
  open_there = let i = accepts_inside f inp (limits s) at a in door_asked f s inp ok at (omega (arith, i.1)) ∙ rw (ne_eqb at (length inp) (λ z. omega (arith, i.0, i.1)))

  -- skip accepts it
  pub skip_accepts : skip_rule f s inp at ≡ Ok (Some (extent at t q))
  unfolding skip_rule through skipped
  skip_accepts = rw (open_there, row_accepts f inp (limits s) at a)

  -- and decode, where there is room, leaves its table
  pub decode_accepts : (rs ps : List ℕ) → records_of v ≤ record_room rs → payload_of v ≤ room ps → decode_rule f s inp at rs ps ≡ decoded_row at rs ps t v q
  unfolding decode_rule through filled room_test room_for extent fill_with pick
  decode_accepts rs ps m n =
      let c = counted f inp (limits s) at rs ps a in
      rw (open_there, row_accepts f inp (limits s) at a, le-leb q.records (record_room rs) (rw c.0 m), le-leb q.payload (room ps) (rw c.1 n))
