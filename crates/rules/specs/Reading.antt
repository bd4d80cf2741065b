-- What reading answers: a row at a position, a run over a whole stream, and what decode leaves in its two slices.
-- Assumes nothing: these are definitions.
use Rattle.std.specs.Prelude.{ℕ, zero, suc, ◌+◌, ◌-◌, ◌≤◌, min, ◌≡◌, Bool, List, [], ◌∷◌, length, take, drop, leb, eqb, Result, Option, Ok, Err, Some, None, ⊤}
use Rattle.rules.specs.Choice.{pick, ◌and◌}
use Rattle.rules.specs.Bytes.{Stands, over, longest_slice}
use Rattle.rules.specs.Schema.{Schema, no_schema}
use Rattle.rules.specs.Block.{block, tree_at}
use Rattle.rules.specs.Format.{Format, short_ok, sizes_ok, tables, table_schema, format_rules}
use Rattle.rules.specs.Value.{Value, Within, costs}
use Rattle.rules.specs.ValueRecord.{value_record_start, value_records_in}
use Rattle.rules.specs.ValueTable.{flat, payload_bytes, TableOf}
use Rattle.rules.specs.Grammar.{TableRow, Conforms}
use Rattle.rules.specs.Walk.{Limits, blob_limit, Pos, Answer, Got, Refused, ◌>>=◌, number_of, walk, after}
use Rattle.rules.specs.declared.settings.Settings.{Settings}
use Rattle.rules.specs.declared.table_record.Located.{Located}
use Rattle.rules.specs.declared.table_record.Located.TheVariants.{Block, NoTable, NoEntry}
use Rattle.rules.specs.declared.refusal.Refusal.{Refusal}
use Rattle.rules.specs.Refusals.{Setting, UnknownRegistryReference, MissingTableSchema, NoNodeRoom, NoPayloadRoom}
use Rattle.rules.specs.declared.answer.Door.{Door}
use Rattle.rules.specs.declared.answer.Extent.{Extent}
use Rattle.rules.specs.declared.answer.RowSpan.{RowSpan}
use Rattle.rules.specs.declared.answer.Ran.{Ran}

-- what each limit of the settings may be at most
abbrev pub largest_limit : ℕ
largest_limit = 4294967295

-- node charge 1..4,096; both blob limits and the row limit at most 4,294,967,295
unfoldable pub settings_ok : Settings → Bool
settings_ok s =
    leb 1 s.node_charge and leb s.node_charge 4096
    and leb s.max_string32_bytes largest_limit and leb s.max_yson32_bytes largest_limit and leb s.max_row_bytes largest_limit

unfoldable pub limits : Settings → Limits
limits s = record { charge = s.node_charge; string32 = s.max_string32_bytes; yson32 = s.max_yson32_bytes; row = s.max_row_bytes }

-- the settings of a document that names none
unfoldable pub defaults : Settings
defaults = record { node_charge = 48; max_string32_bytes = 134217728; max_yson32_bytes = 134217728; max_row_bytes = 268435456 }

-- ---- the door: what is judged before a row is read

-- what is answered once a format is checked
unfoldable pub when_accepted : {A : Type 0} → (Refusal → A) → Result ⊤ Refusal → A → A
when_accepted refuse (Ok tt) a = a
when_accepted refuse (Err r) a = refuse r

-- settings and slices are inside the bounds
abbrev pub bounds_ok : Settings → Format → List ℕ → Bool
bounds_ok s f inp = settings_ok s and sizes_ok f and short_ok inp

-- settings, slices and the position (1); the format; the end of the stream; else the row may be read
unfoldable pub door : Format → Settings → List ℕ → ℕ → Result Door Refusal
door f s inp at =
    pick (bounds_ok s f inp and leb at (length inp))
    (when_accepted Err (format_rules f) (pick (eqb at (length inp)) (Ok Door.End) (Ok Door.Open)))
    (Err Setting)

-- what a call answers that goes through the door: that it is refused, that the stream ends, or what it finds
unfoldable pub through : {A : Type 0} → Result Door Refusal → (Refusal → A) → A → A → A
through (Ok Door.Open) refuse end found = found
through (Ok Door.End) refuse end found = end
through (Err r) refuse end found = refuse r

-- ---- a row

-- where a row starts: nothing passed, and the whole allowance left
unfoldable pub start : Limits → ℕ → Pos
start lim at = record { at = at; left = lim.row; records = 0; payload = 0 }

module _ (f : Format) where
  -- the value of table t's root, from the table's block, or 11 at the row's offset. (A checked format has no unknown reference.)
  unfoldable pub root_from : List ℕ → Limits → ℕ → ℕ → Located → Pos → Answer (ℕ × Value)
  root_from inp lim at t (Block first n) q = do
    (v, r) ← walk (block f.table first n) inp lim 64 0 q
    Got (t, v) r
  root_from inp lim at t NoTable q = Refused (MissingTableSchema t at)
  root_from inp lim at t NoEntry q = Refused (UnknownRegistryReference t)

  -- a row: a u16 table tag, context 17, and the root's value
  unfoldable pub row_at : List ℕ → Limits → ℕ → Answer (ℕ × Value)
  row_at inp lim at = do
    (t, q) ← number_of inp 2 17 (start lim at)
    root_from inp lim at t (table_schema f t) q

  -- the schema of table t
  unfoldable pub schema_in : Located → Schema
  schema_in (Block first n) = tree_at (block f.table first n) f.names 64 0
  schema_in NoTable = no_schema
  schema_in NoEntry = no_schema

  unfoldable pub schema_of : ℕ → Schema
  schema_of t = schema_in (table_schema f t)

  -- at a position stands a row of v of table t, within the limits, and q is where it leaves off
  pub record Accepts (inp : List ℕ) (lim : Limits) (at t : ℕ) (v : Value) (q : Pos) : Type 0 where
    pub bytes : List ℕ
    pub is : TableRow (tables f) schema_of t v bytes
    pub stands : Stands inp at bytes
    pub within : Within (blob_limit lim) v
    pub afford : costs lim.charge v ≤ lim.row
    pub ends : q ≡ after lim v (length bytes) (start lim at)

-- ---- skip
unfoldable pub extent : ℕ → ℕ → Pos → Extent
extent at t q = record { table = t; bytes = q.at - at; records = q.records; payload = q.payload }

unfoldable pub skipped : ℕ → Answer (ℕ × Value) → Result (Option Extent) Refusal
skipped at (Got (t, v) q) = Ok (Some (extent at t q))
skipped at (Refused r) = Err r

-- from a position that lies in the slice, of a format that is accepted: at the slice's end the reader says end of stream
unfoldable pub skip_from : Format → List ℕ → Limits → ℕ → Result (Option Extent) Refusal
skip_from f inp lim at = pick (eqb at (length inp)) (Ok None) (skipped at (row_at f inp lim at))

-- through the door, the row
unfoldable pub skip_rule : Format → Settings → List ℕ → ℕ → Result (Option Extent) Refusal
skip_rule f s inp at = through (door f s inp at) Err (Ok None) (skipped at (row_at f inp (limits s) at))

-- ---- the run: the rows that are accepted one after another from a position on, and why it stops
pub record Run : Type 0 where
  pub rows : List RowSpan
  pub stop : Result ⊤ Refusal

abbrev pub one_more : RowSpan → Run → Run
one_more row rest = record { rows = row ∷ rest.rows; stop = rest.stop }

unfoldable pub go_on : (ℕ → Run) → ℕ → Result (Option Extent) Refusal → Run
go_on rest at (Ok (Some e)) = one_more (record { offset = at; size = e.bytes; table = e.table }) (rest (at + e.bytes))
go_on rest at (Ok None) = record { rows = []; stop = Ok tt }
go_on rest at (Err r) = record { rows = []; stop = Err r }

-- each row has at least its tag's two bytes, so as many rows as there are bytes left, and one more, are enough
unfoldable pub run_from : Format → List ℕ → Limits → ℕ → ℕ → Run
run_from f inp lim zero at = record { rows = []; stop = Ok tt }
run_from f inp lim (suc enough) at = go_on (run_from f inp lim enough) at (skip_from f inp lim at)

-- From a position on, skip accepts just these rows one after another, and then stops so.
pub data Iterated (f : Format) (s : Settings) (inp : List ℕ) : ℕ → List RowSpan → Result ⊤ Refusal → Type 0 where
  at_end : {at : ℕ} →
      skip_rule f s inp at ≡ Ok None →
      Iterated f s inp at [] (Ok tt)
  at_refusal : {at : ℕ} {r : Refusal} →
      skip_rule f s inp at ≡ Err r →
      Iterated f s inp at [] (Err r)
  one_row : {at : ℕ} {e : Extent} {rows : List RowSpan} {stop : Result ⊤ Refusal} →
      skip_rule f s inp at ≡ Ok (Some e) → Iterated f s inp (at + e.bytes) rows stop →
      Iterated f s inp at (record { offset = at; size = e.bytes; table = e.table } ∷ rows) stop

unfoldable pub row_count : List RowSpan → ℕ
row_count rows = length rows

unfoldable pub byte_count : List RowSpan → ℕ
byte_count [] = 0
byte_count (r ∷ rs) = r.size + byte_count rs

unfoldable pub ran_of : Run → Ran
ran_of r = record { rows = row_count r.rows; bytes = byte_count r.rows; stop = r.stop }

-- no row
unfoldable pub refused_run : Refusal → Run
refused_run r = record { rows = []; stop = Err r }

unfoldable pub ended_run : Run
ended_run = record { rows = []; stop = Ok tt }

-- through the door at the stream's start, all rows
unfoldable pub run_rule : Format → Settings → List ℕ → Run
run_rule f s inp = through (door f s inp 0) refused_run ended_run (run_from f inp (limits s) (suc (length inp)) 0)

-- ---- decode: the answer and the two slices afterwards
pub record Decoded : Type 0 where
  pub answer : Result (Option Extent) Refusal
  pub records : List ℕ
  pub payload : List ℕ

-- of a slice to be written only the first 4,294,967,295 bytes count
unfoldable pub room : List ℕ → ℕ
room s = min (length s) longest_slice

-- and of these as many records as are whole
abbrev pub record_room : List ℕ → ℕ
record_room s = value_records_in (room s)

-- room for a row's records (19), then for its payload bytes (20), each with the whole row's need, where n and m bytes count
unfoldable pub room_for : ℕ → ℕ → ℕ → Extent → Result (Option Extent) Refusal
room_for at n m e =
    pick (leb e.records (value_records_in n))
    (pick (leb e.payload m) (Ok (Some e)) (Err (NoPayloadRoom e.payload at)))
    (Err (NoNodeRoom e.records at))

-- the same for two slices; every other answer stays
unfoldable pub room_test : ℕ → List ℕ → List ℕ → Result (Option Extent) Refusal → Result (Option Extent) Refusal
room_test at rs ps (Ok (Some e)) = room_for at (room rs) (room ps) e
room_test at rs ps (Ok None) = Ok None
room_test at rs ps (Err r) = Err r

abbrev pub untouched : Result (Option Extent) Refusal → List ℕ → List ℕ → Decoded
untouched answer rs ps = record { answer = answer; records = rs; payload = ps }

-- a row that has room fills both slices from their starts with its value's table; no other answer does
unfoldable pub fill_with : Value → List ℕ → List ℕ → Result (Option Extent) Refusal → Decoded
fill_with v rs ps (Ok (Some e)) = record { answer = Ok (Some e); records = over rs 0 (flat v 0 0); payload = over ps 0 (payload_bytes v) }
fill_with v rs ps (Ok None) = untouched (Ok None) rs ps
fill_with v rs ps (Err r) = untouched (Err r) rs ps

unfoldable pub filled : ℕ → Answer (ℕ × Value) → List ℕ → List ℕ → Decoded
filled at (Got (t, v) q) rs ps = fill_with v rs ps (room_test at rs ps (Ok (Some (extent at t q))))
filled at (Refused r) rs ps = untouched (Err r) rs ps

-- through the door, the row and its value's table
unfoldable pub decode_rule : Format → Settings → List ℕ → ℕ → List ℕ → List ℕ → Decoded
decode_rule f s inp at rs ps =
    through (door f s inp at) (λ r. untouched (Err r) rs ps) (untouched (Ok None) rs ps) (filled at (row_at f inp (limits s) at) rs ps)

-- the answer is no row
unfoldable pub NoRow : Result (Option Extent) Refusal → Type 0
NoRow (Ok (Some e)) = ⊥
NoRow (Ok None) = Unit
NoRow (Err r) = Unit

-- What decode leaves of a row e: the first records and payload bytes of the two slices are the table of the value whose row stands there,
-- which conforms to the schema of that table; the rest of both slices is as before.
pub record LeavesRow (f : Format) (inp : List ℕ) (lim : Limits) (at : ℕ) (rs ps : List ℕ) (e : Extent) (d : Decoded) : Type 0 where
  pub value : Value
  pub stands : Accepts f inp lim at e.table value (after lim value e.bytes (start lim at))
  pub table : TableOf value (take (value_record_start e.records) d.records) (take e.payload d.payload)
  pub conforms : Conforms (schema_of f e.table) value
  pub records_rest : drop (value_record_start e.records) d.records ≡ drop (value_record_start e.records) rs
  pub payload_rest : drop e.payload d.payload ≡ drop e.payload ps
