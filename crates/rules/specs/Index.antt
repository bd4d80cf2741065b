-- The index of a stream: a record for each row that the run accepts, in order, and nothing else; and what is answered by the calls that build
-- one, check one, extend one after rows were appended, and decode a row by its number.
-- Assumes nothing: these are definitions.
use Rattle.rules.specs.declared.answer.Extent.{Extent}
use Rattle.std.specs.Prelude.{ℕ, zero, suc, ◌+◌, ◌*◌, ◌/◌, ◌≤◌, ◌≡◌, Bool, true, List, [], ◌∷◌, ◌++◌, length, take, drop, leb, ltb, eqb, Result, Option, Ok, Err, Some, None, ⊤}
use Rattle.rules.specs.Choice.{pick, ◌and◌}
use Rattle.rules.specs.Bytes.{le, le_at, part, over, order, is_equal}
use Rattle.rules.specs.Format.{Format, short_ok}
use Rattle.rules.specs.Walk.{Limits}
use Rattle.rules.specs.Refusals.{Setting, NoIndexRoom, IndexMismatch, NoSuchRow}
use Rattle.rules.specs.Reading.{limits, door, through, row_at, skipped, Run, row_count, ran_of, refused_run, run_rule, Decoded, room, untouched, filled}
use Rattle.rules.specs.declared.settings.Settings.{Settings}
use Rattle.rules.specs.declared.refusal.Refusal.{Refusal}
use Rattle.rules.specs.declared.answer.RowSpan.{RowSpan}
use Rattle.rules.specs.declared.answer.Ran.{Ran}

-- ---- a record: its size, its bytes, and how one is found and read. Nothing else knows the size or where a field lies

-- a record's bytes
abbrev pub index_record_size : ℕ
index_record_size = 16

-- where record i starts, and so how many bytes i records have
abbrev pub index_record_start : ℕ → ℕ
index_record_start i = i * index_record_size

-- how many whole records so many bytes hold
abbrev pub index_records_in : ℕ → ℕ
index_records_in bytes = bytes / index_record_size

-- record i lies in so many bytes
abbrev pub IndexRecordIn : ℕ → ℕ → Type 0
IndexRecordIn i bytes = index_record_start i + index_record_size ≤ bytes

-- 0..7 the row's offset in the stream; 8..11 its length; 12..15 its table
unfoldable pub index_record : RowSpan → List ℕ
index_record row = le 8 row.offset ++ (le 4 row.size ++ le 4 row.table)

-- record i of an index, as it is read
unfoldable pub indexed_at : List ℕ → ℕ → RowSpan
indexed_at index i = record {
  offset = le_at index (index_record_start i) 8;
  size = le_at index (index_record_start i + 8) 4;
  table = le_at index (index_record_start i + 12) 4;
}

-- ---- the index of rows: their records, one after another, without a header
unfoldable pub index_of : List RowSpan → List ℕ
index_of [] = []
index_of (row ∷ rows) = index_record row ++ index_of rows

-- the rows of n records, from record i on
unfoldable pub indexed_rows : List ℕ → ℕ → ℕ → List RowSpan
indexed_rows index i zero = []
indexed_rows index i (suc n) = indexed_at index i ∷ indexed_rows index (i + 1) n

-- these bytes are the index of these rows
unfoldable pub is_index_of : List RowSpan → List ℕ → Bool
is_index_of rows bytes = is_equal (order bytes (index_of rows))

-- The index of a stream: its run is not refused, and these are the records of the rows that it accepts.
pub record IndexOf (f : Format) (s : Settings) (inp index : List ℕ) : Type 0 where
  pub ended : (run_rule f s inp).stop ≡ Ok tt
  pub is : index ≡ index_of (run_rule f s inp).rows

-- ---- after the run: its own refusal goes before all that an index may be refused for, and then nothing is written

-- where the run ends, and where it is refused
unfoldable pub where_ended : {A : Type 0} → Result ⊤ Refusal → A → A → A
where_ended (Ok tt) ended refused = ended
where_ended (Err r) ended refused = refused

-- the run's counts, and a refusal that comes after it
unfoldable pub refused_after : Run → Refusal → Ran
refused_after run r = record { rows = (ran_of run).rows; bytes = (ran_of run).bytes; stop = Err r }

-- an answer, and the index slice afterwards
pub record Indexed : Type 0 where
  pub answer : Ran
  pub index : List ℕ

-- room for all rows' records (30); those from record `old` on are written, all other bytes stay
unfoldable pub extended : Run → ℕ → List ℕ → Indexed
extended run old index =
    pick (leb (row_count run.rows) (index_records_in (room index)))
    (record { answer = ran_of run; index = over index (index_record_start old) (index_of (drop old run.rows)) })
    (record { answer = refused_after run NoIndexRoom; index = index })

-- ---- build: settings and slices (1); the format; the run's refusal; room (30)
unfoldable pub build_rule : Format → Settings → List ℕ → List ℕ → Indexed
build_rule f s inp index =
    let run = run_rule f s inp in
    where_ended run.stop (extended run 0 index) (record { answer = ran_of run; index = index })

-- ---- check: settings and slices (1); the format; the run's refusal; 31 for all bytes but those that build writes
unfoldable pub check_index_rule : Format → Settings → List ℕ → List ℕ → Ran
check_index_rule f s inp index =
    let run = run_rule f s inp in
    pick (short_ok index)
    (where_ended run.stop (pick (is_index_of run.rows index) (ran_of run) (refused_after run IndexMismatch)) (ran_of run))
    (ran_of (refused_run Setting))

-- ---- extend: settings, slices, and an old count beyond the index slice (1); the format; the run's refusal; old records that are not those of
-- the stream's first rows, or more than there are rows (31); room (30)
unfoldable pub extend_rule : Format → Settings → List ℕ → ℕ → List ℕ → Indexed
extend_rule f s inp old index =
    let run = run_rule f s inp in
    pick (leb old (index_records_in (room index)))
    (where_ended run.stop
    (pick (is_index_of (take old run.rows) (part index 0 (index_record_start old))) (extended run old index) (record { answer = refused_after run IndexMismatch; index = index }))
    (record { answer = ran_of run; index = index }))
    (record { answer = ran_of (refused_run Setting); index = index })

-- ---- row n, by record n alone

-- a row that was judged is that of a record: of its table and its length. What is no row is not another one
unfoldable pub is_that_row : RowSpan → Result (Option Extent) Refusal → Bool
is_that_row row (Ok (Some e)) = eqb e.table row.table and eqb e.bytes row.size
is_that_row row (Ok None) = true
is_that_row row (Err r) = true

module _ (f : Format) (inp : List ℕ) (lim : Limits) (rs ps : List ℕ) where
  -- the row at a record's offset: decode's answer there, its own refusal or the room's among them; but 31 before room where the row is another
  unfoldable pub row_of_record : RowSpan → Decoded
  row_of_record row =
      let found = row_at f inp lim row.offset in
      pick (is_that_row row (skipped row.offset found)) (filled row.offset found rs ps) (untouched (Err IndexMismatch) rs ps)

  -- record n is not there (32); its offset is not below the stream's length (31); else its row
  unfoldable pub row_of_index : List ℕ → ℕ → Decoded
  row_of_index index n =
      pick (ltb n (index_records_in (length index)))
      (pick (ltb (indexed_at index n).offset (length inp))
      (row_of_record (indexed_at index n))
      (untouched (Err IndexMismatch) rs ps))
      (untouched (Err NoSuchRow) rs ps)

-- settings and slices (1); the format; then row n. At the end of the stream, too, there is a record or none.
unfoldable pub indexed_row_rule : Format → Settings → List ℕ → List ℕ → ℕ → List ℕ → List ℕ → Decoded
indexed_row_rule f s inp index n rs ps =
    let found = row_of_index f inp (limits s) rs ps index n in
    pick (short_ok index)
    (through (door f s inp 0) (λ r. untouched (Err r) rs ps) found found)
    (untouched (Err Setting) rs ps)

-- What an accepted build leaves of a slice: the records of the stream's rows from its start, and all other bytes as they were. Read back they
-- are the very rows that the run accepts, in order.
pub record HoldsRows (f : Format) (s : Settings) (inp slice : List ℕ) (x : Indexed) : Type 0 where
  pub answer : x.answer ≡ ran_of (run_rule f s inp)
  pub records : take (index_record_start (row_count (run_rule f s inp).rows)) x.index ≡ index_of (run_rule f s inp).rows
  pub rest : drop (index_record_start (row_count (run_rule f s inp).rows)) x.index ≡ drop (index_record_start (row_count (run_rule f s inp).rows)) slice
  pub rows : indexed_rows x.index 0 (row_count (run_rule f s inp).rows) ≡ (run_rule f s inp).rows
