-- A stream that is read in windows: what is answered for a part of it, told from the stream's start.
-- Assumes nothing: these are definitions.
use Rattle.std.specs.Prelude.{ℕ, ◌+◌, ◌≤◌, ◌≡◌, Bool, true, List, ◌++◌, map, length, leb, eqb, Result, Ok, Err, ⊤}
use Rattle.rules.specs.Bytes.{longest_slice}
use Rattle.rules.specs.Choice.{pick, ◌and◌}
use Rattle.rules.specs.Refusals.{Setting, line_of, refusal_number}
use Rattle.rules.specs.Walk.{Answer, Got, onward}
use Rattle.rules.specs.Format.{Format}
use Rattle.rules.specs.Reading.{Run, byte_count, ran_of, refused_run, run_rule}
use Rattle.rules.specs.declared.refusal.Refusal.{Refusal}
use Rattle.rules.specs.declared.answer.Ran.{Ran}
use Rattle.rules.specs.declared.answer.RowSpan.{RowSpan}
use Rattle.rules.specs.declared.settings.Settings.{Settings}

-- A refusal of a slice, told of a stream in which the slice starts at n: in reading, places count from the slice's start, and the table of
-- refusals says which do.
unfoldable pub moved : ℕ → Refusal → Refusal
moved n r = record { why = r.why; place = pick (line_of r.why).moves (r.place + n) r.place }

-- a place that moves with the stream lies in a stream of n bytes
abbrev pub PlaceInside : ℕ → Refusal → Type 0
PlaceInside n r = (line_of r.why).moves ≡ true → r.place ≤ n

unfoldable pub moved_answer : {A : Type 0} → ℕ → Answer A → Answer A
moved_answer n (Got a q) = Got a (onward n q)
moved_answer n (Answer.Refused r) = Answer.Refused (moved n r)

-- the reading was cut: 12
unfoldable pub WasCut : {A : Type 0} → Answer A → Type 0
WasCut (Got a q) = ⊥
WasCut (Answer.Refused r) = refusal_number r ≡ 12

unfoldable pub moved_stop : ℕ → Result ⊤ Refusal → Result ⊤ Refusal
moved_stop n (Ok tt) = Ok tt
moved_stop n (Err r) = Err (moved n r)

abbrev pub moved_row : ℕ → RowSpan → RowSpan
moved_row n row = record { offset = row.offset + n; size = row.size; table = row.table }

-- whether bytes to come may change how a run stops: at the end, or where a row is cut (12)
unfoldable pub goes_on : Result ⊤ Refusal → Bool
goes_on (Ok tt) = true
goes_on (Err r) = eqb (refusal_number r) 12

-- a run, and then the run over what is left after its rows
unfoldable pub continued : Run → Run → Run
continued r rest = record { rows = r.rows ++ map (moved_row (byte_count r.rows)) rest.rows; stop = moved_stop (byte_count r.rows) rest.stop }

-- the same in counts
unfoldable pub added : Ran → Ran → Ran
added r rest = record { rows = r.rows + rest.rows; bytes = r.bytes + rest.bytes; stop = moved_stop r.bytes rest.stop }

-- The run over a stream of which so many rows, of so many bytes, were accepted, and whose bytes after them are the window. A stream of
-- more than 4,294,967,295 bytes is refused by 1, and so are more rows than bytes, which no stream has.
unfoldable pub run_after : Format → Settings → ℕ → ℕ → List ℕ → Ran
run_after f s rows bytes window =
    pick (leb rows bytes and leb (bytes + length window) longest_slice)
    (added (record { rows = rows; bytes = bytes; stop = Ok tt }) (ran_of (run_rule f s window)))
    (ran_of (refused_run Setting))
