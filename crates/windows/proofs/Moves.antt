-- A refusal told of the stream in which its window starts, and what a window adds to the run before it.
-- Assumes nothing.
use Rattle.std.proofs.Common.{Ok, Err}
use Prim.Native.Nat.{ℕ, ◌+◌, ◌≤◌, ◌<◌}
use mathlib.Core.Path.{◌≡◌, ◌∙◌}
use mathlib.Core.Bool.{true, false}
use mathlib.Core.List.{List}
use borrow.Author.Tests.{le-leb, lt-leb}
use lib.Dec.{leb}
use lib.ListN.{length}
use Rattle.rules.specs.Choice.{pick, ◌and◌}
use Rattle.rules.specs.Refusals.{Setting, line_of, in_bytes}
use Rattle.rules.specs.Bytes.{Bytes}
use Rattle.rules.specs.Format.{Format}
use Rattle.rules.specs.Reading.{refused_run, run_rule, row_count, byte_count, ran_of}
use Rattle.rules.specs.Windows.{moved, PlaceInside, moved_stop, added, run_after}
use Rattle.rules.specs.declared.settings.Settings.{Settings}
use Rattle.rules.proofs.Tests.{and_false}
use Rattle.row_laws.proofs.Windows.{RanInside, ran_inside}
use Rattle.rules.specs.declared.refusal.Refusal.{Refusal}
use Rattle.rules.specs.declared.refusal.RefusalLine.{RefusalLine}
use Rattle.rules.specs.declared.answer.Ran.{Ran}

-- a refusal by its line's word on its place
module _ (n : ℕ) (r : Refusal) (l : RefusalLine) (e : l ≡ in_bytes (line_of r.why)) where
  moves_as : (line_of r.why).moves ≡ l.moves
  unfolding in_bytes
  moves_as = rw e

  pub place_stays : l.moves ≡ false → r ≡ moved n r
  unfolding moved pick
  place_stays f = rw (moves_as, f)

  pub place_moves : l.moves ≡ true → record { why = r.why; place = r.place + n } ≡ moved n r
  unfolding moved pick
  place_moves t = rw (moves_as, t)

  pub place_fits : l.moves ≡ true → PlaceInside n r → r.place ≤ n
  place_fits t i = i (moves_as ∙ t)

-- what a window adds to what was counted before it, by how the window's run stops
pub adds_end : (before ran : Ran) → ran.stop ≡ Ok tt → record { rows = before.rows + ran.rows; bytes = before.bytes + ran.bytes; stop = Ok tt } ≡ added before ran
unfolding added moved_stop
adds_end before ran e = rw e

pub adds_refused : (before ran : Ran) (why m : Refusal) → ran.stop ≡ Err why → m ≡ moved before.bytes why → record { rows = before.rows + ran.rows; bytes = before.bytes + ran.bytes; stop = Err m } ≡ added before ran
unfolding added moved_stop
adds_refused before ran why m e k = rw (e, k)

-- the run over a window counts within it
pub run_inside : (f : Format) (s : Settings) (window : List ℕ) → Bytes window → (ran : Ran) → ran ≡ ran_of (run_rule f s window) → RanInside (length window) ran
run_inside f s window bytes ran e = rw e (ran_inside f s window bytes)

-- the run after some rows and bytes, by what is tested first
module _ (f : Format) (s : Settings) (rows bytes : ℕ) (window : List ℕ) where
  abbrev refused : Ran
  refused = record { rows = 0; bytes = 0; stop = Err Setting }

  pub after_too_many_rows : bytes < rows → refused ≡ run_after f s rows bytes window
  unfolding run_after pick ◌and◌ ran_of refused_run row_count byte_count
  after_too_many_rows h = rw (lt-leb rows bytes h)

  pub after_too_long : 4294967295 < bytes + length window → refused ≡ run_after f s rows bytes window
  unfolding run_after pick ran_of refused_run row_count byte_count
  after_too_long h = rw (lt-leb (bytes + length window) 4294967295 h, and_false (leb rows bytes))

  pub after_some : rows ≤ bytes → bytes + length window ≤ 4294967295 → added (record { rows = rows; bytes = bytes; stop = Ok tt }) (ran_of (run_rule f s window)) ≡ run_after f s rows bytes window
  unfolding run_after pick ◌and◌
  after_some h k = rw (le-leb rows bytes h, le-leb (bytes + length window) 4294967295 k)
