-- The space, and what a step of the reading makes of the run so far.
-- Assumes nothing: these are definitions.
use Rattle.std.specs.Prelude.{ℕ, ◌-◌, ◌≤◌, ◌≡◌, true, List, ◌++◌, length, take, drop}
use Rattle.rules.specs.Bytes.{Bytes, longest_slice}
use Rattle.rules.specs.Format.{Format}
use Rattle.rules.specs.Reading.{run_rule, ran_of}
use Rattle.rules.specs.Windows.{goes_on}
use Rattle.rules.specs.declared.answer.Ran.{Ran}
use Rattle.rules.specs.declared.settings.Settings.{Settings}
use Rattle.schema.specs.Slices.{slices}
use Rattle.windows.specs.declared.space.Ends.{Ends}

-- the bytes of a list from one position up to another
abbrev pub cut : List ℕ → ℕ → ℕ → List ℕ
cut s from to = take (to - from) (drop from s)

-- the tables in a space
abbrev pub format_in : List ℕ → Ends → Format
format_in s ends = slices (cut s 0 ends.records) (cut s ends.records ends.names) (cut s ends.names ends.references) (cut s ends.references ends.registry)

-- the run over a stream, and, where bytes to come may change it, what its rows have left of the stream
pub record RunsOver (f : Format) (s : Settings) (stream : List ℕ) (ran : Ran) (left : List ℕ) : Type 0 where
  pub is : ran ≡ ran_of (run_rule f s stream)
  pub rest : goes_on ran.stop ≡ true → left ≡ drop ran.bytes stream

-- From the run so far, and a window in which more bytes stand behind what it has left, to the run over all of these bytes. The stream so
-- far is known to nobody: this holds for each that the run so far can be of.
unfoldable pub GoesOver : Format → Settings → Ran → List ℕ → Ran → List ℕ → Type 0
GoesOver f s ran window next left =
    (stream more before : List ℕ) → RunsOver f s stream ran before → window ≡ before ++ more → Bytes (stream ++ more) → length (stream ++ more) ≤ longest_slice →
    RunsOver f s (stream ++ more) next left

-- Some n bytes have been read: over them the run so far is, and what it may go on over stands in the window, behind the tables of f.
pub record Stream (f : Format) (s : Settings) (ends : Ends) (space : List ℕ) (end : ℕ) (ran : Ran) (n : ℕ) : Type 0 where
  pub read : List ℕ
  pub bytes : Bytes read
  pub size : length read ≡ n
  pub runs : RunsOver f s read ran (cut space ends.registry end)
  pub behind : format_in space ends ≡ f
