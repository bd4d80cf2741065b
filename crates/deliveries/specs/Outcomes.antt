-- What is told of a stream that is read in windows.
-- Assumes nothing: these are definitions.
use Rattle.std.specs.Prelude.{ℕ, ◌<◌, List, ℤ, length, eqb, Result, Ok}
use Rattle.rules.specs.Bytes.{Bytes, longest_slice}
use Rattle.rules.specs.Format.{Format}
use Rattle.rules.specs.Reading.{run_rule, ran_of}
use Rattle.rules.specs.declared.answer.Ran.{Ran}
use Rattle.rules.specs.declared.settings.Settings.{Settings}
use Rattle.windows.specs.Steps.{Stream}
use Rattle.windows.specs.declared.space.Ends.{Ends}
use Rattle.reads.specs.Outcomes.{outcome_of}
use Rattle.reads.specs.declared.RunFailure.{RunFailure}

-- What is told of a stream under a format and settings, where `space` is what the space holds afterwards. Some bytes were read, and the
-- run over them is told as the last read has it; the bytes after the run's rows, where the run may go on over them, stand in the window. Or
-- too many were read, and the run over them is told.
pub data Answers (f : Format) (s : Settings) (ends : Ends) (space : List ℕ) : Result Ran RunFailure → Type 0 where
  read : {end n : ℕ} {ran : Ran} → Stream f s ends space end ran n → (last : ℤ) → Answers f s ends space (outcome_of last ran (eqb end (length space)))
  long : (stream : List ℕ) → Bytes stream → longest_slice < length stream → Answers f s ends space (Ok (ran_of (run_rule f s stream)))
