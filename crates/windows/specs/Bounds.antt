-- Where the tables and the window lie in the space, and how much may be counted.
-- Assumes nothing: these are definitions.
use Rattle.std.specs.Prelude.{ℕ, ◌+◌, ◌-◌, ◌≤◌}
use Rattle.rules.specs.Bytes.{longest_slice}
use Rattle.rules.specs.declared.answer.Ran.{Ran}
use Rattle.windows.specs.declared.space.Ends.{Ends}

-- in a space of n bytes the tables end one behind the other, and the window behind them at `end`
pub record Laid (ends : Ends) (end n : ℕ) : Type 0 where
  pub names : ends.records ≤ ends.names
  pub references : ends.names ≤ ends.references
  pub registry : ends.references ≤ ends.registry
  pub window : ends.registry ≤ end
  pub within : end ≤ n

-- the run so far and n bytes to come are of one stream that is short enough
pub record Counted (ran : Ran) (n : ℕ) : Type 0 where
  pub few : ran.rows ≤ ran.bytes
  pub short : ran.bytes + n ≤ longest_slice

-- a run that went on over n bytes
pub record Further (before ran : Ran) (n : ℕ) : Type 0 where
  pub few : ran.rows ≤ ran.bytes
  pub on : before.bytes ≤ ran.bytes
  pub within : ran.bytes ≤ before.bytes + n

-- of `read` bytes of a stream those after the run's rows lie in the window
pub record Standing (ran : Ran) (w end n read : ℕ) : Type 0 where
  pub window : w ≤ end
  pub within : end ≤ n
  pub few : ran.rows ≤ ran.bytes
  pub held : ran.bytes + (end - w) ≤ read
  pub short : read ≤ longest_slice
