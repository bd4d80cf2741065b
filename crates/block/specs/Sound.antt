-- What the form of a block lets the steps after it rely on.
-- Assumes nothing: these are definitions.
use Rattle.std.specs.Prelude.{ℕ, ◌+◌, ◌≤◌, List}
use Rattle.rules.specs.Block.{records, block, Ordered}

-- it lies in the table, and its records are in level order
pub record SoundBlock (table : List ℕ) (first n : ℕ) : Type 0 where
  pub within : first + n ≤ records table
  pub order : Ordered (block table first n)
