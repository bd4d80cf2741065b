-- Number by number.
-- Assumes nothing.
use native.Mathlib.Omega.{arith}
use Rattle.rules.specs.Choice.{pick, ◌and◌}
use Rattle.index.specs.Passes.{same_span}
use Rattle.index.proofs.records.same_span.Goals as goal

pub returns-then-indexed-row : goal.returns-then-indexed-row
unfolding same_span ◌and◌ pick
returns-then-indexed-row c = grind arith

pub returns-else-indexed-row : goal.returns-else-indexed-row
unfolding same_span ◌and◌ pick
returns-else-indexed-row c = grind arith
