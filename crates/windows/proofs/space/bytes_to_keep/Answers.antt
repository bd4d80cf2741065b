-- What is left, or nothing.
-- Assumes nothing.
use native.Mathlib.Omega.{arith}
use Rattle.rules.specs.Choice.{pick}
use Rattle.windows.proofs.space.bytes_to_keep.Goals as goal

pub returns-then-goes_on : goal.returns-then-goes_on
unfolding pick
returns-then-goes_on c = (rw (← c.goes_on.ensures, c.if-goes_on.true), omega arith)

pub returns-else-goes_on : goal.returns-else-goes_on
unfolding pick
returns-else-goes_on c = (rw (← c.goes_on.ensures, c.if-goes_on.false), omega arith)
