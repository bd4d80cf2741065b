use native.Mathlib.Omega.{arith}
use borrow.Author.Tests.{le-leb, lt-leb}
use Rattle.rules.specs.Choice.{pick}
use Rattle.leaves.specs.Fields.{payload_of_fixed}
use Rattle.leaves.proofs.fields.payload_of_fixed.Goals as goal

pub returns-then-width-le8 : goal.returns-then-width-le8
unfolding payload_of_fixed pick
returns-then-width-le8 c = (rw (le-leb _ _ c.if-width-le8.true), omega arith)

pub returns-else-width-le8 : goal.returns-else-width-le8
unfolding payload_of_fixed pick
returns-else-width-le8 c = (rw (lt-leb _ _ c.if-width-le8.false), omega arith)
