use native.Mathlib.Omega.{arith}
use borrow.Author.Tests.{lt-ltb, le-ltb}
use Rattle.rules.specs.ValueTable.{bit}
use Rattle.fill.proofs.stored_boolean.Goals as goal

pub returns-then-x-eq0 : goal.returns-then-x-eq0
unfolding bit
returns-then-x-eq0 c = rw (le-ltb 0 c.args.x (omega (arith, c.if-x-eq0.true)))

pub returns-else-x-eq0 : goal.returns-else-x-eq0
unfolding bit
returns-else-x-eq0 c = rw (lt-ltb 0 c.args.x (omega (arith, c.if-x-eq0.false)))
