use borrow.Author.Tests.{le-leb, lt-leb}
use Rattle.rules.specs.Choice.{◌and◌}
use Rattle.utf8.proofs.check.between.Goals as goal

pub returns-then-low-b : goal.returns-then-low-b
unfolding ◌and◌
returns-then-low-b c = rw (le-leb _ _ c.if-low-b.true)

pub returns : goal.returns
unfolding ◌and◌
returns c = rw (lt-leb _ _ c.if-low-b.false)
