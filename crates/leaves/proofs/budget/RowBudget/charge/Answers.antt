use borrow.Author.Tests.{le-leb, lt-leb}
use Rattle.rules.specs.Choice.{pick}
use Rattle.leaves.specs.Budget.{spent}
use Rattle.leaves.proofs.budget.RowBudget.charge.Goals as goal

pub returns-then-remaining-bytes : goal.returns-then-remaining-bytes
unfolding spent pick
returns-then-remaining-bytes c = rw (lt-leb _ _ c.if-remaining-bytes.true)

pub returns : goal.returns
unfolding spent pick
returns c = rw (le-leb _ _ c.if-remaining-bytes.false)
