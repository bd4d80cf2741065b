use borrow.Author.Tests.{lt-ltb, le-ltb}
use Rattle.rules.specs.Choice.{pick}
use Rattle.rules.specs.View.{child_count}
use Rattle.view.proofs.children_of.Goals as goal

pub returns-then-kind-lt15 : goal.returns-then-kind-lt15
unfolding child_count pick
returns-then-kind-lt15 c = rw (lt-ltb _ _ c.if-kind-lt15.true)

pub returns : goal.returns
unfolding child_count pick
returns c = rw (le-ltb _ _ c.if-kind-lt15.false)
