-- By the tests.
-- Assumes nothing.
use borrow.Author.Tests.{lt-ltb, le-ltb}
use Rattle.rules.specs.Choice.{pick}
use Rattle.texts.specs.Records.{is_stored}
use Rattle.texts.proofs.is_stored.Goals as goal

pub returns-then-kind-lt6 : goal.returns-then-kind-lt6
unfolding is_stored pick
returns-then-kind-lt6 c = rw (lt-ltb _ _ c.if-kind-lt13.true, lt-ltb _ _ c.if-kind-lt6.true)

pub returns-then-kind-lt13 : goal.returns-then-kind-lt13
unfolding is_stored pick
returns-then-kind-lt13 c = rw (lt-ltb _ _ c.if-kind-lt13.true, le-ltb _ _ c.if-kind-lt6.false)

pub returns : goal.returns
unfolding is_stored pick
returns c = rw (le-ltb _ _ c.if-kind-lt13.false)
