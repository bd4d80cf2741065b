use borrow.Author.Tests.{lt-ltb, le-ltb}
use Rattle.rules.specs.Choice.{pick}
use Rattle.rules.specs.Query.{record_said}
use Rattle.query.proofs.Says.{scalar_alone_lem}
use Rattle.query.proofs.record_said.Goals as goal

pub scalar_said-requires : goal.scalar_said-requires
scalar_said-requires c = (c.if-kind-lt15.true, scalar_alone_lem c.args.r c.requires c.if-kind-lt15.true)

pub returns-then-kind-lt15 : goal.returns-then-kind-lt15
unfolding record_said pick
returns-then-kind-lt15 c = rw (lt-ltb _ _ c.if-kind-lt15.true) c.scalar_said.ensures

pub returns : goal.returns
unfolding record_said pick
returns c = rw (le-ltb _ _ c.if-kind-lt15.false)
