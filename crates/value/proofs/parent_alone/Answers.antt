use borrow.Author.Tests.{lt-leb, le-leb, eq-eqb, ne_eqb}
use Rattle.rules.specs.Choice.{pick, ◌and◌}
use Rattle.rules.specs.Query.{parent_alone}
use Rattle.value.proofs.parent_alone.Goals as goal

pub returns-then-kind-gt17 : goal.returns-then-kind-gt17
unfolding parent_alone pick ◌and◌
returns-then-kind-gt17 c = rw (lt-leb _ _ c.if-kind-gt17.true)

pub returns-then-content-ne0 : goal.returns-then-content-ne0
unfolding parent_alone pick ◌and◌
returns-then-content-ne0 c = rw (le-leb _ _ c.if-kind-gt17.false, ne_eqb _ _ c.if-content-ne0.true)

pub returns-then-kind-eq15 : goal.returns-then-kind-eq15
unfolding parent_alone pick ◌and◌
returns-then-kind-eq15 c = rw (le-leb _ _ c.if-kind-gt17.false, eq-eqb _ _ c.if-content-ne0.false, eq-eqb _ _ c.if-kind-eq15.true)

pub returns : goal.returns
unfolding parent_alone pick ◌and◌
returns c = rw (le-leb _ _ c.if-kind-gt17.false, eq-eqb _ _ c.if-content-ne0.false, ne_eqb _ _ c.if-kind-eq15.false)
