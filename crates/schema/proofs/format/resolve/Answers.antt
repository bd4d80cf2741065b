use borrow.Author.Tests.{eq-eqb, ne_eqb}
use Rattle.rules.specs.Choice.{pick}
use Rattle.rules.specs.Format.{resolved}
use Rattle.schema.proofs.format.resolve.Goals as goal

pub returns-then-kind-eq0 : goal.returns-then-kind-eq0
unfolding resolved pick
returns-then-kind-eq0 c = rw (eq-eqb _ _ c.if-kind-eq0.true)

pub returns : goal.returns
unfolding resolved pick
returns c = rw (ne_eqb _ _ c.if-kind-eq0.false) c.lookup.ensures
