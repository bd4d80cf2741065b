use borrow.Author.Tests.{eq-eqb, ne_eqb}
use Rattle.rules.specs.Choice.{pick}
use Rattle.rules.specs.Format.{inline_rule}
use Rattle.schema.proofs.order.inline_rule.Goals as goal

pub returns-then-kind-eq0 : goal.returns-then-kind-eq0
unfolding inline_rule pick
returns-then-kind-eq0 c = rw (eq-eqb _ _ c.if-kind-eq0.true) c.block_rule.ensures

pub returns : goal.returns
unfolding inline_rule pick
returns c = rw (ne_eqb _ _ c.if-kind-eq0.false)
