use borrow.Author.Tests.{eq-eqb, ne_eqb, le-leb, lt-leb}
use Rattle.rules.specs.Choice.{pick}
use Rattle.rules.specs.SchemaRules.{node_rule}
use Rattle.block.proofs.validation.node_rule.Goals as goal

pub returns-then-children-eq0 : goal.returns-then-children-eq0
unfolding node_rule pick
returns-then-children-eq0 c = rw (← c.maximum_of-most.ensures, c.in-Zero.is, eq-eqb _ _ c.if-children-eq0.true)

pub returns-then-children-maximum : goal.returns-then-children-maximum
unfolding node_rule pick
returns-then-children-maximum c = rw (← c.maximum_of-most.ensures, c.in-UpTo.is, le-leb _ _ c.if-children-maximum.true)

pub returns-else-children-eq0 : goal.returns-else-children-eq0
unfolding node_rule pick
returns-else-children-eq0 c = rw (← c.maximum_of-most.ensures, c.in-Zero.is, ne_eqb _ _ c.if-children-eq0.false)

pub returns-else-children-maximum : goal.returns-else-children-maximum
unfolding node_rule pick
returns-else-children-maximum c = rw (← c.maximum_of-most.ensures, c.in-UpTo.is, lt-leb _ _ c.if-children-maximum.false)

pub returns-in-Any : goal.returns-in-Any
unfolding node_rule
returns-in-Any c = rw (← c.maximum_of-most.ensures, c.in-Any.is)

pub returns-in-Unknown : goal.returns-in-Unknown
unfolding node_rule
returns-in-Unknown c = rw (← c.maximum_of-most.ensures, c.in-Unknown.is)
